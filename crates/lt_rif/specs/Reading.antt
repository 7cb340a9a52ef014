-- Where a reader of replies stands, and what its answers tell.
use Rattle.std.specs.Prelude.{◌≡◌, ◌≤◌, ℕ, ◌+◌, Bool, true, false, List, [], ◌∷◌, ◌++◌, length, drop, None, Some}
use Rattle.std.specs.declared.option.Option.{Option}
use Rattle.lt_num.specs.declared.value.Value.{Value}
use Rattle.lt_rif.specs.Reply.{Reply, whole, needs, short, malformed, Begun, beginning, reply_in, longest}
use Rattle.lt_rif.specs.Word.{words_of}
use Rattle.lt_rif.specs.declared.reader.Refusal.{Refusal}
use Rattle.lt_rif.specs.declared.reader.Reader.{Reader}
use Rattle.lt_rif.specs.declared.reader.Fed.{Fed}
use Rattle.lt_rif.specs.declared.reader.Fed.TheVariants as fed
use Rattle.lt_rif.specs.declared.reader.Closing.{Closing}
use Rattle.lt_rif.specs.declared.reader.Closing.TheVariants as closing
use Rattle.lt_rif.specs.declared.slot.Slot.{Slot}
use Rattle.lt_rif.specs.View.{begun}

-- where a reader stands
pub record Reading : Type 0 where
  -- the slots of every reply
  pub slots : List Slot
  -- what has come of the reply at hand, up to the last blank
  pub begun : Begun
  -- what has come after that
  pub text : List ℕ
  -- why and where the reply at hand was refused
  pub refusal : Option Refusal

-- where a reader stands
abbrev pub reading : Reader → Reading
reading r = record { slots = r.draft.slots.items; begun = begun r.draft; text = r.draft.word.items; refusal = r.refusal }

-- the values that the last whole reply keeps
abbrev pub values_of : Reader → List Value
values_of r = r.values.items

-- how many bytes of its stream a reader was given
abbrev pub given : Reading → ℕ
given r = r.begun.place + r.begun.taken + length r.text

-- the reply that a reader finds where these bytes come, for a reply that has begun
abbrev pub found : List Slot → Option Refusal → Begun → List ℕ → List ℕ → Bool → Reply
found slots (Some refusal) r text bytes closed = malformed refusal.fault refusal.place
found [] None r text bytes closed = whole [] (record { place = r.place; bytes = bytes; is_closed = closed })
found (slot ∷ slots) None r text bytes closed = reply_in closed r (words_of text bytes)

-- the reply at hand, where these are the bytes that come
unfoldable pub answer : Reading → List ℕ → Bool → Reply
answer r bytes closed = found r.slots r.refusal r.begun r.text bytes closed

-- a reader of which the next reply begins at this place
abbrev pub between : ℕ → List Slot → ℕ → Reading
between decimals slots place = record { slots = slots; begun = beginning decimals slots place; text = []; refusal = None }

-- What an answer of `feed` to a piece tells: the replies that the reader found before, and finds after it.
abbrev pub FedTells : Reading → List ℕ → Fed → Reading → List Value → Type 0
-- the reply isn't whole; what it is depends on what comes
FedTells old piece fed.More new values =
    ((bytes : List ℕ) (closed : Bool) → answer old (piece ++ bytes) closed ≡ answer new bytes closed)
    × (answer new [] false ≡ needs)
-- so many bytes end it, and the next one begins
FedTells old piece (fed.Whole n) new values =
    (n ≤ length piece)
    × ((bytes : List ℕ) (closed : Bool) →
    answer old (piece ++ bytes) closed ≡ whole values (record { place = new.begun.place; bytes = drop n piece ++ bytes; is_closed = closed }))
    × (new ≡ between old.begun.decimals old.slots new.begun.place)
-- it is refused, whatever comes
FedTells old piece (fed.Malformed f place) new values =
    ((bytes : List ℕ) (closed : Bool) → answer old (piece ++ bytes) closed ≡ malformed f place)
    × ((bytes : List ℕ) (closed : Bool) → answer new bytes closed ≡ malformed f place)

-- Where the reply at hand begins after a piece, and how many bytes were given then.
abbrev pub FedMoves : Reading → List ℕ → Fed → Reading → Type 0
-- the next reply begins after the bytes that end this one, which took no more than it may
FedMoves old piece (fed.Whole n) new = (new.begun.place ≡ given old + n) × (new.begun.place ≤ old.begun.place + longest)
FedMoves old piece fed.More new = (new.begun.place ≡ old.begun.place) × (given new ≡ given old + length piece)
FedMoves old piece (fed.Malformed f place) new = new.begun.place ≡ old.begun.place

-- The values of the last whole reply stay until there is another one.
abbrev pub FedKeeps : Fed → List Value → List Value → Type 0
FedKeeps (fed.Whole n) old new = Unit {0}
FedKeeps fed.More old new = new ≡ old
FedKeeps (fed.Malformed f place) old new = new ≡ old

-- What an answer of `finish` tells.
abbrev pub ClosingTells : Reading → Closing → Reading → List Value → Type 0
-- the end of the stream ends the reply, and the next one begins there
ClosingTells old closing.Whole new values =
    (answer old [] true ≡ whole values (record { place = new.begun.place; bytes = []; is_closed = true })) × (new ≡ between old.begun.decimals old.slots new.begun.place)
-- the stream is too short
ClosingTells old (closing.Short n) new values = (answer old [] true ≡ short n) × (new ≡ old)
-- the reply is refused
ClosingTells old (closing.Malformed f place) new values = (answer old [] true ≡ malformed f place) × ((bytes : List ℕ) (closed : Bool) → answer new bytes closed ≡ malformed f place)

-- where the reply at hand begins after the end
abbrev pub ClosingMoves : Reading → Closing → Reading → Type 0
ClosingMoves old closing.Whole new = (new.begun.place ≡ given old) × (new.begun.place ≤ old.begun.place + longest)
ClosingMoves old (closing.Short n) new = new.begun.place ≡ old.begun.place
ClosingMoves old (closing.Malformed f place) new = new.begun.place ≡ old.begun.place

-- the values of the last whole reply stay until there is another one
abbrev pub ClosingKeeps : Closing → List Value → List Value → Type 0
ClosingKeeps closing.Whole old new = Unit {0}
ClosingKeeps (closing.Short n) old new = new ≡ old
ClosingKeeps (closing.Malformed f place) old new = new ≡ old

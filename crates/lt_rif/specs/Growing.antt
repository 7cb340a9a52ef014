-- Streams that grow.
use Rattle.std.specs.Prelude.{◌≡◌, ℕ, Bool, false, List, ◌++◌}
use Rattle.lt_rif.specs.Reply.{Stream, Reply, whole, needs, short, malformed, reply_of}
use Rattle.lt_rif.specs.declared.slot.Slot.{Slot}

-- what is left of an open stream, once these bytes came after it, and its end or not
abbrev pub grown : Stream → List ℕ → Bool → Stream
grown s more closed = record { place = s.place; bytes = s.bytes ++ more; is_closed = closed }

-- What a reply on an open stream tells of the reply on the same stream once more has come.
abbrev pub Grows : Reply → List ℕ → Bool → Reply → Type 0
-- a whole reply is the same, and more is left
Grows (whole values left) more closed long = (left.is_closed ≡ false) × (long ≡ whole values (grown left more closed))
-- a refused one is the same
Grows (malformed f place) more closed long = long ≡ malformed f place
-- one that isn't whole may become anything
Grows needs more closed long = Unit {0}
-- an open stream is never too short
Grows (short n) more closed long = ⊥

-- What an open stream has for a reply stays so, however it goes on.
abbrev pub RepliesGrow : Type 0
RepliesGrow =
    (decimals : ℕ) (slots : List Slot) (s : Stream) (more : List ℕ) (closed : Bool) → s.is_closed ≡ false →
    Grows (reply_of decimals slots s) more closed (reply_of decimals slots (grown s more closed))

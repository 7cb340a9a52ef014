-- What a reply is, on a whole stream.
use Rattle.std.specs.Prelude.{ℕ, ◌+◌, Bool, true, false, not, ◌==◌, nat_lt, nat_le, List, [], ◌∷◌, ◌++◌, length, if◌then◌else◌, Ok, Err}
use Rattle.std.specs.declared.result.Result.{Result}
use Rattle.lt_num.specs.declared.value.Value.{Value}
use Rattle.lt_rif.specs.Judgement.{judged}
use Rattle.lt_rif.specs.Word.{Words, last, word, words_of, class_of}
use Rattle.lt_rif.specs.declared.fault.ValueFault.{ValueFault}
use Rattle.lt_rif.specs.declared.fault.ValueFault.TheVariants as fault
use Rattle.lt_rif.specs.declared.slot.Slot.{Slot}
use Rattle.lt_rif.specs.declared.word.WordClass.{WordClass}
use Rattle.lt_rif.specs.declared.word.WordClass.TheVariants as class

-- how many bytes a reply may take
abbrev pub longest : ℕ
longest = 65_536

-- what is left of a stream
pub record Stream : Type 0 where
  -- how many bytes of the stream stand before these
  pub place : ℕ
  pub bytes : List ℕ
  -- no byte comes after them
  pub is_closed : Bool

-- what a stream has for a reply
pub data Reply : Type 0 where
  -- the values that are kept, and what is left of the stream after the reply
  whole : List Value → Stream → Reply
  -- the reply isn't whole yet, and nothing in it is refused
  needs : Reply
  -- the stream ended before the reply was whole, which takes so many bytes
  short : ℕ → Reply
  -- refused, and the place in the stream
  malformed : ValueFault → ℕ → Reply

-- what has come of a reply
pub record Begun : Type 0 where
  -- how many decimals its reals have
  pub decimals : ℕ
  -- the slots that have no value yet
  pub slots : List Slot
  -- the values that are kept
  pub values : List Value
  -- whether a comment goes on
  pub is_comment : Bool
  -- how many bytes were taken for it
  pub taken : ℕ
  -- the place of its first byte
  pub place : ℕ

-- what a word makes of a reply
pub data Progress : Type 0 where
  -- it goes on
  more : Begun → Progress
  -- it is whole, with these values
  done : List Value → Progress
  -- it is refused, and the place
  refused : ValueFault → ℕ → Progress

-- a word was passed, with the byte after it; a comment goes on after it or not
abbrev pub past : Begun → List ℕ → Bool → Begun
past r text is_comment = record r { is_comment = is_comment; taken = r.taken + length text + 1 }

-- the values and a further one, where its slot keeps it
abbrev pub with_value : List Value → Slot → Value → List Value
with_value values slot v = if slot.keep then values ++ v ∷ [] else values

-- a slot got a value by a word; these slots and values are there after it
abbrev pub filled : Begun → List ℕ → List Slot → List Value → Progress
filled r text [] values = done values
filled r text (slot ∷ slots) values = more (record r { slots = slot ∷ slots; values = values; is_comment = false; taken = r.taken + length text + 1 })

-- a word was judged for a slot; these slots are left after it
abbrev pub with_judged : Begun → List ℕ → Slot → List Slot → Result Value ValueFault → Progress
with_judged r text slot slots (Ok v) = filled r text slots (with_value r.values slot v)
with_judged r text slot slots (Err f) = refused f (r.place + r.taken)

-- a value's word comes for the first of some slots
abbrev pub with_word : Begun → List ℕ → List Slot → Progress
with_word r text [] = done r.values
with_word r text (slot ∷ slots) = with_judged r text slot slots (judged r.decimals slot text)

-- a word outside comments, and whether its line ends after it
abbrev pub with_class : Begun → List ℕ → Bool → WordClass → Progress
with_class r text ends_line class.Passed = more (past r text false)
with_class r text ends_line class.Comment = more (past r text (not ends_line))
with_class r text ends_line class.Value = with_word r text r.slots

-- a word, and whether its line ends after it
abbrev pub after_word : Begun → List ℕ → Bool → Progress
after_word r text ends_line = if r.is_comment then more (past r text (not ends_line)) else with_class r text ends_line (class_of text)

-- a word with the blank after it, what is left of the stream, and what to do where the reply goes on
abbrev pub go_on : Progress → Stream → (Begun → Reply) → Reply
go_on (more r) left go = go r
go_on (done values) left go = whole values left
go_on (refused f place) left go = malformed f place

-- a word at the end of the stream, with so many bytes taken
abbrev pub stop : Progress → ℕ → Stream → Reply
stop (more r) taken left = short taken
stop (done values) taken left = whole values left
stop (refused f place) taken left = malformed f place

-- What a reply is that has begun, with these words after it. It is too long where a word ends past the longest reply, or
-- hasn't ended there.
abbrev pub reply_in : Bool → Begun → Words → Reply
reply_in closed r (last text) =
    if nat_le longest (r.taken + length text) then malformed fault.TooLong r.place
    else (if closed then stop (after_word r text true) (r.taken + length text) (record { place = r.place + r.taken + length text; bytes = []; is_closed = true }) else needs)
reply_in closed r (word text blank after ws) =
    if nat_lt longest (r.taken + length text + 1) then malformed fault.TooLong r.place
    else go_on (after_word r text (blank == 10)) (record { place = r.place + r.taken + length text + 1; bytes = after; is_closed = closed }) (λ r. reply_in closed r ws)

-- a reply of which no byte has come
abbrev pub beginning : ℕ → List Slot → ℕ → Begun
beginning decimals slots place = record { decimals = decimals; slots = slots; values = []; is_comment = false; taken = 0; place = place }

-- the reply of these slots, whose reals have so many decimals, on a stream
abbrev pub reply_of : ℕ → List Slot → Stream → Reply
reply_of decimals [] s = whole [] s
reply_of decimals (slot ∷ slots) s = reply_in s.is_closed (beginning decimals (slot ∷ slots) s.place) (words_of [] s.bytes)

-- Streams that are cut into pieces.
use Rattle.std.specs.Prelude.{◌≡◌, ℕ, zero, suc, List, [], ◌∷◌, ◌++◌, length, drop}
use Rattle.lt_num.specs.declared.value.Value.{Value}
use Rattle.lt_rif.specs.Reading.{Reading, between, answer, FedTells}
use Rattle.lt_rif.specs.Reply.{Stream, Reply, whole, needs, short, malformed, reply_of}
use Rattle.lt_rif.specs.declared.fault.ValueFault.{ValueFault}
use Rattle.lt_rif.specs.declared.reader.Fed.{Fed}
use Rattle.lt_rif.specs.declared.reader.Fed.TheVariants as fed
use Rattle.lt_rif.specs.declared.slot.Slot.{Slot}

-- Between two replies, the reply at hand is the next one of the stream.
abbrev pub NextReplyIsAtHand : Type 0
NextReplyIsAtHand = (decimals : ℕ) (slots : List Slot) (s : Stream) → answer (between decimals slots s.place) s.bytes s.is_closed ≡ reply_of decimals slots s

-- a call of `feed`
pub record Call : Type 0 where
  -- its piece and its answer
  pub piece : List ℕ
  pub fed : Fed
  -- where the reader stands after it, and the values of the last whole reply then
  pub after : Reading
  pub values : List Value

-- it answers as the contract of `feed` says
pub record IsCall (old : Reading) (call : Call) : Type 0 where
  pub tells : FedTells old call.piece call.fed call.after call.values
  pub slots : call.after.slots ≡ old.slots
  pub decimals : call.after.begun.decimals ≡ old.begun.decimals

-- what is left of the bytes of a stream after a piece and the rest
abbrev pub left_of : List ℕ → Fed → List ℕ → List ℕ
left_of piece (fed.Whole n) rest = drop n piece ++ rest
left_of piece fed.More rest = rest
left_of piece (fed.Malformed f place) rest = rest

-- Calls in turn. The piece of each stands at the prefix of the bytes that those before it left.
abbrev pub Feeds : Reading → List ℕ → List Call → Type 0
Feeds r bytes [] = Unit {0}
Feeds r bytes (call ∷ calls) = (rest : List ℕ) × IsCall r call × (bytes ≡ call.piece ++ rest) × Feeds call.after (left_of call.piece call.fed rest) calls

-- what is found in a stream
pub data Finding : Type 0 where
  -- a reply's values, and the place after it
  reply : List Value → ℕ → Finding
  -- why and where a reply is refused
  refusal : ValueFault → ℕ → Finding

-- what a call finds, and those after it
abbrev pub found_then : Fed → List Value → ℕ → List Finding → List Finding
found_then fed.More values place more = more
found_then (fed.Whole n) values place more = reply values place ∷ more
found_then (fed.Malformed f at) values place more = refusal f at ∷ []

-- what calls find, up to a refusal
abbrev pub findings_of : List Call → List Finding
findings_of [] = []
findings_of (call ∷ calls) = found_then call.fed call.values call.after.begun.place (findings_of calls)

-- a reply of a stream, and those after it
abbrev pub reply_then : Reply → (Stream → List Finding) → List Finding
reply_then (whole values left) go = reply values left.place ∷ go left
reply_then (malformed f place) go = refusal f place ∷ []
reply_then needs go = []
reply_then (short n) go = []

-- so many replies of a stream, in turn, up to a refusal
abbrev pub replies_of : ℕ → ℕ → List Slot → Stream → List Finding
replies_of zero decimals slots s = []
replies_of (suc n) decimals slots s = reply_then (reply_of decimals slots s) (replies_of n decimals slots)

-- However a stream is cut, what calls find are the replies of the stream, one after another.
abbrev pub CutsChangeNothing : Type 0
CutsChangeNothing =
    (decimals : ℕ) (slots : List Slot) (s : Stream) (calls : List Call) → Feeds (between decimals slots s.place) s.bytes calls →
    findings_of calls ≡ replies_of (length (findings_of calls)) decimals slots s

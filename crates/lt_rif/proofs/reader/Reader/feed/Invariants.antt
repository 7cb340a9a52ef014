use Rattle.std.proofs.Common.{◌≡◌, ◌+◌, ◌-◌, ◌≤◌, ◌++◌, ℕ, Bool, List, length, drop, None}
use Rattle.lt_rif.specs.Reading.{answer, given, reading, values_of}
use Rattle.lt_rif.proofs.reader.Reader.feed.Given as goal

-- what was read so far, and what is left of the piece, is the piece
abbrev pub invariant-loop-used : goal.invariant-loop-used
invariant-loop-used l = record {
  within : l.used ≤ length l.piece;
  goes_on : l.self.refusal ≡ None;
  slots : l.self.draft.slots ≡ l.fn.self.draft.slots;
  decimals : l.self.draft.decimals ≡ l.fn.self.draft.decimals;
  place : l.self.draft.place ≡ l.fn.self.draft.place;
  taken : given (reading l.self) ≡ given (reading l.fn.self) + l.used;
  values : values_of l.self ≡ values_of l.fn.self;
  same : (bytes : List ℕ) (closed : Bool) → answer (reading l.fn.self) (l.piece ++ bytes) closed ≡ answer (reading l.self) (drop l.used l.piece ++ bytes) closed;
}

abbrev pub decreases-loop-used : goal.decreases-loop-used
decreases-loop-used l = length l.piece - l.used

use Rattle.std.proofs.Common.{length}
use Rattle.lt_parts.proofs.Numbers.{IsAddedSoFar}
use Rattle.lt_parts.proofs.arranging.add_numbers.Given as goal

-- what was put so far, with what is left, is what is put
abbrev pub invariant-loop-exp : goal.invariant-loop-exp
invariant-loop-exp l = IsAddedSoFar l.table l.is_known l.fn.found.keys l.occurring l.found.keys l.rest

abbrev pub decreases-loop-exp : goal.decreases-loop-exp
decreases-loop-exp l = length l.rest

use Rattle.std.proofs.Common.{length}
use Rattle.lt_parts.proofs.Numbers.{ArePartsSoFar}
use Rattle.lt_parts.proofs.dividing.parts.Given as goal

-- the parts so far, with those for what is left, are the parts
abbrev pub invariant-loop-exp : goal.invariant-loop-exp
invariant-loop-exp l = ArePartsSoFar l.table l.initial.rest l.parts.items l.rest

abbrev pub decreases-loop-exp : goal.decreases-loop-exp
decreases-loop-exp l = length l.rest

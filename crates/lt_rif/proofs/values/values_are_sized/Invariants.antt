use Rattle.std.proofs.Common.{length}
use Rattle.lt_rif.specs.Enough.{AreSized}
use Rattle.lt_rif.proofs.values.values_are_sized.Given as goal

-- where the values to come are small, all are
abbrev pub invariant-loop-values : goal.invariant-loop-values
invariant-loop-values l = AreSized l.values → AreSized l.fn.values

abbrev pub decreases-loop-values : goal.decreases-loop-values
decreases-loop-values l = length l.values

use Rattle.std.proofs.Common.{◌≤◌}
use Rattle.lt_propagation.proofs.dividing.open_in.Given as goal

-- no more than were gone over
abbrev pub invariant-loop-place : goal.invariant-loop-place
invariant-loop-place l = l.open ≤ l.place

use Rattle.std.proofs.Common.{◌≡◌, drop, map}
use Rattle.lt_term.specs.SceneView.{variable}
use Rattle.lt_check.specs.inner.ShownPoints.{are_points}
use Rattle.lt_check.proofs.step.are_points.Given as goal

-- it is left to the variables that were not looked at
abbrev pub invariant-loop-number : goal.invariant-loop-number
invariant-loop-number l = are_points (map variable l.variables) l.values ≡ are_points (map variable (drop l.number l.variables)) (drop l.number l.values)

use Rattle.std.proofs.Common.{◌≡◌, ◌++◌, drop, map}
use Rattle.lt_term.specs.SceneView.{variable}
use Rattle.lt_check.specs.inner.ShownPoints.{local_values}
use Rattle.lt_check.proofs.step.local_values.Given as goal

-- the values so far, and those that are left, are all of them
abbrev pub invariant-loop-number : goal.invariant-loop-number
invariant-loop-number l = l.values.items ++ local_values (map variable (drop l.number l.variables)) (drop l.number l.locals) ≡ local_values (map variable l.variables) l.locals

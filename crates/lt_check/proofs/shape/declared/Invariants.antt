use Rattle.std.proofs.Common.{◌≡◌, map, take}
use Rattle.lt_rif.specs.Trace.{declared_variable}
use Rattle.lt_term.specs.SceneView.{variable}
use Rattle.lt_check.specs.Shape.{declared_as}
use Rattle.lt_check.proofs.shape.declared.Given as goal

-- the variables so far
abbrev pub invariant-loop-variable : goal.invariant-loop-variable
invariant-loop-variable l = map declared_variable l.declared.items ≡ map declared_as (map variable (take l.variable-index l.variables))

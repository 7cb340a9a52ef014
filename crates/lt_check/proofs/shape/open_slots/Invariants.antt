use Rattle.std.proofs.Common.{◌≡◌, map, take}
use Rattle.lt_term.specs.SceneView.{variable}
use Rattle.lt_check.specs.Shape.{open_slot}
use Rattle.lt_check.proofs.shape.open_slots.Given as goal

-- the slots so far
abbrev pub invariant-loop-variable : goal.invariant-loop-variable
invariant-loop-variable l = l.slots.items ≡ map open_slot (map variable (take l.variable-index l.variables))

use Rattle.std.proofs.Common.{◌≡◌, map, take}
use Rattle.lt_term.specs.SceneView.{variable}
use Rattle.lt_check.specs.Shape.{ranged_slot}
use Rattle.lt_check.proofs.shape.ranged_slots.Given as goal

-- the slots so far
abbrev pub invariant-loop-variable : goal.invariant-loop-variable
invariant-loop-variable l = l.slots.items ≡ map ranged_slot (map variable (take l.variable-index l.variables))

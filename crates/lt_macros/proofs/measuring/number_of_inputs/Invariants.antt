use Rattle.std.proofs.Common.{◌≡◌, ◌+◌, length, map, take}
use Rattle.std.specs.List.{flat_map}
use Rattle.lt_macros.specs.Expanded.{Call}
use Rattle.lt_macros.specs.Tree.{call}
use Rattle.lt_macros.proofs.measuring.number_of_inputs.Given as goal

-- the inputs of the node and those of the runs that are passed are counted
abbrev pub invariant-loop-call : goal.invariant-loop-call
invariant-loop-call l = l.number ≡ length l.fn.node.inputs.items + length (flat_map (λ (d : Call). d.names) (map call (take l.call-index l.call-items)))

use Rattle.std.proofs.Common.{◌≡◌, ◌++◌, map, take}
use Rattle.std.specs.List.{flat_map}
use Rattle.lt_macros.specs.Tree.{call, declared}
use Rattle.lt_term.specs.SceneView.{variable}
use Rattle.lt_expand.specs.Scenes.{variable_of}
use Rattle.lt_expand.proofs.variables.inputs_of.Given as goal

abbrev pub invariant-loop-call : goal.invariant-loop-call
invariant-loop-call l = map variable l.made.items ≡ map (variable_of l.decimals) (map declared l.from.inputs.items ++ flat_map (λ c. c.names) (map call (take l.call-index l.call-items)))

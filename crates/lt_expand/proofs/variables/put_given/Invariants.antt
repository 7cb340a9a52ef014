use Rattle.std.proofs.Common.{◌≡◌, ◌++◌, map, take}
use Rattle.lt_macros.specs.Tree.{declared}
use Rattle.lt_term.specs.SceneView.{variable}
use Rattle.lt_expand.specs.Scenes.{variable_of}
use Rattle.lt_expand.proofs.variables.put_given.Given as goal

abbrev pub invariant-loop-declared : goal.invariant-loop-declared
invariant-loop-declared l = map variable l.made.items ≡ map variable l.initial.made.items ++ map (variable_of l.decimals) (map declared (take l.declared-index l.names))

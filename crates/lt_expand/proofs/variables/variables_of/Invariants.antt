use Rattle.std.proofs.Common.{◌≡◌, map, take}
use Rattle.lt_macros.specs.Tree.{declared}
use Rattle.lt_term.specs.SceneView.{variable}
use Rattle.lt_expand.specs.Scenes.{variable_of}
use Rattle.lt_expand.proofs.variables.variables_of.Given as goal

abbrev pub invariant-loop-variable : goal.invariant-loop-variable
invariant-loop-variable l = map variable l.made.items ≡ map (variable_of l.decimals) (map declared (take l.variable-index l.declared))

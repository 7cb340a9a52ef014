use Rattle.std.proofs.Common.{◌≡◌, map, take}
use Rattle.std.specs.List.{flat_map}
use Rattle.lt_macros.specs.Preorder.{local_at}
use Rattle.lt_term.specs.SceneView.{variable}
use Rattle.lt_expand.specs.Scenes.{locals_of}
use Rattle.lt_expand.specs.inner.Items.{items_view}
use Rattle.lt_expand.proofs.variables.locals_of.Given as goal

abbrev pub invariant-loop-part : goal.invariant-loop-part
invariant-loop-part l = map variable l.made.items ≡ locals_of l.decimals 0 (flat_map local_at (items_view (take l.part-index l.parts)))

use Rattle.std.proofs.Common.{◌≡◌, map, take}
use Rattle.std.specs.List.{flat_map}
use Rattle.lt_macros.specs.Preorder.{counter_at}
use Rattle.lt_term.specs.SceneView.{turns}
use Rattle.lt_expand.specs.Static.{least_and_most}
use Rattle.lt_expand.specs.inner.Items.{items_view}
use Rattle.lt_expand.proofs.counters.counters_of.Given as goal

abbrev pub invariant-loop-part : goal.invariant-loop-part
invariant-loop-part l = map turns l.made.items ≡ map (least_and_most l.decimals) (flat_map counter_at (items_view (take l.part-index l.parts)))

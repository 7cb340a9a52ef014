use Rattle.std.proofs.Common.{◌≡◌, take}
use Rattle.lt_expand.specs.inner.Items.{items_view}
use Rattle.lt_expand.specs.inner.Judged.{kinds}
use Rattle.lt_expand.specs.inner.Places.{item_places}
use Rattle.lt_expand.proofs.places.item_places.Given as goal

abbrev pub invariant-loop-part : goal.invariant-loop-part
invariant-loop-part l = l.places ≡ item_places l.decimals (kinds l.over) (items_view (take l.part-index l.parts))

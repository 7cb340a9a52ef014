use Rattle.std.proofs.Common.{◌≡◌, ◌++◌, take}
use Rattle.std.specs.List.{flat_map}
use Rattle.lt_expand.specs.inner.Items.{items_view, part_items}
use Rattle.lt_expand.proofs.items.+items.Given as goal

abbrev pub invariant-put_parts-loop-alternative : goal.invariant-put_parts-loop-alternative
invariant-put_parts-loop-alternative l = items_view l.found.items ≡ items_view l.fn.found.items ++ flat_map part_items (take l.alternative-index l.alternative-items)

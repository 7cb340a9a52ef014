use Rattle.std.proofs.Common.{◌≡◌, map, take}
use Rattle.std.specs.List.{flat_map}
use Rattle.lt_macros.specs.Preorder.{local_at}
use Rattle.lt_expand.specs.inner.Items.{items_view}
use Rattle.lt_expand.proofs.kinds.local_kinds.Given as goal

abbrev pub invariant-loop-part : goal.invariant-loop-part
invariant-loop-part l = l.found.items ≡ map (λ d. d.kind) (flat_map local_at (items_view (take l.part-index l.parts)))

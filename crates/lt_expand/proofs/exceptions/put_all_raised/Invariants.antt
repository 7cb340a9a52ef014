use Rattle.std.proofs.Common.{◌≡◌, take}
use Rattle.std.specs.List.{flat_map}
use Rattle.lt_macros.specs.Preorder.{raised_at}
use Rattle.lt_expand.specs.inner.Items.{items_view}
use Rattle.lt_expand.specs.inner.Declarations.{exceptions, with_more}
use Rattle.lt_expand.proofs.exceptions.put_all_raised.Given as goal

abbrev pub invariant-loop-part : goal.invariant-loop-part
invariant-loop-part l = exceptions l.found ≡ with_more (exceptions l.fn.found) (flat_map raised_at (items_view (take l.part-index l.parts)))

use Rattle.std.proofs.Common.{arith}
use Rattle.lt_expand.specs.inner.Items.{items_view}
use Rattle.lt_expand.proofs.Preorders.{parts_put}
use Rattle.lt_expand.proofs.items.+items.Goals as goal

pub put_parts-returns : goal.put_parts-returns
put_parts-returns t c =
    parts_put c.args.alternatives.now (items_view c.args.found.now.items) (items_view c.loop-alternative.found.items) c.deref-alternative-items.result.now c.loop-alternative.alternative-index
    c.deref-alternative-items.ensures.value (omega arith) c.loop-alternative.invariant

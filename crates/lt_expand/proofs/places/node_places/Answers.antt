use Rattle.lt_expand.specs.inner.Items.{items_view}
use Rattle.lt_expand.specs.inner.Judged.{kinds}
use Rattle.lt_expand.proofs.Refused.{node_seen}
use Rattle.lt_expand.proofs.places.node_places.Goals as goal

pub returns : goal.returns
returns c =
    node_seen c.args.decimals c.args.from.now (kinds c.args.over.now) (items_view c.args.parts.now) c.deref.result.now c.deref-2.result.now c.deref-3.result.now
    c.declared_places-inputs.result c.declared_places-outputs.result c.calls_places-calls.result c.item_places.result c.or.result c.or-2.result c.or-3.result
    c.deref.ensures.value c.deref-2.ensures.value c.deref-3.ensures.value
    c.declared_places-inputs.ensures c.declared_places-outputs.ensures c.calls_places-calls.ensures c.item_places.ensures c.or.ensures c.or-2.ensures c.or-3.ensures c.requires.kinds c.requires.parts

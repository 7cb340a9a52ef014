use Rattle.std.proofs.Common.{◌∙◌, ap, map, subst}
use Rattle.lt_legal.specs.Asked.{IsHaltAt}
use Rattle.lt_legal.specs.Back.{back}
use Rattle.lt_legal.specs.NodeView.{node_view}
use Rattle.lt_legal.specs.Nodes.{Shape}
use Rattle.lt_check.proofs.AskingShapes.{shape_is, shape_there}
use Rattle.lt_check.proofs.leaves.leaves_from.Goals as goal

-- the tree that the nodes tell is the one that is walked in
pub walk-requires : goal.walk-requires
walk-requires g c =
    let there = shape_there (map node_view c.args.nodes.now) c.args.from c.requires.tree.0 c.requires.tree.1 in
    λ κs h. (h, (there, (c.requires.few, (c.deref.ensures.value ∙ c.fill.ensures.table, c.requires.ready))))

pub returns-in-Ok-clause-finds : goal.returns-in-Ok-clause-finds
returns-in-Ok-clause-finds g c = λ t at.
    c.in-Ok.ensures.finds
    ∙ ap (λ (u : Shape). back (g.A.Alive.live c.args.alive.now) c.args.from u) (shape_is (map node_view c.args.nodes.now) c.args.from t at)

pub returns-clause-halts : goal.returns-clause-halts
returns-clause-halts g c = λ t at.
    subst (λ u. IsHaltAt (g.A.Alive.may_give_up c.args.alive.now) c.args.from u c.in-Err.halt) (shape_is (map node_view c.args.nodes.now) c.args.from t at) c.in-Err.ensures.halts

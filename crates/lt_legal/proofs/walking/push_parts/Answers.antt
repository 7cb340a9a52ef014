use Rattle.lt_legal.proofs.Walks.{children_more, children_none}
use Rattle.lt_legal.proofs.walking.push_parts.Goals as goal

pub loop-weight-preserved : goal.loop-weight-preserved
loop-weight-preserved c =
    children_more c.args.weights.now c.loop-weight.weight-index c.loop-weight.number c.args.found.now c.loop-weight.stack.items c.put.new.out.items _ c.find_at.result c.plus-number.result c.loop-weight-test.true c.loop-weight.invariant c.in_ok-put.ensures c.find_at.ensures
    c.plus-number.ensures

pub returns : goal.returns
returns c = children_none c.args.weights.now c.loop-weight.weight-index c.loop-weight.number c.args.found.now c.loop-weight.stack.items _ c.loop-weight-test.false c.loop-weight.invariant

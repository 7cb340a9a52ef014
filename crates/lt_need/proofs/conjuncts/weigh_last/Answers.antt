use Rattle.std.proofs.Common.{◌∙◌, arith}
use Rattle.lt_need.specs.inner.Conjuncts.{weighed_last}
use Rattle.lt_need.proofs.Weights.{last_next}
use Rattle.lt_need.proofs.conjuncts.weigh_last.Goals as goal

pub loop-preserved : goal.loop-preserved
loop-preserved c =
    let s = c.loop.invariant in
    record {
      whole = last_next (weighed_last c.args.last) c.loop.weights.items c.push_reserved.new.self.items c.args.last c.loop.counter (omega (arith, c.loop-test.true)) s.whole c.push_reserved.ensures.items;
      count = omega (arith, c.push_reserved.ensures.len, s.count);
      capacity = c.push_reserved.ensures.capacity ∙ s.capacity;
    }

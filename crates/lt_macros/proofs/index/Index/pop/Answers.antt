use Rattle.std.proofs.Common.{arith}
use Rattle.lt_macros.proofs.Indexes.{indexed_removed, indexed_restored}
use Rattle.lt_macros.proofs.index.Index.pop.Goals as goal

pub invariant_of-self : goal.invariant_of-self
invariant_of-self c =
    record {
      indexed = indexed_restored c.args.self.now.items.items c.pop.new.self.items c.in-Some.item c.insert.result c.args.self.now.numbers c.insert.new.self c.in-Some.ensures.items
          c.insert.ensures.updates c.insert.ensures.absent c.args.self.now.indexed;
    }

pub invariant_of-self-else-item-gt0 : goal.invariant_of-self-else-item-gt0
invariant_of-self-else-item-gt0 c =
    record {
      indexed = indexed_removed c.args.self.now.items.items c.pop.new.self.items c.in-Some.item c.args.self.now.numbers c.swap_remove.new.self c.in-Some.ensures.items (omega (arith, c.if-item-gt0.false))
          c.swap_remove.ensures.updates c.args.self.now.indexed;
    }

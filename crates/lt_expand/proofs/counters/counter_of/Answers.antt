use Rattle.lt_macros.specs.Tree.{bounds}
use Rattle.lt_expand.proofs.Turning.{counter_few, counter_ordered}
use Rattle.lt_expand.proofs.counters.counter_of.Goals as goal

pub invariant_of-result : goal.invariant_of-result
invariant_of-result c = record {
  ordered = counter_ordered c.args.decimals (bounds c.args.bounds.now) _ c.requires.fit c.least_and_most-least.ensures;
  few = counter_few c.args.decimals (bounds c.args.bounds.now) _ c.requires.fit c.least_and_most-least.ensures;
}

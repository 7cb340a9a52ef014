use Rattle.lt_expand.specs.inner.Items.{item}
use Rattle.lt_expand.specs.inner.Ready.{IsFinePart}
use Rattle.lt_expand.proofs.Declares.{all_at, counters_taken}
use Rattle.lt_expand.proofs.counters.counters_of.Goals as goal

pub put_counter-requires-clause-fine : goal.put_counter-requires-clause-fine
put_counter-requires-clause-fine c = all_at (IsFinePart c.args.decimals) item c.args.parts.now c.loop-part.part-index c.part-item.result c.requires.fine c.loop-part-test.true c.part-item.is

pub loop-part-preserved : goal.loop-part-preserved
loop-part-preserved c =
    counters_taken c.args.decimals c.args.parts.now c.loop-part.part-index c.part-item.result c.loop-part.made.items c.put_counter.new.made.items c.loop-part-test.true c.part-item.is
    c.loop-part.invariant c.in_ok-put_counter.ensures

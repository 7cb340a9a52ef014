use Rattle.lt_expand.specs.inner.Items.{item}
use Rattle.lt_expand.specs.inner.Ready.{IsFinePart}
use Rattle.lt_expand.proofs.Declares.{all_at, locals_taken}
use Rattle.lt_expand.proofs.variables.locals_of.Goals as goal

pub put_local-requires-clause-fine : goal.put_local-requires-clause-fine
put_local-requires-clause-fine c = all_at (IsFinePart c.args.decimals) item c.args.parts.now c.loop-part.part-index c.part-item.result c.requires.fine c.loop-part-test.true c.part-item.is

pub loop-part-preserved : goal.loop-part-preserved
loop-part-preserved c =
    locals_taken c.args.decimals c.args.parts.now c.loop-part.part-index c.part-item.result c.loop-part.made.items c.put_local.new.made.items c.loop-part-test.true c.part-item.is
    c.loop-part.invariant c.in_ok-put_local.ensures

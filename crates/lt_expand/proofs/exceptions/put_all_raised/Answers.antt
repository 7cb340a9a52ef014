use Rattle.lt_macros.specs.Preorder.{raised_at}
use Rattle.lt_expand.specs.inner.Declarations.{exceptions}
use Rattle.lt_expand.proofs.Ranks.{exceptions_taken}
use Rattle.lt_expand.proofs.exceptions.put_all_raised.Goals as goal

pub loop-part-preserved : goal.loop-part-preserved
loop-part-preserved c =
    exceptions_taken raised_at (exceptions c.args.found.now) c.args.parts.now c.loop-part.part-index c.part-item.result (exceptions c.loop-part.found) (exceptions c.put_raised.new.self)
    c.loop-part-test.true c.part-item.is c.loop-part.invariant c.in_ok-put_raised.ensures

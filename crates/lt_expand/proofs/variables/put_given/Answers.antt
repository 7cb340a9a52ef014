use Rattle.lt_macros.specs.Tree.{declared}
use Rattle.lt_expand.specs.inner.Ready.{IsFine}
use Rattle.lt_expand.proofs.Declares.{all_at}
use Rattle.lt_expand.proofs.variables.put_given.Goals as goal

pub variable_named-requires-clause-fine : goal.variable_named-requires-clause-fine
variable_named-requires-clause-fine c =
    all_at (IsFine c.args.decimals) declared c.args.names.now c.loop-declared.declared-index c.declared-item.result c.requires.fine c.loop-declared-test.true c.declared-item.is

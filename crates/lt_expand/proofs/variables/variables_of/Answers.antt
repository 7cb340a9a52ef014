use Rattle.lt_macros.specs.Tree.{declared}
use Rattle.lt_expand.specs.inner.Ready.{IsFine}
use Rattle.lt_expand.proofs.Declares.{all_at}
use Rattle.lt_expand.proofs.variables.variables_of.Goals as goal

pub variable_named-requires-clause-fine : goal.variable_named-requires-clause-fine
variable_named-requires-clause-fine c =
    all_at (IsFine c.args.decimals) declared c.args.declared.now c.loop-variable.variable-index c.variable-item.result c.requires.fine c.loop-variable-test.true c.variable-item.is

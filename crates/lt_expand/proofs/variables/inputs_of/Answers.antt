use Rattle.lt_expand.proofs.Runs.{call_fine, own_fine}
use Rattle.lt_expand.proofs.variables.inputs_of.Goals as goal

pub variables_of-requires-clause-fine : goal.variables_of-requires-clause-fine
variables_of-requires-clause-fine c = own_fine c.args.decimals c.args.from.now c.deref.result.now c.requires.fine c.deref.ensures.value

pub put_given-requires-clause-fine : goal.put_given-requires-clause-fine
put_given-requires-clause-fine c =
    call_fine c.args.decimals c.args.from.now c.deref-call-items.result.now c.loop-call.call-index c.call-item.result c.deref-in-loop-call.result.now c.requires.fine c.deref-call-items.ensures.value
    c.loop-call-test.true c.call-item.is c.deref-in-loop-call.ensures.value

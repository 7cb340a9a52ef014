use Rattle.lt_call.proofs.Wholes.{affordable_calls_are_whole}
use Rattle.lt_call.proofs.laws.affordable_calls_are_whole.Goals as goal

pub returns : goal.returns
returns c = affordable_calls_are_whole c.affordable_calls_are_not_given_up.ensures c.undisturbed_calls_are_uncut.ensures c.uncut_calls_are_whole.ensures c.want_of_memory_writes_nothing.ensures

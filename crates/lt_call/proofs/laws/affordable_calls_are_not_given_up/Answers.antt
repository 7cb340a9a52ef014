use Rattle.lt_call.proofs.Wholes.{affordable_calls_are_not_given_up}
use Rattle.lt_call.proofs.laws.affordable_calls_are_not_given_up.Goals as goal

pub returns : goal.returns
returns c =
    affordable_calls_are_not_given_up c.contents_have_one_due_answer.ensures c.plays_keep_to_their_rules.ensures c.affordable_runs_are_the_same.ensures c.affordable_instants_are_not_given_up.ensures
    c.undisturbed_sessions_are_whole.ensures

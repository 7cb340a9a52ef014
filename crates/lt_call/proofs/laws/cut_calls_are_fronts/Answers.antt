-- The answer that is due is to run the scenario, and what cut its run left the first of its texts.
use Rattle.lt_call.proofs.Cuts.{fronts}
use Rattle.lt_call.proofs.laws.cut_calls_are_fronts.Goals as goal

pub returns : goal.returns
returns c = fronts c.contents_have_one_due_answer.ensures c.cut_sessions_are_fronts.ensures c.plays_never_break.ensures c.undisturbed_sessions_are_whole.ensures c.budgets_have_a_cause.ensures

use Rattle.lt_call_laws.proofs.Again as lemmas
use Rattle.lt_call_laws.proofs.laws.replayed_calls_are_the_same.Goals as goal

pub returns : goal.returns
returns c = lemmas.replayed_calls_are_the_same c.contents_have_one_due_answer.ensures c.texts_have_one_scenario_answer.ensures c.uncut_calls_are_whole.ensures c.scenario_replays_are_the_same.ensures

use Rattle.lt_call_laws.proofs.Shown as lemmas
use Rattle.lt_call_laws.proofs.laws.traces_of_calls_show_their_runs.Goals as goal

pub returns : goal.returns
returns c = lemmas.traces_of_calls_show_their_runs c.texts_have_one_scenario_answer.ensures c.plays_keep_to_their_rules.ensures c.giving_up_is_a_cut.ensures c.scenario_traces_show_their_run.ensures c.scenario_prefixes_show_their_run.ensures

use Rattle.lt_scenario_laws.proofs.Runs as lemmas
use Rattle.lt_scenario_laws.proofs.laws.scenario_prefixes_show_their_run.Goals as goal

pub returns : goal.returns
returns c = lemmas.scenario_prefixes_show_their_run c.scenarios_are_traceable.ensures c.scenarios_show_their_instants.ensures c.prefixes_show_their_run.ensures

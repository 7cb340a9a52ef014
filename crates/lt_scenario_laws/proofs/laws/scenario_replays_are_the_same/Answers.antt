use Rattle.lt_scenario_laws.proofs.Runs as lemmas
use Rattle.lt_scenario_laws.proofs.laws.scenario_replays_are_the_same.Goals as goal

pub returns : goal.returns
returns c = lemmas.scenario_replays_are_the_same c.scenarios_are_traceable.ensures c.scenarios_show_their_instants.ensures c.replays_are_the_same.ensures

use Rattle.lt_scenario_laws.proofs.Instants as lemmas
use Rattle.lt_scenario_laws.proofs.laws.scenarios_show_their_instants.Goals as goal

pub returns : goal.returns
returns c = lemmas.scenarios_show_their_instants c.names_are_there.ensures c.solutions_pass.ensures c.points_are_those.ensures c.test_tells_points.ensures

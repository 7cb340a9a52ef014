use Rattle.lt_scenario_laws.proofs.Instants as lemmas
use Rattle.lt_scenario_laws.proofs.laws.instants_give_their_own.Goals as goal

pub returns : goal.returns
returns c = lemmas.instants_give_their_own c.names_are_there.ensures c.solutions_pass.ensures c.points_are_those.ensures c.test_tells_points.ensures

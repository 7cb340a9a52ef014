use Rattle.lt_scenario_laws.proofs.Variables as lemmas
use Rattle.lt_scenario_laws.proofs.laws.scenarios_are_traceable.Goals as goal

pub returns : goal.returns
returns c = lemmas.scenarios_are_traceable c.tokens_stand_in_turn.ensures c.program_is_written_as_spelled.ensures

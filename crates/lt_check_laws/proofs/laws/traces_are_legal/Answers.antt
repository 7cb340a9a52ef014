use Rattle.lt_check_laws.proofs.Tell.{traces-are-legal}
use Rattle.lt_check_laws.proofs.laws.traces_are_legal.Goals as goal

pub returns : goal.returns
returns c = traces-are-legal c.traces_tell_legal_runs.ensures c.texts_have_one_reading.ensures

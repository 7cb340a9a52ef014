use Rattle.lt_check_laws.proofs.Tell.{traces-tell-legal-runs}
use Rattle.lt_check_laws.proofs.laws.traces_tell_legal_runs.Goals as goal

pub returns : goal.returns
returns c = traces-tell-legal-runs c.runs_are_legal.ensures c.scenarios_are_traceable.ensures c.value_reads_back.ensures

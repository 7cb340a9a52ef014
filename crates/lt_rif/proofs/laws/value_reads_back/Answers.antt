use Rattle.lt_rif.proofs.ValueLemmas.{value_reads_back}
use Rattle.lt_rif.proofs.laws.value_reads_back.Goals as goal

pub returns : goal.returns
returns c = value_reads_back

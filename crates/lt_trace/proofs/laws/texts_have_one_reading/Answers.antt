use Rattle.lt_trace.proofs.Readings.{texts_have_one_reading}
use Rattle.lt_trace.proofs.laws.texts_have_one_reading.Goals as goal

pub returns : goal.returns
returns c = texts_have_one_reading c.value_reads_back.ensures

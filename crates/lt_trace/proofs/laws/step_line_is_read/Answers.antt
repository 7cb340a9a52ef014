use Rattle.lt_trace.proofs.Lines.{line-read}
use Rattle.lt_trace.proofs.laws.step_line_is_read.Goals as goal

pub returns : goal.returns
returns c = line-read c.value_reads_back.ensures

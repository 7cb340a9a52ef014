use Rattle.lt_trace_laws.proofs.Prefixes.{prefixes_show_their_run}
use Rattle.lt_trace_laws.proofs.laws.prefixes_show_their_run.Goals as goal

pub returns : goal.returns
returns g c = prefixes_show_their_run c.step_reads_back.ensures c.spelling_is_read.ensures c.room_is_enough.ensures c.replies_fit.ensures

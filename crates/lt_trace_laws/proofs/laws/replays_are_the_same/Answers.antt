use Rattle.lt_trace_laws.proofs.Replaying.{replays_are_the_same}
use Rattle.lt_trace_laws.proofs.laws.replays_are_the_same.Goals as goal

pub returns : goal.returns
returns g c = replays_are_the_same c.step_reads_back.ensures c.room_is_enough.ensures c.replies_fit.ensures

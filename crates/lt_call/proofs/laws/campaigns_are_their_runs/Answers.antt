-- Each session begins with its core, takes its parts alone, and is whole.
use Rattle.lt_call.proofs.Sessions.{campaigns_are_their_runs}
use Rattle.lt_call.proofs.laws.campaigns_are_their_runs.Goals as goal

pub returns : goal.returns
returns c = campaigns_are_their_runs c.sessions_begin.ensures c.runs_are_alone.ensures c.sessions_are_alone.ensures c.undisturbed_sessions_are_whole.ensures

-- How many steps a session has put out that has ended: no more than its run may.
use Rattle.std.proofs.Common.{◌≤◌, ℕ, IfSome, None, Some, arith}
use Rattle.std.specs.declared.option.Option.{Option}
use Rattle.lt_io.specs.Link.{Link}
use Rattle.lt_loop.specs.CoreView.{core_state}
use Rattle.lt_loop.specs.declared.event.Wants.{Wants}
use Rattle.lt_loop.specs.declared.event.Wants.TheVariants as wants
use Rattle.lt_rif.specs.declared.end.Who.{Who}
use Rattle.lt_campaign.specs.Few.{steps_of}
use Rattle.lt_campaign.specs.RunView.{session_view}
use Rattle.lt_campaign.specs.Session.{outcome_of, run_outcome}
use Rattle.lt_campaign.specs.declared.session.Session as sessions
use Rattle.lt_campaign.specs.declared.session.Session.TheVariants as session

few_of_run : (broken : Option Who) (wanted : Wants) (steps : ℕ) → steps ≤ 1_000_000 → IfSome (run_outcome broken wanted steps) (λ how. steps_of how ≤ 1_000_000)
few_of_run None (wants.Nothing e) steps few = few
few_of_run None wants.Turn steps few = tt
few_of_run None wants.Controller steps few = tt
few_of_run None wants.Oracle steps few = tt
few_of_run (Some w) wanted steps few = tt

pub few_put_out : {M : _} {L : Type 0} {b : _} (state : L → Link) (s : sessions.Session M L b) → IfSome (outcome_of (session_view state s)) (λ how. steps_of how ≤ 1_000_000)
few_put_out state (session.Started r) = few_of_run r.broken r.wants (core_state r.core).written r.core.few
few_put_out state (session.Unstarted w c) = omega arith

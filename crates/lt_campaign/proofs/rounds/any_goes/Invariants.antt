-- None of the sessions so far goes on.
use Rattle.std.proofs.Common.{◌≡◌, drop, map}
use Rattle.lt_campaign.specs.RunView.{session_view}
use Rattle.lt_campaign.specs.inner.Rounding.{any_goes}
use Rattle.lt_campaign.proofs.rounds.any_goes.Given as goal

abbrev pub invariant-loop-session : goal.invariant-loop-session
invariant-loop-session g l =
    any_goes (map (session_view g.L.Link.state) l.sessions) ≡ any_goes (map (session_view g.L.Link.state) (drop l.session-index l.sessions))

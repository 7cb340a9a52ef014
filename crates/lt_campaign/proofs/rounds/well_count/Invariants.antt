-- How many of the sessions so far ended well.
use Rattle.std.proofs.Common.{◌≡◌, ◌≤◌, ◌+◌, drop, map}
use Rattle.lt_campaign.specs.Campaign.{well_count}
use Rattle.lt_campaign.specs.RunView.{session_view}
use Rattle.lt_campaign.proofs.rounds.well_count.Given as goal

abbrev pub invariant-loop-session : goal.invariant-loop-session
invariant-loop-session g l = record {
  so_far : l.count + well_count (map (session_view g.L.Link.state) (drop l.session-index l.sessions)) ≡ well_count (map (session_view g.L.Link.state) l.sessions);
  within : l.count ≤ l.session-index;
}

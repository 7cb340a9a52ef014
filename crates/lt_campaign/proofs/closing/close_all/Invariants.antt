-- The sessions that are left.
use Rattle.std.proofs.Common.{◌≡◌, ◌+◌, length, map}
use Rattle.lt_loop.specs.InputSource.{InputSource}
use Rattle.lt_campaign.specs.Campaign.{blamed_from, first_of}
use Rattle.lt_campaign.specs.EndView.{blamed_view}
use Rattle.lt_campaign.specs.RunView.{AllHaveKinds, session_view}
use Rattle.lt_campaign.proofs.Closes.{ClosesOn}
use Rattle.lt_campaign.proofs.closing.close_all.Given as goal

-- as those that are left are closed and blamed, all are
abbrev pub invariant-loop-sessions : goal.invariant-loop-sessions
invariant-loop-sessions g l = record {
  closes : (c o : InputSource) → AllHaveKinds {b = g.M.Machine} c o l.fn.sessions.items → ClosesOn {b = g.M.Machine} g.P.L.Link.state c o (g.P.Spawner.state l.fn.spawner) (g.P.Spawner.state l.spawner) l.fn.sessions.items l.sessions.items;
  blames : first_of (blamed_view {b = g.M.Machine} l.blamed) (blamed_from l.number (map (session_view {b = g.M.Machine} g.P.L.Link.state) l.sessions.items)) ≡ blamed_from 0 (map (session_view {b = g.M.Machine} g.P.L.Link.state) l.fn.sessions.items);
  count : l.number + length l.sessions.items ≡ length l.fn.sessions.items;
}

abbrev pub decreases-loop-sessions : goal.decreases-loop-sessions
decreases-loop-sessions g l = length l.sessions.items

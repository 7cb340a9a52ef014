-- The sessions so far.
use Rattle.std.proofs.Common.{◌≡◌, length, map}
use Rattle.std.specs.Vec.{vec_capacity}
use Rattle.lt_loop.specs.CoreView.{core_state}
use Rattle.lt_session.specs.SidesView.{inputs_of, oracle_of}
use Rattle.lt_campaign.specs.Campaign.{AllStart}
use Rattle.lt_campaign.specs.RunView.{AllHaveKinds, session_view}
use Rattle.lt_campaign.proofs.starting.start_all.Given as goal

-- those of the cores so far were started
abbrev pub invariant-loop-core : goal.invariant-loop-core
invariant-loop-core g l = record {
  starts : AllStart (inputs_of l.sides) (oracle_of l.sides.oracle) (map (core_state {b = g.M.Machine}) l.yielded) (g.P.Spawner.state l.fn.spawner) (g.P.Spawner.state l.spawner) (map (session_view {b = g.M.Machine} g.P.L.Link.state) l.sessions.items);
  kinds : AllHaveKinds {b = g.M.Machine} (inputs_of l.sides) (oracle_of l.sides.oracle) l.sessions.items;
  count : length l.sessions.items ≡ length l.yielded;
  room : vec_capacity l.sessions ≡ vec_capacity l.fn.sessions;
}

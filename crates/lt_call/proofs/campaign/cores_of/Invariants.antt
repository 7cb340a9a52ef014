use Rattle.std.proofs.Common.{◌≡◌, length, map}
use Rattle.lt_loop.specs.CoreView.{core_state}
use Rattle.lt_play.specs.contracts.player.PlayerMachine.TheImpl as player
use Rattle.lt_term.specs.SceneView.{scene}
use Rattle.lt_args.specs.Asked.{request}
use Rattle.lt_call.specs.Run.{AreFirstCores}
use Rattle.lt_call.proofs.campaign.cores_of.Given as goal

-- the cores of the sessions so far
abbrev pub invariant-loop-session : goal.invariant-loop-session
invariant-loop-session l = record {
  count : length l.cores.items ≡ l.session;
  first : AreFirstCores (request l.request) (scene l.fn.scenario) 0 (map (core_state {b = player.ghosts}) l.cores.items);
}

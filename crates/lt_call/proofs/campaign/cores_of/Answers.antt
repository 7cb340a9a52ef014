use Rattle.std.proofs.Common.{[], ap, arith, length, length-append, rules, subst, sym, ◌∙◌, ◌+◌}
use Rattle.lt_loop.specs.CoreView.{core_state}
use Rattle.lt_play.specs.contracts.player.PlayerMachine.TheImpl as player
use Rattle.lt_term.specs.Scene.{Scene}
use Rattle.lt_term.specs.SceneView.{scene}
use Rattle.lt_args.specs.Asked.{request}
use Rattle.lt_call.specs.Due.{IsServed}
use Rattle.lt_call.specs.Run.{IsFirstCore, session_request}
use Rattle.lt_call.proofs.FirstCores.{cores_first, cores_more, first_count}
use Rattle.lt_call.proofs.campaign.cores_of.Goals as goal

pub loop-session-init : goal.loop-session-init
loop-session-init c = record {
  count = first_count c.new-cores.result.items c.push.new.cores.items c.in_ok-core_of.field-0 (search rules) c.in_ok-push.ensures;
  first = cores_first (core_state {b = player.ghosts}) (request c.args.request.now) (scene c.args.scenario) c.new-cores.result.items c.push.new.cores.items c.in_ok-core_of.field-0 (search rules) c.in_ok-push.ensures c.in_ok-core_of.ensures.first;
}

pub again-requires-clause-some : goal.again-requires-clause-some
again-requires-clause-some c = (scene c.args.scenario, c.requires.scene)

pub core_of-requires-in-loop-session-clause-served : goal.core_of-requires-in-loop-session-clause-served
core_of-requires-in-loop-session-clause-served c = subst (IsServed (request c.args.request.now)) (sym (c.in_ok-same.ensures (scene c.args.scenario) c.requires.scene)) c.requires.served

pub loop-session-preserved : goal.loop-session-preserved
loop-session-preserved c =
    let r = request c.args.request.now in
    let before = c.loop-session.invariant in
    record {
      count = ap length c.in_ok-push-2.ensures ∙ length-append c.loop-session.cores.items _ ∙ ap (λ n. n + 1) before.count;
      first = cores_more (core_state {b = player.ghosts}) r (scene c.args.scenario) c.loop-session.session c.loop-session.cores.items _ _ c.in_ok-push-2.ensures before.count before.first
          (subst (λ (s : Scene). IsFirstCore (session_request r c.loop-session.session) s (core_state {b = player.ghosts} c.in_ok-core_of-2.field-0)) (c.in_ok-same.ensures (scene c.args.scenario) c.requires.scene) c.in_ok-core_of-2.ensures.first);
    }

use Rattle.lt_term.specs.SceneView.{scene}
use Rattle.lt_call.proofs.Runs.{first_core}
use Rattle.lt_call.proofs.cores.core_of.Goals as goal

pub returns-in-Ok-clause-first : goal.returns-in-Ok-clause-first
returns-in-Ok-clause-first c =
    first_core c.args.request.now c.args.session (scene c.args.scenario) _ c.setup-setup.result _ c.in_ok-player.ensures.scene c.setup-setup.ensures.told c.in_ok-player.ensures.state
    _ c.in-Ok.ensures.fresh c.in-Ok.ensures.plan c.in-Ok.ensures.steps c.in-Ok.ensures.play

use Rattle.std.proofs.Common.{subst, sym}
use Rattle.lt_io.specs.Outside.{beside}
use Rattle.lt_term.specs.SceneView.{scene}
use Rattle.lt_args.specs.Asked.{request}
use Rattle.lt_args.specs.declared.words.Mode.{Mode}
use Rattle.lt_call.specs.inner.CallResultView.{names_of}
use Rattle.lt_call.specs.inner.Parts.{AnswersRun, runs_by}
use Rattle.lt_call.proofs.FirstCores.{runs_once}
use Rattle.lt_call.proofs.run.by_mode.Goals as goal

pub returns-in-Campaign : goal.returns-in-Campaign
returns-in-Campaign g c =
    subst (λ (m : Mode). AnswersRun (request c.args.request.now) c.args.replay.now (runs_by m (scene c.args.scenario)) (beside (g.P.Spawner.state c.args.spawner.now) (g.S.Sink.state c.args.trace.now))
    (beside (g.P.Spawner.state c.campaign.new.spawner) (g.S.Sink.state c.campaign.new.trace)) (names_of c.campaign.result) c.campaign.result.status) (sym c.in-Campaign.is) c.campaign.ensures

pub returns-in_default : goal.returns-in_default
returns-in_default g c =
    subst (λ w. AnswersRun (request c.args.request.now) c.args.replay.now w (beside (g.P.Spawner.state c.args.spawner.now) (g.S.Sink.state c.args.trace.now))
    (beside (g.P.Spawner.state c.run.new.spawner) (g.S.Sink.state c.run.new.trace)) (names_of c.run.result) c.run.result.status) (sym (runs_once c.args.request.now.mode (scene c.args.scenario) c.in_default.not-Campaign)) c.run.ensures

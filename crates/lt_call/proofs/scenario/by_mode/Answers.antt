use Rattle.lt_args.specs.Asked.{request}
use Rattle.lt_call.proofs.Checks.{answers_as}
use Rattle.lt_call.proofs.scenario.by_mode.Goals as goal

pub returns-in-Check : goal.returns-in-Check
returns-in-Check g c =
    answers_as (request c.args.request.now) c.args.text.now _ _ _ _ c.not_run.result.status c.check_trace-status.result c.not_run.ensures.names c.not_run.ensures.status
    (c.check_trace-status.ensures (g.P.Spawner.state c.args.spawner.now))

use Rattle.std.proofs.Common.{Err, Ok}
use Rattle.lt_term.specs.SceneView.{scene}
use Rattle.lt_args.specs.Asked.{request}
use Rattle.lt_call.proofs.FirstCores.{never_refused, one_scene}
use Rattle.lt_call.proofs.Gives.{for_node}
use Rattle.lt_call.proofs.campaign.again.Goals as goal

pub returns-in-Ok : goal.returns-in-Ok
returns-in-Ok c = λ s has.
    let r = request c.args.request.now in
    one_scene c.texts_have_one_scenario_answer.ensures r.decimals r.node c.args.text.now (scene c.in-Ok.scenario) s (for_node r.decimals c.args.request.now.node c.args.text.now (Ok (scene c.in-Ok.scenario)) c.in-Ok.ensures.made) has

pub unreachable-requires : goal.unreachable-requires
unreachable-requires c =
    let r = request c.args.request.now in
    never_refused c.texts_have_one_scenario_answer.ensures r.decimals r.node c.args.text.now c.requires.some.0 c.in-Err-Refused.field-0-0 c.requires.some.1
    (for_node r.decimals c.args.request.now.node c.args.text.now (Err c.in-Err-Refused.field-0-0) (rw c.in-Err-Refused.field-0-is at c.in-Err-Refused.ensures.refused))

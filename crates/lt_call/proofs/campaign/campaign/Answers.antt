use Rattle.std.proofs.Common.{ap, map, sym, ◌∙◌}
use Rattle.std.proofs.lemmas.List.{length-map}
use Rattle.lt_campaign.specs.EndView.{blamed_view}
use Rattle.lt_campaign.specs.declared.campaign_end.CampaignEnd.{CampaignEnd}
use Rattle.lt_loop.specs.CoreView.{core_state}
use Rattle.lt_play.specs.contracts.player.PlayerMachine.TheImpl as player
use Rattle.lt_term.specs.SceneView.{scene}
use Rattle.lt_args.specs.Asked.{request}
use Rattle.lt_call.specs.Due.{plays_many}
use Rattle.lt_call.specs.Given.{campaign_status}
use Rattle.lt_call.proofs.Blames.{run_starved}
use Rattle.lt_call.proofs.Campaigns.{all_want, campaign_given, no_names}
use Rattle.lt_call.proofs.campaign.campaign.Goals as goal

pub returns-in_default : goal.returns-in_default
returns-in_default g c = run_starved (request c.args.request.now) c.args.replay.now (plays_many (scene c.args.scenario)) _ c.without_run.result.status _ c.without_run.ensures.names c.without_run.ensures.status

pub play_campaign-end-requires : goal.play_campaign-end-requires
play_campaign-end-requires g c = all_want (request c.args.request.now) (scene c.args.scenario) 0 (map (core_state {b = player.ghosts}) c.in-Ok.cores.items) c.in-Ok.ensures.first

pub returns-in-Finished : goal.returns-in-Finished
returns-in-Finished g c =
    let played = c.play_campaign-end.result in
    let blamed = blamed_view {b = player.ghosts} played.blamed in
    campaign_given c.blame_has_a_cause.ensures (request c.args.request.now) (scene c.args.scenario) c.args.replay.now (map (core_state {b = player.ghosts}) c.in-Ok.cores.items) _ _ played.end blamed _ c.finished.result.status _ _
    (length-map c.in-Ok.cores.items (core_state {b = player.ghosts}) ∙ c.in-Ok.ensures.count) c.in-Ok.ensures.first c.sides_of.ensures.controller c.sides_of.ensures.oracle c.play_campaign-end.ensures c.finished.ensures.names
    (c.finished.ensures.status ∙ sym (ap (λ (e : CampaignEnd). campaign_status e blamed) c.in-Finished.is))

pub returns-in-TraceWriteFailed : goal.returns-in-TraceWriteFailed
returns-in-TraceWriteFailed g c =
    let played = c.play_campaign-end.result in
    let blamed = blamed_view {b = player.ghosts} played.blamed in
    campaign_given c.blame_has_a_cause.ensures (request c.args.request.now) (scene c.args.scenario) c.args.replay.now (map (core_state {b = player.ghosts}) c.in-Ok.cores.items) _ _ played.end blamed _ c.without_run-in-TraceWriteFailed.result.status _ _
    (length-map c.in-Ok.cores.items (core_state {b = player.ghosts}) ∙ c.in-Ok.ensures.count) c.in-Ok.ensures.first c.sides_of.ensures.controller c.sides_of.ensures.oracle c.play_campaign-end.ensures
    (c.without_run-in-TraceWriteFailed.ensures.names ∙ sym (no_names _ _ _ _ _ played.end blamed c.play_campaign-end.ensures (λ e. cc (c.in-TraceWriteFailed.is, e))))
    (c.without_run-in-TraceWriteFailed.ensures.status ∙ sym (ap (λ (e : CampaignEnd). campaign_status e blamed) c.in-TraceWriteFailed.is))

pub returns-in-Memory : goal.returns-in-Memory
returns-in-Memory g c =
    let played = c.play_campaign-end.result in
    let blamed = blamed_view {b = player.ghosts} played.blamed in
    campaign_given c.blame_has_a_cause.ensures (request c.args.request.now) (scene c.args.scenario) c.args.replay.now (map (core_state {b = player.ghosts}) c.in-Ok.cores.items) _ _ played.end blamed _ c.without_run-in-Memory.result.status _ _
    (length-map c.in-Ok.cores.items (core_state {b = player.ghosts}) ∙ c.in-Ok.ensures.count) c.in-Ok.ensures.first c.sides_of.ensures.controller c.sides_of.ensures.oracle c.play_campaign-end.ensures
    (c.without_run-in-Memory.ensures.names ∙ sym (no_names _ _ _ _ _ played.end blamed c.play_campaign-end.ensures (λ e. cc (c.in-Memory.is, e))))
    (c.without_run-in-Memory.ensures.status ∙ sym (ap (λ (e : CampaignEnd). campaign_status e blamed) c.in-Memory.is))

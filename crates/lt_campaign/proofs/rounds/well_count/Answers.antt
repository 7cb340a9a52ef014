-- One session more.
use Rattle.std.proofs.Common.{◌≡◌, ◌≤◌, ◌∙◌, if◌then◌else◌, ap, arith, subst, sym}
use mir.Val.{bool_byte}
use Rattle.lt_campaign.specs.Campaign.{ends_well}
use Rattle.lt_campaign.specs.RunView.{session_view}
use Rattle.lt_campaign.specs.Session.{outcome_of}
use Rattle.lt_campaign.proofs.WellCounts.{byte_is, one_at_most, well_one_more}
use Rattle.lt_campaign.proofs.rounds.well_count.Goals as goal

pub loop-session-preserved : goal.loop-session-preserved
loop-session-preserved g c =
    let view = session_view g.L.Link.state in
    let ends = ends_well (outcome_of (view c.session-item.result)) in
    let now : c.from-count.result ≡ (if ends then 1 else 0) = c.from-count.ensures ∙ ap (λ b. bool_byte b) c.ends_well.ensures ∙ byte_is ends in
    let few : c.from-count.result ≤ 1 = subst (λ n. n ≤ 1) (sym now) (one_at_most ends) in
    let within = c.loop-session.invariant.within in
    record {
      so_far = well_one_more view c.args.sessions.now c.loop-session.session-index c.session-item.result c.loop-session.count c.from-count.result c.loop-session-test.true c.session-item.is now c.loop-session.invariant.so_far;
      within = omega (arith, few, within);
    }

-- Rounds, and then the line at the end.
use Rattle.std.proofs.Common.{◌≡◌, ◌++◌, ◌∙◌, List, ℕ, [], ap, length, map, subst, sym}
use Rattle.std.proofs.Math.ListN.{length-map}
use Rattle.lt_campaign.specs.Campaign.{IsCutText, well_count}
use Rattle.lt_campaign.specs.Rounds.{campaign_line, rounds_text}
use Rattle.lt_campaign.specs.RunView.{session_view}
use Rattle.lt_campaign.specs.inner.Parting.{at_end, in_round}
use Rattle.lt_campaign.specs.inner.Writing.{HasText}
use Rattle.lt_campaign.proofs.Playing.{writes_all_err, writes_rest}
use Rattle.lt_campaign.proofs.Writing.{has_none}
use Rattle.lt_campaign.proofs.campaign.play_sessions.Goals as goal

pub returns-in_err-play_rounds-clause-writes : goal.returns-in_err-play_rounds-clause-writes
returns-in_err-play_rounds-clause-writes g c =
    let view = session_view g.L.Link.state in
    let start = g.S.Sink.state c.args.trace.now in
    let after = g.S.Sink.state c.play_rounds.new.trace in
    let waits = c.args.waiting.now.items in
    let has = subst (HasText start start waits) c.requires.none (has_none start waits (λ not. c.requires.none)) in
    writes_all_err c.from_residual.result (map view c.args.sessions.now.items) (map view c.play_rounds.new.sessions.items) start after c.from_residual.ensures.0
    (in_round (c.in_err-play_rounds.ensures.puts start [] has))

pub returns-in_err-put_end-clause-writes : goal.returns-in_err-put_end-clause-writes
returns-in_err-put_end-clause-writes g c =
    let view = session_view g.L.Link.state in
    let start = g.S.Sink.state c.args.trace.now in
    let after = g.S.Sink.state c.put_end.new.trace in
    let waits = c.args.waiting.now.items in
    let has = subst (HasText start start waits) c.requires.none (has_none start waits (λ not. c.requires.none)) in
    let played = c.in_ok-play_rounds.ensures.puts start [] has in
    let sessions = c.play_rounds.new.sessions in
    let new = map view sessions.items in
    let many : c.len.result ≡ length new = c.len.ensures ∙ sessions.ok.0 ∙ sym (length-map sessions.items view) in
    let well : c.well_count.result ≡ well_count new = c.well_count.ensures ∙ ap (λ ss. well_count (map view ss)) c.deref.ensures.value in
    let line : campaign_line c.len.result c.well_count.result ≡ campaign_line (length new) (well_count new) = ap (λ n. campaign_line n c.well_count.result) many ∙ ap (campaign_line (length new)) well in
    writes_all_err c.from_residual-in_err-put_end.result (map view c.args.sessions.now.items) new start after c.from_residual-in_err-put_end.ensures.0
    (at_end played.rounds played.plays played.over
    (subst (λ (t : List ℕ). IsCutText start after (rounds_text played.rounds) (rounds_text played.rounds ++ t)) line (c.in_err-put_end.ensures start (rounds_text played.rounds) played.text)))

pub returns-clause-writes : goal.returns-clause-writes
returns-clause-writes g c =
    let view = session_view g.L.Link.state in
    let start = g.S.Sink.state c.args.trace.now in
    let mid = g.S.Sink.state c.put_end.new.trace in
    let after = g.S.Sink.state c.settle.new.trace in
    let waits = c.args.waiting.now.items in
    let has = subst (HasText start start waits) c.requires.none (has_none start waits (λ not. c.requires.none)) in
    let played = c.in_ok-play_rounds.ensures.puts start [] has in
    let sessions = c.play_rounds.new.sessions in
    let new = map view sessions.items in
    let many : c.len.result ≡ length new = c.len.ensures ∙ sessions.ok.0 ∙ sym (length-map sessions.items view) in
    let well : c.well_count.result ≡ well_count new = c.well_count.ensures ∙ ap (λ ss. well_count (map view ss)) c.deref.ensures.value in
    let line : campaign_line c.len.result c.well_count.result ≡ campaign_line (length new) (well_count new) = ap (λ n. campaign_line n c.well_count.result) many ∙ ap (campaign_line (length new)) well in
    let put = subst (λ (t : List ℕ). HasText start mid c.put_end.new.waiting.items (rounds_text played.rounds ++ t)) line (c.in_ok-put_end.ensures start (rounds_text played.rounds) played.text) in
    writes_rest (map view c.args.sessions.now.items) new start played.rounds played.plays played.over c.settle.result mid after c.put_end.new.waiting.items c.settle.new.waiting.items put
    c.settle.ensures.written c.settle.ensures.none c.settle.ensures.cut

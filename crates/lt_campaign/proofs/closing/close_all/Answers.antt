-- One more session was closed, or none is left.
use Rattle.std.proofs.Common.{◌≡◌, ◌<◌, ◌∷◌, ◌∙◌, ap, arith, length, map, sym, ◌≤◌, IfSome, subst}
use Rattle.std.proofs.lemmas.Bool.{eqb-true}
use Rattle.std.specs.declared.option.Option.{Option}
use Rattle.lt_campaign.specs.Campaign.{blame}
use Rattle.lt_campaign.specs.EndView.{blamed_view, core_names, one_blamed}
use Rattle.lt_campaign.specs.Few.{steps_of}
use Rattle.lt_campaign.specs.RunView.{session_view}
use Rattle.lt_campaign.specs.declared.campaign_end.Outcome.{Outcome}
use Rattle.lt_campaign.proofs.Fewer.{few_put_out}
use Rattle.lt_campaign.proofs.Closes.{blames_all, blames_more, closes_all, closes_more, first_out, none_left, or_first}
use Rattle.lt_campaign.proofs.closing.close_all.Goals as goal

pub blame-requires : goal.blame-requires
blame-requires g c =
    subst (λ (x : Option Outcome). IfSome x (λ how. steps_of how ≤ 1_000_000)) (sym c.outcome-outcome.ensures)
    (few_put_out {b = g.M.Machine} g.P.L.Link.state c.remove-session.result)

pub loop-sessions-preserved : goal.loop-sessions-preserved
loop-sessions-preserved g c =
    let view = session_view {b = g.M.Machine} g.P.L.Link.state in
    let state = g.P.Spawner.state in
    let all = c.args.sessions.items in
    let left = c.loop-sessions.sessions.items in
    let rest = c.remove-session.new.self.items in
    let s = c.remove-session.result in
    let core = c.close_session-core.result in
    let some : 0 < length left = omega (arith, c.remove-session.ensures.len, c.loop-sessions.sessions.ok.0) in
    let is : left ≡ s ∷ rest = first_out left rest s some c.remove-session.ensures.value c.remove-session.ensures.items in
    record {
      closes = λ i o kinds. closes_more {b = g.M.Machine} g.P.L.Link.state i o (state c.args.spawner.now) (state c.loop-sessions.spawner) (state c.close_session-core.new.spawner) all left rest s is (c.close_session-core.ensures.closes i o) (c.loop-sessions.invariant.closes i o kinds);
      blames = blames_more (blamed_view {b = g.M.Machine} c.loop-sessions.blamed) (blamed_view {b = g.M.Machine} c.blame.result) (blamed_view {b = g.M.Machine} c.or-blamed.result) c.loop-sessions.number (map view all) (map view left) (map view rest) (view s) (core_names {b = g.M.Machine} core)
          (ap (map view) is) (c.blame.ensures ∙ ap (λ (x : Option Outcome). blame c.loop-sessions.number x (core_names {b = g.M.Machine} core)) c.outcome-outcome.ensures) c.close_session-core.ensures.names (ap (blamed_view {b = g.M.Machine}) c.or-blamed.ensures ∙ or_first (one_blamed {b = g.M.Machine}) c.loop-sessions.blamed c.blame.result) c.loop-sessions.invariant.blames;
      count = omega (arith, ap length is, c.loop-sessions.invariant.count);
    }

pub returns-clause-closes : goal.returns-clause-closes
returns-clause-closes g c = λ i o kinds.
    let state = g.P.Spawner.state in
    let left = c.loop-sessions.sessions.items in
    let none : c.loop-sessions.sessions.len ≡ 0 = eqb-true c.loop-sessions.sessions.len 0 (sym c.loop-sessions-test.ensures) in
    let empty : length left ≡ 0 = omega (arith, none, c.loop-sessions.sessions.ok.0) in
    closes_all {b = g.M.Machine} g.P.L.Link.state i o (state c.args.spawner.now) (state c.loop-sessions.spawner) c.args.sessions.items left (none_left left empty) (c.loop-sessions.invariant.closes i o kinds)

pub returns-clause-blames : goal.returns-clause-blames
returns-clause-blames g c =
    let view = session_view {b = g.M.Machine} g.P.L.Link.state in
    let left = c.loop-sessions.sessions.items in
    let none : c.loop-sessions.sessions.len ≡ 0 = eqb-true c.loop-sessions.sessions.len 0 (sym c.loop-sessions-test.ensures) in
    let empty : length left ≡ 0 = omega (arith, none, c.loop-sessions.sessions.ok.0) in
    blames_all (blamed_view {b = g.M.Machine} c.loop-sessions.blamed) c.loop-sessions.number (map view c.args.sessions.items) (map view left) (ap (map view) (none_left left empty)) c.loop-sessions.invariant.blames

-- A round more, until all have ended or a write fails.
use Rattle.std.proofs.Common.{◌≡◌, ◌++◌, ◌∙◌, map, sym, ap, false, true}
use Rattle.lt_campaign.specs.RunView.{session_view}
use Rattle.lt_campaign.specs.Rounds.{rounds_text}
use Rattle.lt_campaign.specs.inner.Rounding.{any_goes}
use Rattle.lt_campaign.proofs.Playing.{all_gone, lowers, none_gone, not_gone, one_more_gone, puts_rounds_err, still_prompt}
use Rattle.lt_campaign.proofs.rounds.play_rounds.Goals as goal

pub loop-sessions-init : goal.loop-sessions-init
loop-sessions-init g c = record {
  fit = c.requires.fit;
  prompt = λ not. c.requires.none;
  goes = λ start before has. none_gone (map (session_view g.L.Link.state) c.args.sessions.now.items) start (g.S.Sink.state c.args.trace.now) c.args.waiting.now.items before has;
  kinds = λ from_controller from_oracle all. all;
}

pub loop-sessions-smaller : goal.loop-sessions-smaller
loop-sessions-smaller g c =
    let view = session_view g.L.Link.state in
    let old = map view c.loop-sessions.sessions.items in
    let new = map view c.round.new.sessions.items in
    let goes : any_goes old ≡ true = ap (λ ss. any_goes (map view ss)) (sym c.deref.ensures.value) ∙ sym c.any_goes.ensures ∙ c.loop-sessions-test.true in
    (lowers old new (g.S.Sink.state c.loop-sessions.trace) (g.S.Sink.state c.round.new.trace) c.loop-sessions.waiting.items c.round.new.waiting.items c.loop-sessions.invariant.prompt c.in_ok-round.ensures.puts c.loop-sessions.invariant.fit).less goes

pub loop-sessions-preserved : goal.loop-sessions-preserved
loop-sessions-preserved g c =
    let view = session_view g.L.Link.state in
    let first = map view c.args.sessions.now.items in
    let old = map view c.loop-sessions.sessions.items in
    let new = map view c.round.new.sessions.items in
    let now = g.S.Sink.state c.loop-sessions.trace in
    let after = g.S.Sink.state c.round.new.trace in
    let waits = c.loop-sessions.waiting.items in
    let waits_then = c.round.new.waiting.items in
    record {
      fit = (lowers old new now after waits waits_then c.loop-sessions.invariant.prompt c.in_ok-round.ensures.puts c.loop-sessions.invariant.fit).fits;
      prompt = still_prompt old new now after waits waits_then c.loop-sessions.invariant.prompt c.in_ok-round.ensures.puts;
      goes = λ start before has.
          let going = c.loop-sessions.invariant.goes start before has in
          one_more_gone first old new start now after waits waits_then before going (c.in_ok-round.ensures.puts start (before ++ rounds_text going.rounds) going.text);
      kinds = λ from_controller from_oracle all. c.round.ensures.kinds from_controller from_oracle (c.loop-sessions.invariant.kinds from_controller from_oracle all);
    }

pub returns-in_err-round-clause-puts : goal.returns-in_err-round-clause-puts
returns-in_err-round-clause-puts g c = λ start before has.
    let view = session_view g.L.Link.state in
    let first = map view c.args.sessions.now.items in
    let old = map view c.loop-sessions.sessions.items in
    let new = map view c.round.new.sessions.items in
    let now = g.S.Sink.state c.loop-sessions.trace in
    let after = g.S.Sink.state c.round.new.trace in
    let going = c.loop-sessions.invariant.goes start before has in
    puts_rounds_err c.from_residual.result first new start after c.round.new.waiting.items before c.from_residual.ensures.0
    (not_gone first old new start now after c.loop-sessions.waiting.items c.round.new.waiting.items before going (c.in_err-round.ensures.puts start (before ++ rounds_text going.rounds) going.text))

pub returns-in_err-round-clause-kinds : goal.returns-in_err-round-clause-kinds
returns-in_err-round-clause-kinds g c = λ from_controller from_oracle all. c.round.ensures.kinds from_controller from_oracle (c.loop-sessions.invariant.kinds from_controller from_oracle all)

pub returns-clause-puts : goal.returns-clause-puts
returns-clause-puts g c = λ start before has.
    let view = session_view g.L.Link.state in
    let first = map view c.args.sessions.now.items in
    let last = map view c.loop-sessions.sessions.items in
    let none : any_goes last ≡ false = ap (λ ss. any_goes (map view ss)) (sym c.deref.ensures.value) ∙ sym c.any_goes.ensures ∙ c.loop-sessions-test.false in
    all_gone first last start (g.S.Sink.state c.loop-sessions.trace) c.loop-sessions.waiting.items before none (c.loop-sessions.invariant.goes start before has)

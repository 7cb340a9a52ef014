-- One more session takes its part, or a write fails.
use Rattle.std.proofs.Common.{◌≡◌, ◌<◌, ◌++◌, ◌∙◌, arith, length, map, subst, sym}
use Rattle.std.proofs.Math.ListN.{length-map, length-set}
use Rattle.lt_campaign.specs.RunView.{session_view}
use Rattle.lt_campaign.specs.Rounds.{framed}
use Rattle.lt_campaign.proofs.SideKinds.{kinds_set}
use Rattle.lt_campaign.proofs.Places.{all_begun, none_begun, not_one_more, one_more}
use Rattle.lt_campaign.proofs.Playing.{puts_round_err}
use Rattle.lt_campaign.proofs.rounds.round.Goals as goal

pub loop-number-init : goal.loop-number-init
loop-number-init g c =
    let many : length c.args.sessions.now.items ≡ c.len-count.result = sym c.args.sessions.now.ok.0 ∙ sym c.len-count.ensures in
    record {
      begun = λ start before has. none_begun (map (session_view g.L.Link.state) c.args.sessions.now.items) start (g.S.Sink.state c.args.trace.now) c.args.waiting.now.items before has;
      kinds = λ from_controller from_oracle all. all;
      many = many;
      all = many;
      within = omega arith;
    }

pub returns-in_err-put_part-clause-puts : goal.returns-in_err-put_part-clause-puts
returns-in_err-put_part-clause-puts g c = λ start before has.
    let view = session_view g.L.Link.state in
    let xs = c.loop-number.sessions.items in
    let n = c.loop-number.number in
    let old = map view c.args.sessions.now.items in
    let now = g.S.Sink.state c.loop-number.trace in
    let after = g.S.Sink.state c.put_part.new.trace in
    let at : n < length xs = subst (λ k. n < k) (sym c.loop-number.invariant.many) c.loop-number-test.true in
    let begun = c.loop-number.invariant.begun start before has in
    puts_round_err c.from_residual.result old _ start after c.put_part.new.waiting.items before c.from_residual.ensures.0
    (not_one_more view old xs n c.index_mut.result.now c.put_part.new.session start now after c.loop-number.waiting.items c.put_part.new.waiting.items before at c.index_mut.ensures.value begun
    (c.in_err-put_part.ensures.puts start (before ++ framed 0 begun.parts) begun.text))

pub returns-in_err-put_part-clause-kinds : goal.returns-in_err-put_part-clause-kinds
returns-in_err-put_part-clause-kinds g c = λ from_controller from_oracle all.
    let xs = c.loop-number.sessions.items in
    let n = c.loop-number.number in
    let at : n < length xs = subst (λ k. n < k) (sym c.loop-number.invariant.many) c.loop-number-test.true in
    kinds_set from_controller from_oracle xs n c.index_mut.result.now c.put_part.new.session at c.index_mut.ensures.value (c.put_part.ensures.kinds from_controller from_oracle) (c.loop-number.invariant.kinds from_controller from_oracle all)

pub loop-number-preserved : goal.loop-number-preserved
loop-number-preserved g c =
    let view = session_view g.L.Link.state in
    let xs = c.loop-number.sessions.items in
    let n = c.loop-number.number in
    let old = map view c.args.sessions.now.items in
    let now = g.S.Sink.state c.loop-number.trace in
    let after = g.S.Sink.state c.put_part.new.trace in
    let less = c.loop-number-test.true in
    let at : n < length xs = subst (λ k. n < k) (sym c.loop-number.invariant.many) less in
    record {
      begun = λ start before has.
          let begun = c.loop-number.invariant.begun start before has in
          one_more view old xs n c.index_mut.result.now c.put_part.new.session start now after c.loop-number.waiting.items c.put_part.new.waiting.items before at c.index_mut.ensures.value begun
          (c.in_ok-put_part.ensures.puts start (before ++ framed 0 begun.parts) begun.text);
      kinds = λ from_controller from_oracle all.
          kinds_set from_controller from_oracle xs n c.index_mut.result.now c.put_part.new.session at c.index_mut.ensures.value (c.put_part.ensures.kinds from_controller from_oracle) (c.loop-number.invariant.kinds from_controller from_oracle all);
      many = length-set xs n c.put_part.new.session ∙ c.loop-number.invariant.many;
      all = c.loop-number.invariant.all;
      within = omega (arith, less);
    }

pub returns-clause-puts : goal.returns-clause-puts
returns-clause-puts g c = λ start before has.
    let view = session_view g.L.Link.state in
    let old = c.args.sessions.now.items in
    let past = c.loop-number-test.false in
    let within = c.loop-number.invariant.within in
    let all = length-map old view ∙ c.loop-number.invariant.all in
    let same : c.loop-number.number ≡ length (map view old) = omega (arith, past, within, all) in
    all_begun c.loop-number.number (map view old) (map view c.loop-number.sessions.items) start (g.S.Sink.state c.loop-number.trace) c.loop-number.waiting.items before same (c.loop-number.invariant.begun start before has)

use Rattle.std.proofs.Common.{◌+◌, ap, subst, sym, ◌∙◌, arith}
use Rattle.lt_macros.specs.inner.Counting.{AreWithin, pending_figure, waiting}
use Rattle.lt_macros.specs.inner.Numbers.{numbers_view}
use Rattle.lt_macros.specs.inner.Reading.{phrase_view}
use Rattle.lt_macros.specs.inner.Rows.{rows}
use Rattle.lt_macros.specs.inner.Steps.{AdvancesTo, phrase_meant, phrase_worked}
use Rattle.lt_macros.specs.inner.Tallies.{counted}
use Rattle.lt_macros.specs.declared.position.Position.TheVariants.{Trace}
use Rattle.lt_macros.proofs.Waiting.{put_within, seen_kept}
use Rattle.lt_macros.proofs.counting.take_trace.Goals as goal

pub returns-in_ok-put_trace-in-Met-clause-figures : goal.returns-in_ok-put_trace-in-Met-clause-figures
returns-in_ok-put_trace-in-Met-clause-figures c =
    let to = subst (AdvancesTo (Trace c.args.count.now.numbers) (rows c.step_in.new.scope) (phrase_meant (rows c.args.scope.now) c.args.at.environment (phrase_view c.args.phrase)) (phrase_worked (rows c.args.scope.now) c.args.at.environment (phrase_view c.args.phrase))) c.in-Met.is c.in_ok-form.ensures.advances in
    λ decimals f.
    c.in_ok-put_trace-in-Met.ensures.figures decimals (rows c.step_in.new.scope) f
    ∙ ap (λ figure. counted c.args.count.now.tally f + figure)
    (seen_kept decimals (rows c.args.scope.now) (rows c.step_in.new.scope) f c.args.at.depth (waiting c.args.count.now) (numbers_view c.args.count.now.numbers) (to.denotation decimals) c.in_ok-form.ensures.adds c.requires.within)

pub returns-in_ok-put_trace-in-Met-clause-within : goal.returns-in_ok-put_trace-in-Met-clause-within
returns-in_ok-put_trace-in-Met-clause-within c =
    λ least w.
    put_within least c.len.result (rows c.args.scope.now) (rows c.step_in.new.scope) (waiting c.args.count.now) (waiting c.put_trace.new.count) c.in_ok-form.ensures.adds c.len.ensures c.in_ok-put_trace-in-Met.ensures.within w

pub returns-in_ok-put-in-Further-clause-figures : goal.returns-in_ok-put-in-Further-clause-figures
returns-in_ok-put-in-Further-clause-figures c =
    let to = subst (AdvancesTo (Trace c.args.count.now.numbers) (rows c.step_in.new.scope) (phrase_meant (rows c.args.scope.now) c.args.at.environment (phrase_view c.args.phrase)) (phrase_worked (rows c.args.scope.now) c.args.at.environment (phrase_view c.args.phrase))) c.in-Further.is c.in_ok-form.ensures.advances in
    let is = c.in_ok-put-in-Further.ensures in
    λ decimals f.
    (λ i. counted (is.tally i) f + pending_figure decimals (rows c.step_in.new.scope) f (is.left i) (numbers_view (is.numbers i)))
    ∙ ap (λ figure. counted c.args.count.now.tally f + figure)
    (seen_kept decimals (rows c.args.scope.now) (rows c.step_in.new.scope) f c.args.at.depth (waiting c.args.count.now) (numbers_view c.args.count.now.numbers) (to.denotation decimals) c.in_ok-form.ensures.adds c.requires.within)

pub returns-in_ok-put-in-Further-clause-within : goal.returns-in_ok-put-in-Further-clause-within
returns-in_ok-put-in-Further-clause-within c =
    let to = subst (AdvancesTo (Trace c.args.count.now.numbers) (rows c.step_in.new.scope) (phrase_meant (rows c.args.scope.now) c.args.at.environment (phrase_view c.args.phrase)) (phrase_worked (rows c.args.scope.now) c.args.at.environment (phrase_view c.args.phrase))) c.in-Further.is c.in_ok-form.ensures.advances in
    let len = c.len-len.result in
    λ least w.
    put_within least len (rows c.args.scope.now) (rows c.step_in.new.scope) (waiting c.args.count.now) (waiting c.put.new.count) c.in_ok-form.ensures.adds c.len-len.ensures
    (λ lowest v. subst (AreWithin lowest len) (sym c.in_ok-put-in-Further.ensures.left) (omega (arith, to.within, c.len-len.ensures), (tt, (omega arith, v)))) w

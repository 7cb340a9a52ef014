use Rattle.std.proofs.Common.{◌≡◌, map, ap, ◌∙◌, arith}
use Rattle.std.proofs.lemmas.Result.{IfOk-weaker}
use Rattle.lt_ast.specs.View.{trace as trace_view}
use Rattle.lt_ast.specs.inner.Lists.{alternatives_of}
use Rattle.lt_ast.specs.inner.Rows.{part_of}
use Rattle.lt_macros.specs.Denotation.{as_trace, parts_of, trace_denotation}
use Rattle.lt_macros.specs.inner.Counting.{parts_then, pending_figure, trace_then, waiting}
use Rattle.lt_macros.specs.inner.Numbers.{numbers_view}
use Rattle.lt_macros.specs.inner.Reading.{environment, meant}
use Rattle.lt_macros.specs.inner.Tallies.{counted}
use Rattle.lt_macros.specs.declared.tally.Tally.{Tally}
use Rattle.lt_macros.proofs.Waiting.{alternative_read}
use Rattle.lt_macros.proofs.counting.take_alternatives.Goals as goal

pub returns-clause-figures : goal.returns-clause-figures
returns-clause-figures c =
    let body = c.in-Some.first.now.body in
    let numbers : numbers_view c.put-2.new.count.numbers ≡ numbers_view c.args.count.now.numbers = ap numbers_view (c.in_ok-put-2.ensures.numbers ∙ c.in_ok-put.ensures.numbers) in
    IfOk-weaker c.put_weight.result _ _
    (λ _ figures decimals rows f.
    let env = environment (meant decimals) rows c.args.at.environment in
    let rest = pending_figure decimals rows f (waiting c.args.count.now) in
    let behind = parts_of env (alternatives_of (map part_of c.in-Some.rest.now)) in
    let left : pending_figure decimals rows f (waiting c.put-2.new.count) (numbers_view c.put-2.new.count.numbers)
    ≡ trace_then f c.args.at.depth (as_trace (trace_denotation env (trace_view body)) (numbers_view c.args.count.now.numbers)) (λ m. parts_then f c.args.at.depth (behind m) rest) =
    (λ i. pending_figure decimals rows f (c.in_ok-put-2.ensures.left i) (numbers i))
    ∙ (λ i. trace_then f c.args.at.depth (as_trace (trace_denotation env (trace_view body)) (numbers_view c.args.count.now.numbers)) (pending_figure decimals rows f (c.in_ok-put.ensures.left i))) in
    let tally = ap (λ (t : Tally). counted t f) (c.in_ok-put-2.ensures.tally ∙ c.in_ok-put.ensures.tally) in
    omega (arith, figures decimals rows f body, left, tally, alternative_read env f c.args.at.depth c.args.alternatives.now c.in-Some.first.now c.in-Some.rest.now rest (numbers_view c.args.count.now.numbers) c.in-Some.ensures.cases.0))
    c.put_weight.ensures.figures

use Rattle.std.proofs.Common.{◌≡◌, ap, ◌∙◌, arith}
use Rattle.lt_macros.specs.Denotation.{behind_local}
use Rattle.lt_macros.specs.inner.Counting.{left_then, pending_figure, waiting}
use Rattle.lt_macros.specs.inner.Numbers.{numbers_view}
use Rattle.lt_macros.specs.inner.Tallies.{counted}
use Rattle.lt_macros.specs.declared.tally.Tally.{Tally}
use Rattle.lt_macros.proofs.counting.put_local.Goals as goal

pub returns-clause-figures : goal.returns-clause-figures
returns-clause-figures c =
    λ decimals rows f.
    let old = c.args.count.now in
    let n = numbers_view c.put_first.new.count.numbers in
    let numbers : n ≡ behind_local (numbers_view old.numbers) = ap numbers_view (c.in_ok-put_first.ensures.numbers ∙ c.in_ok-put.ensures.numbers) ∙ c.in_ok-count-2.ensures in
    let left : pending_figure decimals rows f (waiting c.put.new.count) n ≡ left_then decimals rows f c.args.at.environment c.args.at.depth c.args.left (pending_figure decimals rows f (waiting old)) (behind_local (numbers_view old.numbers)) =
    λ i. pending_figure decimals rows f (c.in_ok-put.ensures.left i) (numbers i) in
    let tally = ap (λ (t : Tally). counted t f) c.in_ok-put.ensures.tally in
    omega (arith, c.in_ok-put_first.ensures.figures decimals rows f n, left, tally, c.in_ok-count.ensures f, c.in_ok-with_term.ensures f)

use Rattle.std.proofs.Common.{◌≡◌, ◌∷◌, List, length, ℤ, pos, ◌+ℤ◌, ◌*ℤ◌, slice_index_or, to_z, of_z, w64, rules, arith, ap, sym, ◌∙◌}
use Rattle.std.specs.Int.{w128}
use Rattle.std.proofs.lemmas.Int.{ints}
use Rattle.lt_linear.specs.Form.{Term}
use Rattle.lt_space.specs.Formula.{sum_at}
use Rattle.lt_space.proofs.holding.sum_at.Goals as goal

one_term : (whole s p rest more x : ℤ) → whole ≡ s +ℤ rest → rest ≡ p +ℤ more → x ≡ s +ℤ p → whole ≡ x +ℤ more
one_term whole s p rest more x h k e = omega (arith, ints)

-- one more term is summed
pub loop-term-preserved : goal.loop-term-preserved
loop-term-preserved c =
    let a = c.args.assignment.now in
    let s = c.loop-term.invariant in
    let term = c.in-Some.term.now in
    let is : c.loop-term.rest.now ≡ term ∷ c.in-Some.more.now = c.in-Some.ensures.cases.0 in
    let coefficient : to_z w64 (of_z w64 term.1) ≡ term.1 = search rules in
    let value : to_z w64 (of_z w64 c.value_at.result) ≡ c.value_at.result = search rules in
    let product : c.product-sum.result ≡ term.1 *ℤ slice_index_or a term.0 (pos 0) =
    c.product-sum.ensures.product ∙ (λ i. coefficient i *ℤ value i) ∙ ap (λ (z : ℤ). term.1 *ℤ z) c.value_at.ensures.value in
    let rest : sum_at c.loop-term.rest.now a ≡ c.product-sum.result +ℤ sum_at c.in-Some.more.now a =
    ap (λ (ts : List Term). sum_at ts a) is ∙ ap (λ (z : ℤ). z +ℤ sum_at c.in-Some.more.now a) (sym product) in
    let longer = ap length is in
    let x = to_z w128 (of_z w128 (to_z w128 c.loop-term.sum-bits +ℤ to_z w128 (of_z w128 c.product-sum.result))) in
    let sum : x ≡ to_z w128 c.loop-term.sum-bits +ℤ c.product-sum.result = omega (arith, ints, s.bound, longer, c.product-sum.ensures.bound) in
    record {
      whole = one_term (sum_at c.args.terms.now a) (to_z w128 c.loop-term.sum-bits) c.product-sum.result (sum_at c.loop-term.rest.now a) (sum_at c.in-Some.more.now a) x s.whole rest sum;
      bound = omega (arith, ints, s.bound, longer, sum, c.product-sum.ensures.bound);
    }

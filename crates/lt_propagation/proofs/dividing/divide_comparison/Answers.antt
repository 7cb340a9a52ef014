use Rattle.std.proofs.Common.{◌≡◌, ◌+◌, ◌+ℤ◌, ◌*ℤ◌, ◌^◌, ℤ, pos, take, of_z, to_z, w64, rules, ap, ◌∙◌, arith}
use Rattle.std.specs.Int.{w128}
use Rattle.std.specs.Prelude.{slice_range}
use Rattle.std.proofs.lemmas.Int.{ints}
use Rattle.lt_bounds.specs.Ranges.{range_at}
use Rattle.lt_space.specs.CircuitView.{circuit_terms}
use Rattle.lt_space.specs.Formula.{sum_at}
use Rattle.lt_propagation.specs.Wide.{wide}
use Rattle.lt_propagation.proofs.Boxes.{narrower_here, sizes_at}
use Rattle.lt_propagation.proofs.Comparisons.{sum_fewest, sum_most}
use Rattle.lt_propagation.proofs.dividing.divide_comparison.Goals as goal

pub returns-in_default : goal.returns-in_default
returns-in_default c = record { keeps = λ values p. p; narrower = narrower_here c.args.ranges.now c.requires.domains; domains = c.requires.domains }

pub returns-then-signs-ne0-clause-narrower : goal.returns-then-signs-ne0-clause-narrower
returns-then-signs-ne0-clause-narrower c = narrower_here c.args.ranges.now c.requires.domains

pub returns-clause-keeps : goal.returns-clause-keeps
returns-clause-keeps c = λ values p.
    let d = c.args.decimals in
    let circuit = c.args.circuit.now in
    let these = c.terms_between-terms.result.now in
    let k = c.scaled.result in
    let terms = slice_range (circuit_terms circuit) c.in-Compare.first c.in-Compare.after in
    let e : these ≡ terms = c.terms_between-terms.ensures.between ∙ ap (λ ts. slice_range ts c.in-Compare.first c.in-Compare.after) c.terms.ensures.terms in
    let plain : to_z w64 (of_z w64 c.in-Compare.constant) ≡ c.in-Compare.constant = search rules in
    let g : k ≡ c.in-Compare.constant *ℤ pos (10 ^ d) = c.scaled.ensures.value ∙ ap (λ (z : ℤ). z *ℤ pos (10 ^ d)) plain in
    let same : to_z w128 (of_z w128 k) ≡ k = omega (arith, ints, c.scaled.ensures.bound) in
    let signs = range_at c.args.ranges.now (c.args.count + c.args.number) in
    let s = sizes_at c.args.ranges.now (c.args.count + c.args.number) c.requires.domains in
    let low : signs.low ≡ pos 0 = omega (arith, ints, s.0, c.if-signs-ne0.false) in
    let high : signs.high ≡ pos 0 = omega (arith, ints, s.1, c.if-signs-ne0-2.false) in
    let most = sum_most d circuit c.args.count c.args.ranges.now c.requires.long values p c.args.number c.requires.within c.in-Compare.relation terms these c.in-Compare.constant k c.in-Compare.ensures.formula e g (omega (arith, ints, high)) in
    let fewest = sum_fewest d circuit c.args.count c.args.ranges.now c.requires.long values p c.args.number c.requires.within c.in-Compare.relation terms these c.in-Compare.constant k c.in-Compare.ensures.formula e g (omega (arith, ints, low)) in
    let none : (sum_at these (take c.args.count (wide d circuit values)) +ℤ k) ≡ pos 0 = omega (arith, ints, most, fewest, low, high) in
    (rw same at c.divide.ensures.keeps) (wide d circuit values) p none

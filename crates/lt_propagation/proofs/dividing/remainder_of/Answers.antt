use Rattle.std.proofs.Common.{◌≡◌, ◌+ℤ◌, ◌*ℤ◌, [], ◌∷◌, List, ℤ, pos, length, get_or, take, of_z, to_z, w64, refl, ap, subst, arith}
use Rattle.std.specs.Int.{w128}
use Rattle.std.proofs.Math.IntN.{zero-*ℤ}
use Rattle.std.proofs.lemmas.Int.{ints}
use Rattle.lt_linear.specs.Form.{Term}
use Rattle.lt_space.specs.Formula.{sum_at}
use Rattle.lt_propagation.specs.inner.Dividing.{IsSumBut, value_of}
use Rattle.lt_propagation.proofs.Divisors.{but_end, but_more, but_none}
use Rattle.lt_propagation.proofs.Gates.{first_term}
use Rattle.lt_propagation.proofs.dividing.remainder_of.Goals as goal

no_sum : (terms : List Term) (values : List ℤ) → length terms ≡ 0 → sum_at terms values ≡ pos 0
no_sum [] values e = refl
no_sum (t ∷ ts) values e = absurd (omega (arith, e))

pub loop-term-init : goal.loop-term-init
loop-term-init c =
    record {
      is = λ values p.
          let none = zero-*ℤ (get_or (take c.args.count values) c.args.but (pos 0)) in
          but_none _ _ _ (omega (arith, ints, none));
      coefficient = omega (arith, c.requires.few);
      rest = omega (arith, ints, c.requires.few, c.requires.constant);
      exact = c.requires.exact;
    }

pub loop-term-preserved : goal.loop-term-preserved
loop-term-preserved c =
    let d = to_z w64 (of_z w64 c.args.divisor) in
    let s = c.loop-term.invariant in
    let term = c.in-Some.term.now in
    let more = c.in-Some.more.now in
    let now = c.in_ok-remainder.ensures in
    let is : c.loop-term.left.now ≡ term ∷ more = c.in-Some.ensures.cases.0 in
    let longer = ap length is in
    record {
      is = λ values p.
          let point = take c.args.count values in
          let whole = sum_at c.args.terms.now point +ℤ to_z w128 (of_z w128 c.args.constant) in
          let old = value_of c.loop-term.remainder c.args.but c.args.count values in
          let new = value_of c.in_ok-remainder.remainder c.args.but c.args.count values in
          let before = subst (λ (ts : List Term). IsSumBut d whole (old +ℤ sum_at ts point)) is (s.is values p) in
          but_more d whole old (term.1 *ℤ get_or point term.0 (pos 0)) new (sum_at more point) before (now.is values p);
      coefficient = omega (arith, longer, s.coefficient, now.coefficient);
      rest = omega (arith, longer, s.rest, now.rest);
      exact = (first_term c.loop-term.left.now more term is s.exact).1;
    }

pub returns-clause-is : goal.returns-clause-is
returns-clause-is c = λ values p.
    let d = c.args.divisor in
    let k = c.args.constant in
    let divisor : to_z w64 (of_z w64 d) ≡ d = omega (arith, ints) in
    let constant : to_z w128 (of_z w128 k) ≡ k = omega (arith, ints) in
    let point = take c.args.count values in
    let left = c.loop-term.left.now in
    but_end d (sum_at c.args.terms.now point +ℤ k) (value_of c.loop-term.remainder c.args.but c.args.count values) (sum_at left point) (no_sum left point c.in_default.ensures.cases) ((rw (divisor, constant) at c.loop-term.invariant.is) values p)

use Rattle.std.proofs.Common.{◌≡◌, ℕ, take, get_or, pos, ◌+ℤ◌, ◌*ℤ◌, of_z, to_z, w64, subst, arith}
use Rattle.std.specs.Int.{w128}
use Rattle.std.proofs.lemmas.Int.{ints}
use Rattle.std.proofs.lemmas.List.{get_or-take}
use Rattle.lt_bounds.specs.Ranges.{range_at}
use Rattle.lt_num.specs.Bounds.{most_raw}
use Rattle.lt_space.specs.Circuit.{most_coefficient}
use Rattle.lt_propagation.specs.inner.Dividing.{IsSumBut, value_of}
use Rattle.lt_propagation.proofs.Boxes.{point_within, sizes_at}
use Rattle.lt_propagation.proofs.Divisors.{but_absent, but_fixed, but_multiple, but_own, product_kept, product_size}
use Rattle.lt_propagation.proofs.dividing.with_term.Goals as goal

pub returns-then-variable-count-clause-is : goal.returns-then-variable-count-clause-is
returns-then-variable-count-clause-is c = λ values p.
    but_absent c.args.divisor (value_of c.args.remainder c.args.but c.args.count values) c.args.term.1 c.args.count c.args.term.0 values (omega (arith, c.if-variable-count.true))

pub returns-then-variable-but-clause-is : goal.returns-then-variable-but-clause-is
returns-then-variable-but-clause-is c = λ values p.
    let d = c.args.divisor in
    let f = c.args.term.1 in
    let k = c.args.remainder.coefficient in
    let r = c.args.remainder.rest in
    let number = value_of c.args.remainder c.args.but c.args.count values in
    let v = get_or (take c.args.count values) c.args.but (pos 0) in
    let both : to_z w128 (of_z w128 (to_z w128 (of_z w128 k) +ℤ to_z w128 (of_z w128 c.from-factor.result))) ≡ k +ℤ f = omega (arith, ints, c.requires.factor, c.requires.coefficient) in
    let rest : to_z w128 (of_z w128 r) ≡ r = omega (arith, ints, c.requires.rest) in
    let same : c.args.but ≡ c.args.term.0 = omega (arith, c.if-variable-but.true) in
    rw (both, rest) (subst (λ (i : ℕ). IsSumBut d (number +ℤ f *ℤ get_or (take c.args.count values) i (pos 0)) (((k +ℤ f) *ℤ v) +ℤ r)) same (but_own d f v k r))

pub overflow_add-result-then-range : goal.overflow_add-result-then-range
overflow_add-result-then-range c =
    let f = c.args.term.1 in
    let low = (range_at c.args.ranges.now c.args.term.0).low in
    let sizes = sizes_at c.args.ranges.now c.args.term.0 c.requires.domains in
    let one : to_z w128 (of_z w128 c.from-factor.result) ≡ f = omega (arith, ints, c.requires.factor) in
    let other : to_z w128 (of_z w128 c.from.result) ≡ low = omega (arith, ints, sizes.0) in
    let product = product_kept _ _ f low most_coefficient most_raw one other c.requires.factor sizes.0 (omega arith) in
    let size = product_size f low most_coefficient most_raw c.requires.factor sizes.0 in
    omega (arith, ints, product, size, c.requires.rest)

pub returns-then-range-clause-is : goal.returns-then-range-clause-is
returns-then-range-clause-is c = λ values p.
    let d = c.args.divisor in
    let f = c.args.term.1 in
    let i = c.args.term.0 in
    let k = c.args.remainder.coefficient in
    let r = c.args.remainder.rest in
    let range = range_at c.args.ranges.now i in
    let v = get_or (take c.args.count values) i (pos 0) in
    let sizes = sizes_at c.args.ranges.now i c.requires.domains in
    let one : to_z w128 (of_z w128 c.from-factor.result) ≡ f = omega (arith, ints, c.requires.factor) in
    let other : to_z w128 (of_z w128 c.from.result) ≡ range.low = omega (arith, ints, sizes.0) in
    let product = product_kept _ _ f range.low most_coefficient most_raw one other c.requires.factor sizes.0 (omega arith) in
    let size = product_size f range.low most_coefficient most_raw c.requires.factor sizes.0 in
    let coefficient : to_z w128 (of_z w128 k) ≡ k = omega (arith, ints, c.requires.coefficient) in
    let rest : to_z w128 (of_z w128 (to_z w128 (of_z w128 r) +ℤ to_z w128 (of_z w128 (to_z w128 (of_z w128 c.from-factor.result) *ℤ to_z w128 (of_z w128 c.from.result))))) ≡ r +ℤ f *ℤ range.low = omega (arith, ints, product, size, c.requires.rest) in
    let within = point_within c.args.ranges.now values i (omega (arith, c.if-variable-count.false, c.requires.count)) p in
    let taken = get_or-take c.args.count values i (pos 0) (omega (arith, c.if-variable-count.false)) in
    let fixed : v ≡ range.low = omega (arith, ints, taken, within.0, within.1, c.if-range.true, sizes.0, sizes.1) in
    rw (coefficient, rest) (but_fixed d (k *ℤ get_or (take c.args.count values) c.args.but (pos 0)) r f v range.low fixed)

pub returns-then-range-clause-rest : goal.returns-then-range-clause-rest
returns-then-range-clause-rest c =
    let f = c.args.term.1 in
    let low = (range_at c.args.ranges.now c.args.term.0).low in
    let sizes = sizes_at c.args.ranges.now c.args.term.0 c.requires.domains in
    let one : to_z w128 (of_z w128 c.from-factor.result) ≡ f = omega (arith, ints, c.requires.factor) in
    let other : to_z w128 (of_z w128 c.from.result) ≡ low = omega (arith, ints, sizes.0) in
    let product = product_kept _ _ f low most_coefficient most_raw one other c.requires.factor sizes.0 (omega arith) in
    let size = product_size f low most_coefficient most_raw c.requires.factor sizes.0 in
    omega (arith, ints, product, size, c.requires.rest)

pub returns-then-divides-clause-is : goal.returns-then-divides-clause-is
returns-then-divides-clause-is c = λ values p.
    let d = c.args.divisor in
    let f = c.args.term.1 in
    let divisor : to_z w64 (of_z w64 d) ≡ d = omega (arith, ints) in
    let factor : to_z w64 (of_z w64 f) ≡ f = omega (arith, ints, c.requires.factor) in
    but_multiple d (value_of c.args.remainder c.args.but c.args.count values) f (get_or (take c.args.count values) c.args.term.0 (pos 0)) ((rw (divisor, factor) at c.divides.ensures) c.if-divides.true)

use Rattle.std.proofs.Common.{◌≡◌, ◌+ℤ◌, ◌≤ℤ◌, pos, get_or, take, of_z, to_z, w64, arith}
use Rattle.std.specs.Int.{w128}
use Rattle.std.proofs.lemmas.Int.{ints}
use Rattle.std.proofs.lemmas.List.{get_or-take}
use Rattle.lt_bounds.specs.Ranges.{range_at}
use Rattle.lt_space.specs.Formula.{sum_at}
use Rattle.lt_propagation.specs.inner.Dividing.{value_of}
use Rattle.lt_propagation.proofs.Boxes.{narrower_here, point_within, sizes_at}
use Rattle.lt_propagation.proofs.Divisors.{rest_multiple}
use Rattle.lt_propagation.proofs.dividing.divide_others.Goals as goal

pub returns-then-place-count-clause-narrower : goal.returns-then-place-count-clause-narrower
returns-then-place-count-clause-narrower c = narrower_here c.args.ranges.now c.requires.domains

pub returns-then-divisor-eq1-clause-narrower : goal.returns-then-divisor-eq1-clause-narrower
returns-then-divisor-eq1-clause-narrower c = narrower_here c.args.ranges.now c.requires.domains

pub returns-in-None-clause-narrower : goal.returns-in-None-clause-narrower
returns-in-None-clause-narrower c = narrower_here c.args.ranges.now c.requires.domains

pub fitting_part-fitting-requires-clause-low : goal.fitting_part-fitting-requires-clause-low
fitting_part-fitting-requires-clause-low c = (sizes_at c.args.ranges.now c.args.term.0 c.requires.domains).0

pub fitting_part-fitting-requires-clause-high : goal.fitting_part-fitting-requires-clause-high
fitting_part-fitting-requires-clause-high c = (sizes_at c.args.ranges.now c.args.term.0 c.requires.domains).1

pub returns-in-Some-clause-keeps : goal.returns-in-Some-clause-keeps
returns-in-Some-clause-keeps c = λ values p h.
    let d = to_z w64 (of_z w64 c.divisor_of-divisor.result) in
    let r = c.in-Some.remainder in
    let count = c.args.count in
    let i = c.args.term.0 in
    let constant : to_z w128 (of_z w128 c.args.constant) ≡ c.args.constant = omega (arith, ints) in
    let known = (rw constant at c.in-Some.ensures.is) values p in
    let multiple = rest_multiple d (sum_at c.args.terms.now (take count values) +ℤ c.args.constant) (value_of r i count values) h known in
    let taken = get_or-take count values i (pos 0) (omega (arith, c.if-place-count.false)) in
    let within = point_within c.args.ranges.now values i (omega (arith, c.if-place-count.false, c.requires.count)) p in
    let v = get_or (take count values) i (pos 0) in
    let from : (range_at c.args.ranges.now i).low ≤ℤ v = omega (arith, ints, taken, within.0) in
    let to : v ≤ℤ (range_at c.args.ranges.now i).high = omega (arith, ints, taken, within.1) in
    let low = c.fitting_part-fitting.ensures.low v multiple.times multiple.is from to in
    let high = c.fitting_part-fitting.ensures.high v multiple.times multiple.is from to in
    c.narrow.ensures.keeps values p (omega (arith, ints, taken, low)) (omega (arith, ints, taken, high))

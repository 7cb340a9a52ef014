use Rattle.std.proofs.Common.{◌≡◌, ◌+ℤ◌, pos, get_or, take, of_z, to_z, w64, arith}
use Rattle.std.specs.Int.{w128}
use Rattle.std.proofs.lemmas.Int.{ints}
use Rattle.lt_space.specs.Formula.{sum_at}
use Rattle.lt_propagation.specs.inner.Dividing.{value_of}
use Rattle.lt_propagation.proofs.Divisors.{absent, rest_alone, rest_multiple}
use Rattle.lt_propagation.proofs.dividing.is_divisible.Goals as goal

pub returns-in-Some : goal.returns-in-Some
returns-in-Some c = λ values p h.
    let d = to_z w64 (of_z w64 c.divisor_of-divisor.result) in
    let r = c.in-Some.remainder in
    let count = c.args.count in
    let point = take count values in
    let constant : to_z w128 (of_z w128 c.args.constant) ≡ c.args.constant = omega (arith, ints) in
    let rest : to_z w128 (of_z w128 r.rest) ≡ r.rest = omega (arith, ints, c.in-Some.ensures.rest) in
    let known = (rw constant at c.in-Some.ensures.is) values p in
    let multiple = rest_multiple d (sum_at c.args.terms.now point +ℤ c.args.constant) (value_of r count count values) h known in
    let none = absent count count values (omega arith) in
    (rw rest at c.is_multiple.ensures.all) (rest_alone d r.coefficient (get_or point count (pos 0)) r.rest none multiple)

use Rattle.std.proofs.Common.{◌≡◌, ◌^◌, ◌+ℤ◌, ◌*ℤ◌, of_z, to_z, w64, arith}
use Rattle.std.specs.Int.{w128}
use Rattle.std.proofs.lemmas.Int.{ints}
use Rattle.lt_num.specs.Bounds.{most_raw}
use Rattle.lt_propagation.proofs.Divisors.{product_kept, product_size}
use Rattle.lt_propagation.proofs.dividing.is_fitting.Goals as goal

pub returns : goal.returns
returns c times e =
    let a = c.args.remainder.coefficient in
    let r = c.args.remainder.rest in
    let v = c.args.value in
    let one : to_z w128 (of_z w128 a) ≡ a = omega (arith, ints) in
    let other : to_z w128 (of_z w128 c.from.result) ≡ v = omega (arith, ints) in
    let product = product_kept _ _ a v (2 ^ 70) most_raw one other c.requires.coefficient c.requires.value (omega arith) in
    let size = product_size a v (2 ^ 70) most_raw c.requires.coefficient c.requires.value in
    let sum : to_z w128 (of_z w128 (to_z w128 (of_z w128 (to_z w128 (of_z w128 a) *ℤ to_z w128 (of_z w128 c.from.result))) +ℤ to_z w128 (of_z w128 r))) ≡ a *ℤ v +ℤ r = omega (arith, ints, product, size) in
    let divisor : to_z w64 (of_z w64 c.args.divisor) ≡ c.args.divisor = omega (arith, ints) in
    (rw (divisor, sum) at c.is_multiple.ensures.all) (record { times = times; is = e })

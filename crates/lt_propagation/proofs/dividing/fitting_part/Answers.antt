use Rattle.std.proofs.Common.{◌≡◌, of_z, to_z, w64, arith}
use Rattle.std.proofs.lemmas.Int.{ints}
use Rattle.lt_propagation.proofs.dividing.fitting_part.Goals as goal

pub returns-clause-low : goal.returns-clause-low
returns-clause-low c value times e l h =
    let divisor : to_z w64 (of_z w64 c.args.divisor) ≡ c.args.divisor = omega (arith, ints) in
    let under = (rw divisor at c.least_fitting.ensures) value times e l h in
    omega (arith, ints, under)

pub returns-clause-high : goal.returns-clause-high
returns-clause-high c value times e l h =
    let divisor : to_z w64 (of_z w64 c.args.divisor) ≡ c.args.divisor = omega (arith, ints) in
    let over = (rw divisor at c.greatest_fitting.ensures) value times e l h in
    omega (arith, ints, over)

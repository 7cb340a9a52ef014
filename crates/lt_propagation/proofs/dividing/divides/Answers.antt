use Rattle.std.proofs.Common.{rules, ◌≡◌, pos, ◌*ℤ◌, arith}
use Rattle.std.proofs.lemmas.Int.{ints}
use Rattle.lt_propagation.proofs.dividing.divides.Goals as goal

pub returns-then-coefficient-divisor : goal.returns-then-coefficient-divisor
returns-then-coefficient-divisor c = λ so.
    let e : c.args.coefficient ≡ c.args.divisor = search rules in
    record { times = pos 1; is = omega (arith, ints, e) }

use Rattle.std.proofs.Common.{◌≡◌, ℤ, pos, ◌+ℤ◌, ◌*ℤ◌, of_z, to_z, w64, subst, arith}
use Rattle.std.proofs.lemmas.Int.{ints}
use Rattle.lt_propagation.proofs.Divisors.{above}
use Rattle.lt_propagation.proofs.dividing.least_fitting.Goals as goal

pub is_fitting-requires-clause-value : goal.is_fitting-requires-clause-value
is_fitting-requires-clause-value c = omega (arith, ints, c.if-low-range.false, c.loop.invariant.within, c.requires.low, c.requires.high)

pub loop-preserved : goal.loop-preserved
loop-preserved c =
    let d = c.args.divisor in
    let r = c.args.remainder in
    let now = to_z w64 c.loop.low-bits in
    let divisor : to_z w64 (of_z w64 d) ≡ d = omega (arith, ints) in
    let next : to_z w64 (of_z w64 (now +ℤ pos 1)) ≡ now +ℤ pos 1 = omega (arith, ints, c.if-low-range.false, c.loop.invariant.within, c.requires.low, c.requires.high) in
    let fitting = rw divisor at c.is_fitting.ensures in
    let kept = rw divisor at c.loop.invariant.kept in
    rw divisor (record {
      within = omega (arith, ints, next, c.loop.invariant.within);
      kept = λ value times e l h.
          let more = above c.is_fitting.result now value c.if-is_fitting.false (λ same. fitting times (subst (λ (z : ℤ). ((r.coefficient *ℤ z) +ℤ r.rest) ≡ d *ℤ times) same e)) (kept value times e l h) in
          omega (arith, ints, next, more);
    })

pub returns-then-low-range : goal.returns-then-low-range
returns-then-low-range c =
    let divisor : to_z w64 (of_z w64 c.args.divisor) ≡ c.args.divisor = omega (arith, ints) in
    rw divisor at c.loop.invariant.kept

pub returns : goal.returns
returns c =
    let divisor : to_z w64 (of_z w64 c.args.divisor) ≡ c.args.divisor = omega (arith, ints) in
    rw divisor at c.loop.invariant.kept

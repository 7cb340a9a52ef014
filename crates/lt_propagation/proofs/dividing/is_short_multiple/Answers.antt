use Rattle.std.proofs.Common.{◌≡◌, ◌<◌, ◌^◌, true, ℤ, pos, negsuc, nat_eq, unsigned_abs, int_rem, of_z, to_z, ap, subst, ◌∙◌, arith}
use Rattle.std.specs.Int.{w64}
use Rattle.std.proofs.lemmas.Bool.Decides.{nat_tests}
use Rattle.std.proofs.lemmas.Int.{ints, rem_below}
use Rattle.lt_propagation.proofs.Divisors.{multiple_by_rem, rem_by_multiple}
use Rattle.lt_propagation.proofs.dividing.is_short_multiple.Goals as goal

-- a number whose bits are 0
none_by_bits : (z : ℤ) → unsigned_abs z < 2 ^ 63 → nat_eq (of_z w64 z) 0 ≡ true → z ≡ pos 0
none_by_bits (pos n) l e = grind (arith, ints, nat_tests)
none_by_bits (negsuc n) l e = grind (arith, ints, nat_tests)

pub returns-clause-only : goal.returns-clause-only
returns-clause-only c so =
    let a = c.args.number in
    let d = c.args.divisor in
    let number : to_z w64 (of_z w64 a) ≡ a = omega (arith, ints) in
    let divisor : to_z w64 (of_z w64 d) ≡ d = omega (arith, ints) in
    let same : int_rem (to_z w64 (of_z w64 a)) (to_z w64 (of_z w64 d)) ≡ int_rem a d = λ i. int_rem (number i) (divisor i) in
    let less = rem_below a d (omega (arith, ints, c.requires)) in
    multiple_by_rem a d (none_by_bits (int_rem a d) (omega (arith, ints, less)) (subst (λ (z : ℤ). nat_eq (of_z w64 z) 0 ≡ true) same so))

pub returns-clause-all : goal.returns-clause-all
returns-clause-all c multiple =
    let a = c.args.number in
    let d = c.args.divisor in
    let number : to_z w64 (of_z w64 a) ≡ a = omega (arith, ints) in
    let divisor : to_z w64 (of_z w64 d) ≡ d = omega (arith, ints) in
    let same : int_rem (to_z w64 (of_z w64 a)) (to_z w64 (of_z w64 d)) ≡ int_rem a d = λ i. int_rem (number i) (divisor i) in
    ap (λ (z : ℤ). nat_eq (of_z w64 z) 0) (same ∙ rem_by_multiple a d c.requires multiple)

use Rattle.std.proofs.Common.{◌≡◌, ◌≤◌, ◌^◌, ◌*◌, ◌*ℤ◌, ℤ, FitsSigned, unsigned_abs, to_z, of_z, arith, subst, sym}
use Rattle.std.specs.Int.{w128}
use Rattle.std.proofs.Math.Nat.{mul-le-mul}
use Rattle.std.proofs.lemmas.Int.{fits_signed_mul, ints, to_z-of_z, unsigned_abs-mul}
use Rattle.lt_space.proofs.holding.product.Goals as goal

-- a product of such numbers is small
small : (a b : ℤ) → unsigned_abs a ≤ 2 ^ 63 → unsigned_abs b ≤ 1_000_000_000_000 → unsigned_abs (a *ℤ b) ≤ 2 ^ 103
small a b p q =
    let most : unsigned_abs a * unsigned_abs b ≤ 2 ^ 63 * 1_000_000_000_000 = mul-le-mul p q in
    omega (arith, unsigned_abs-mul a b, most)

fits : (x y a b : ℤ) → x ≡ a → y ≡ b → unsigned_abs a ≤ 2 ^ 63 → unsigned_abs b ≤ 1_000_000_000_000 → FitsSigned w128 (x *ℤ y)
fits x y a b ea eb p q = rw (ea, eb) (fits_signed_mul w128 a b (2 ^ 63) 1_000_000_000_000 p q (omega arith))

whole : (x y a b : ℤ) → x ≡ a → y ≡ b → unsigned_abs a ≤ 2 ^ 63 → unsigned_abs b ≤ 1_000_000_000_000 → to_z w128 (of_z w128 (x *ℤ y)) ≡ a *ℤ b
whole x y a b ea eb p q = rw (ea, eb) (to_z-of_z w128 (a *ℤ b) (fits_signed_mul w128 a b (2 ^ 63) 1_000_000_000_000 p q (omega arith)))

pub overflow_mul-result : goal.overflow_mul-result
overflow_mul-result c =
    let a : to_z w128 (of_z w128 c.from.result) ≡ c.args.coefficient = omega (arith, ints) in
    let b : to_z w128 (of_z w128 c.from-2.result) ≡ c.args.value = omega (arith, ints) in
    fits _ _ c.args.coefficient c.args.value a b (omega (arith, ints)) c.requires.value

pub returns-clause-product : goal.returns-clause-product
returns-clause-product c =
    let a : to_z w128 (of_z w128 c.from.result) ≡ c.args.coefficient = omega (arith, ints) in
    let b : to_z w128 (of_z w128 c.from-2.result) ≡ c.args.value = omega (arith, ints) in
    whole _ _ c.args.coefficient c.args.value a b (omega (arith, ints)) c.requires.value

pub returns-clause-bound : goal.returns-clause-bound
returns-clause-bound c =
    let a : to_z w128 (of_z w128 c.from.result) ≡ c.args.coefficient = omega (arith, ints) in
    let b : to_z w128 (of_z w128 c.from-2.result) ≡ c.args.value = omega (arith, ints) in
    let large : unsigned_abs c.args.coefficient ≤ 2 ^ 63 = omega (arith, ints) in
    subst (λ (z : ℤ). unsigned_abs z ≤ 2 ^ 103) (sym (whole _ _ c.args.coefficient c.args.value a b large c.requires.value)) (small c.args.coefficient c.args.value large c.requires.value)

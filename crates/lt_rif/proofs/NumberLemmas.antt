-- Digits, and numbers of which the point moves.
use Rattle.std.proofs.Common.{◌≡◌, ℕ, ◌+◌, ◌-◌, ◌*◌, ◌/◌, ◌^◌, ◌<◌, ◌≤◌, Bool, List, length, position, Some, None, ap, ◌∙◌, arith}
use Rattle.std.specs.List.{position_or_len}
use Rattle.std.proofs.lemmas.Grind.{common_steps}
use Rattle.std.proofs.lemmas.Nat.{pow-add}
use Rattle.std.proofs.Math.Nat.{one-le-pow, pow-le-pow_right, mul-div-mul_right, div-eq_of_lt, mul-le-mul_left, mul-le-mul_right}
use Rattle.lt_rif.specs.inner.Decimal.{rounded_quotient}

-- a power of ten is at least one
pub ten-positive : (k : ℕ) → 1 ≤ 10 ^ k
ten-positive k = one-le-pow k 10 (omega arith)

pub ten-rising : (j k : ℕ) → j ≤ k → 10 ^ j ≤ 10 ^ k
ten-rising j k h = let ten : 0 < 10 = omega arith in pow-le-pow_right ten h

-- a power in two parts
ten-split : (a b : ℕ) → b ≤ a → 10 ^ a ≡ 10 ^ (a - b) * 10 ^ b
ten-split a b h = let sum : a ≡ (a - b) + b = omega arith in ap (λ (k : ℕ). 10 ^ k) sum ∙ pow-add 10 (a - b) b

-- what is a whole number isn't rounded
half-whole : (m : ℕ) → (2 * m + 1) / 2 ≡ m
half-whole m = omega arith

pub quotient-whole : (n a b : ℕ) → b ≤ a → rounded_quotient (n * 10 ^ a) (10 ^ b) ≡ n * 10 ^ (a - b)
quotient-whole n a b h =
    let d = 10 ^ b in
    let m = n * 10 ^ (a - b) in
    let some = ten-positive b in
    let whole : n * 10 ^ a ≡ m * d = rw (ten-split a b h) (omega arith) in
    let above : 2 * (m * d) + d ≡ (2 * m + 1) * d = omega arith in
    ap (λ (k : ℕ). (2 * k + d) / (2 * d)) whole
    ∙ ap (λ (k : ℕ). k / (2 * d)) above
    ∙ mul-div-mul_right (2 * m + 1) 2 (omega arith)
    ∙ half-whole m

-- zeros that both have go
pub quotient-part : (n a b : ℕ) → a ≤ b → rounded_quotient (n * 10 ^ a) (10 ^ b) ≡ rounded_quotient n (10 ^ (b - a))
quotient-part n a b h =
    let c = 10 ^ a in
    let k = 10 ^ (b - a) in
    let some = ten-positive a in
    let whole = ten-split b a h in
    let above : 2 * (n * c) + k * c ≡ (2 * n + k) * c = omega arith in
    let below : 2 * (k * c) ≡ (2 * k) * c = omega arith in
    ap (λ (d : ℕ). (2 * (n * c) + d) / (2 * d)) whole
    ∙ ap (λ (m : ℕ). m / (2 * (k * c))) above
    ∙ ap (λ (m : ℕ). (2 * n + k) * c / m) below
    ∙ mul-div-mul_right (2 * n + k) (2 * k) (omega arith)

-- of a number that is small beside its divisor nothing is left
pub quotient-none : (n digits : ℕ) → n < 10 ^ 36 → 36 < digits → rounded_quotient n (10 ^ digits) ≡ 0
quotient-none n digits small many =
    let least = ten-rising 37 digits (omega arith) in
    div-eq_of_lt (omega arith)

-- zeros after a number that isn't 0
pub enlarged-past : (n zeros : ℕ) → 0 < n → 12 < zeros → 1_000_000_000_000 < n * 10 ^ zeros
enlarged-past n zeros some many =
    let least = ten-rising 13 zeros (omega arith) in
    let product = mul-le-mul_right {m = 1} {n = n} (10 ^ zeros) (omega arith) in
    omega arith

pub enlarged-large : (n zeros : ℕ) → 1_000_000_000_000 < n → 1_000_000_000_000 < n * 10 ^ zeros
enlarged-large n zeros large =
    let some = ten-positive zeros in
    let product = mul-le-mul_left n some in
    omega arith

-- a further digit fits
pub digit-fits : (n i : ℕ) → n < 10 ^ i → i < 18 → n * 10 + 9 < 10 ^ 18
digit-fits n i small few =
    let most = ten-rising i 17 (omega arith) in
    omega arith

-- the place of the first element that passes
pub position-some : (p : ℕ → Bool) (xs : List ℕ) (i : ℕ) → Some i ≡ position p xs → (i ≡ position_or_len p xs) × (i < length xs)
position-some p xs i e = grind (arith, common_steps)

pub position-none : (p : ℕ → Bool) (xs : List ℕ) → None ≡ position p xs → length xs ≤ position_or_len p xs
position-none p xs e = grind (arith, common_steps)

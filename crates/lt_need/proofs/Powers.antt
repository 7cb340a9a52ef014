-- Products that stop.
use Rattle.std.proofs.Common.{◌≡◌, ◌<◌, ◌≤◌, ◌+◌, ◌-◌, ◌*◌, ◌^◌, ◌⊎◌, inl, inr, ℕ, zero, suc, min, pos, ap, sym, ◌∙◌, arith}
use Rattle.std.proofs.lemmas.Int.{ints, by_lt_z}
use Rattle.std.proofs.lemmas.Bool.{cases_lt}
use Rattle.std.proofs.lemmas.Nat.{mul-le}
use Rattle.std.proofs.Math.Nat.{mul_assoc, pow-suc}
use Rattle.lt_need.specs.Need.{most_need}

stopped : (x most : ℕ) → min (min x most * 3) most ≡ min (x * 3) most
stopped x most = omega arith

pub three_more : (a i most : ℕ) → min (min (a * 3 ^ i) most * 3) most ≡ min (a * 3 ^ suc i) most
three_more a i most = stopped (a * 3 ^ i) most ∙ ap (λ (k : ℕ). min k most) (mul_assoc a (3 ^ i) 3 ∙ ap (λ (k : ℕ). a * k) (sym (pow-suc 3 i)))

power_grows : (i k : ℕ) → 3 ^ i ≤ 3 ^ (i + k)
power_grows i zero =
    let same : i ≡ i + 0 = omega arith in
    omega (arith, ap (λ (k : ℕ). 3 ^ k) same)
power_grows i (suc k) =
    let next : suc (i + k) ≡ i + suc k = omega arith in
    omega (arith, power_grows i k, pow-suc 3 (i + k), ap (λ (n : ℕ). 3 ^ n) next)

past : (a p : ℕ) → most_need ≤ p → min (suc a * p) most_need ≡ most_need
past a p l = omega (arith, mul-le 1 p (suc a) p (omega arith) (omega arith), l)

pub choices_stop : (a c n : ℕ) → n ≡ min c 81 → min (a * 3 ^ n) most_need ≡ min (a * 3 ^ c) most_need
choices_stop a c n e = by_size (cases_lt 81 c) a
  where
    by_size : (81 < c) ⊎ (c ≤ 81) → (a : ℕ) → min (a * 3 ^ n) most_need ≡ min (a * 3 ^ c) most_need
    by_size (inr l) a = let same : n ≡ c = omega (arith, e, l) in ap (λ (k : ℕ). min (a * 3 ^ k) most_need) same
    by_size (inl l) zero = omega arith
    by_size (inl l) (suc a) =
        let here : n ≡ 81 = omega (arith, e, l) in
        let there : 81 + (c - 81) ≡ c = omega (arith, l) in
        let grown : 3 ^ 81 ≤ 3 ^ (81 + (c - 81)) = power_grows 81 (c - 81) in
        let base : most_need ≤ 3 ^ 81 = omega arith in
        ap (λ (k : ℕ). min (suc a * 3 ^ k) most_need) here ∙ past a (3 ^ 81) base
        ∙ sym (ap (λ (k : ℕ). min (suc a * 3 ^ k) most_need) (sym there) ∙ past a (3 ^ (81 + (c - 81))) (omega (arith, base, grown)))

-- Factors.

factor_more : (n c p most : ℕ) → most ≤ n * c → 1 ≤ p → min (n * (c * p)) most ≡ min (min (n * c) most * p) most
factor_more n c p most h k =
    let left : n * c * 1 ≤ n * c * p = grind arith in
    let right : most * 1 ≤ most * p = grind arith in
    let first : min (n * c) most ≡ most = omega arith in
    rw first (omega arith)

factor_less : (n c p most : ℕ) → n * c ≤ most → min (n * (c * p)) most ≡ min (min (n * c) most * p) most
factor_less n c p most h = let first : min (n * c) most ≡ n * c = omega arith in rw first (omega arith)

factor_zero : (n c most : ℕ) → min (n * (c * 0)) most ≡ min (min (n * c) most * 0) most
factor_zero n c most = omega arith

-- one factor more, where needs stop
pub one_factor : (n c p most : ℕ) → min (n * (c * p)) most ≡ min (min (n * c) most * p) most
one_factor n c zero most = factor_zero n c most
one_factor n c (suc p) most =
    by_lt_z (pos most) (pos (n * c))
    (λ more. factor_more n c (suc p) most (omega (arith, ints, more)) (omega arith))
    (λ not_more. factor_less n c (suc p) most (omega (arith, ints, not_more)))

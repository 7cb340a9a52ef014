-- Numbers up to a greatest one.
use Rattle.std.proofs.Common.{◌≡◌, ◌≤◌, ℕ, zero, suc, ◌+◌, ◌-◌, ◌*◌, Bool, true, false, nat_lt, min, refl, ap, ◌∙◌, arith}
use Rattle.std.proofs.lemmas.Bool.{ltb-true, ltb-false}
use Rattle.lt_term.specs.Size.{capped}

abbrev K : ℕ
K = 65_537

within : (x : ℕ) → x ≤ K → min x K ≡ x
within x h = omega (arith, h)

past : (x : ℕ) → K ≤ x → min x K ≡ K
past x h = omega (arith, h)

-- a product
times_by : (c m : ℕ) (b d : Bool) → nat_lt K c ≡ b → nat_lt K m ≡ d → min (min c K * min m K) K ≡ min (c * m) K
times_by c m false false e f = let h = within c (ltb-false K c e) in let k = within m (ltb-false K m f) in λ i. min (h i * k i) K
times_by c zero true d e f = let h : min zero K ≡ 0 = omega arith in ap (λ n. min (min c K * n) K) h ∙ omega arith
times_by c (suc m) true d e f =
    let l = ltb-true K c e in
    ap (λ n. min (n * min (suc m) K) K) (past c (omega (arith, l))) ∙ omega (arith, l)
times_by zero m false true e f = let h : min zero K ≡ 0 = omega arith in ap (λ n. min (n * min m K) K) h ∙ omega arith
times_by (suc c) m false true e f =
    let l = ltb-true K m f in
    ap (λ n. min (min (suc c) K * n) K) (past m (omega (arith, l))) ∙ omega (arith, l)

times : (c m : ℕ) → min (min c K * min m K) K ≡ min (c * m) K
times c m = times_by c m (nat_lt K c) (nat_lt K m) refl refl

-- a sum
plus : (x p q : ℕ) → min p K ≡ min q K → min (min x K + p) K ≡ min (x + q) K
plus x p q e = omega (arith, e)

pub joined_capped : (n p m x c y : ℕ) → n ≡ capped x → p ≡ capped c → m ≡ capped y → min (n + p * m) K ≡ capped (x + c * y)
joined_capped n p m x c y e f g = (λ i. min (e i + f i * g i) K) ∙ plus x (min c K * min y K) (c * y) (times c y)

grown_by : (x c y : ℕ) (b : Bool) → nat_lt K y ≡ b → 1 ≤ x → 1 ≤ y → min (min x K + min c K * (min y K - 1)) K ≡ min (x + c * (y - 1)) K
grown_by x c y false e p q =
    let l = ltb-false K y e in
    let h : min y K - 1 ≡ min (y - 1) K = omega (arith, l) in
    ap (λ n. min (min x K + min c K * n) K) h ∙ plus x (min c K * min (y - 1) K) (c * (y - 1)) (times c (y - 1))
grown_by x zero y true e p q = let h : min zero K ≡ 0 = omega arith in ap (λ n. min (min x K + n * (min y K - 1)) K) h ∙ omega arith
grown_by x (suc c) y true e p q =
    let l = ltb-true K y e in
    let h : min y K - 1 ≡ 65_536 = omega (arith, l) in
    ap (λ n. min (min x K + min (suc c) K * n) K) h ∙ large (y - 1) (omega (arith, l))
  where
    large : (n : ℕ) → K ≤ n → min (min x K + min (suc c) K * 65_536) K ≡ min (x + suc c * n) K
    large n l = omega (arith, l, p)

pub grown_capped : (n p m x c y : ℕ) → 1 ≤ x → 1 ≤ y → n ≡ capped x → p ≡ capped c → m ≡ capped y → min (n + p * (m - 1)) K ≡ capped (x + c * (y - 1))
grown_capped n p m x c y s t e f g = (λ i. min (e i + f i * (g i - 1)) K) ∙ grown_by x c y (nat_lt K y) refl s t

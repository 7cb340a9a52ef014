-- What weights add up to.
use Rattle.std.proofs.Common.{◌≡◌, ◌<◌, ◌≤◌, ◌+◌, ◌-◌, ◌*◌, ◌⊎◌, inl, inr, ℕ, zero, suc, min, List, [], ◌∷◌, ◌++◌, length, refl, ap, sym, ◌∙◌, arith, get_or, set, take}
use Rattle.std.proofs.lemmas.Bool.{cases_lt}
use Rattle.std.proofs.lemmas.List.{get_or-take, length-take}
use Rattle.lt_need.specs.inner.Conjuncts.{weighed, weighed_last}

weighed_set : (c : ℕ → ℕ) (ws : List ℕ) (i v : ℕ) → i < length ws → weighed c (set ws i v) + get_or ws i 0 * c i ≡ weighed c ws + v * c i
weighed_set c [] i v l = absurd (omega (arith, l))
weighed_set c (w ∷ ws) zero v l = omega arith
weighed_set c (w ∷ ws) (suc i) v l = omega (arith, weighed_set (λ n. c (suc n)) ws i v (omega (arith, l)))

weighed_part : (c : ℕ → ℕ) (ws : List ℕ) (i : ℕ) → i < length ws → get_or ws i 0 * c i ≤ weighed c ws
weighed_part c [] i l = absurd (omega (arith, l))
weighed_part c (w ∷ ws) zero l = omega arith
weighed_part c (w ∷ ws) (suc i) l = omega (arith, weighed_part (λ n. c (suc n)) ws i (omega (arith, l)))

weighed_more : (c : ℕ → ℕ) (ws : List ℕ) (n : ℕ) → n < length ws → weighed c (take (suc n) ws) ≡ weighed c (take n ws) + get_or ws n 0 * c n
weighed_more c [] n l = absurd (omega (arith, l))
weighed_more c (w ∷ ws) zero l = omega arith
weighed_more c (w ∷ ws) (suc n) l = omega (arith, weighed_more (λ n. c (suc n)) ws n (omega (arith, l)))

take_set : (ws : List ℕ) (n i v : ℕ) → take n (set ws i v) ≡ set (take n ws) i v
take_set ws zero i v = refl
take_set [] (suc n) i v = refl
take_set (w ∷ ws) (suc n) zero v = refl
take_set (w ∷ ws) (suc n) (suc i) v = ap (λ (xs : List ℕ). w ∷ xs) (take_set ws n i v)

-- more weight for a count, stopped
stop_more : (s before after t w v c : ℕ) → after + t * c ≡ before + v * c → t * c ≤ before → v ≡ min (t + w) 81 → min (s + (before + w * c)) 81 ≡ min (s + after) 81
stop_more s before after t w v zero e b is = omega (arith, e)
stop_more s before after t w v (suc c) e b is = by_size (cases_lt 81 (t + w))
  where
    by_size : (81 < t + w) ⊎ (t + w ≤ 81) → min (s + (before + w * suc c)) 81 ≡ min (s + after) 81
    by_size (inl l) =
        let full : v * suc c ≡ 81 * suc c = ap (λ (k : ℕ). k * suc c) (omega (arith, is, l)) in
        let great : 81 ≤ after = omega (arith, e, b, full) in
        let large : 81 ≤ before + w * suc c = omega (arith, b, l) in
        omega (arith, great, large)
    by_size (inr l) =
        let whole : v * suc c ≡ (t + w) * suc c = ap (λ (k : ℕ). k * suc c) (omega (arith, is, l)) in
        omega (arith, e, whole)

module _ (c : ℕ → ℕ) (ws : List ℕ) (n : ℕ) (within : n < length ws) where
  -- a weight that is added to that of a number below
  weigh_one : (s i w v : ℕ) → i < n → v ≡ min (get_or ws i 0 + w) 81 → min (s + (weighed c (take n ws) + w * c i)) 81 ≡ min (s + weighed c (take n (set ws i v))) 81
  weigh_one s i w v l is =
      let short : i < length (take n ws) = omega (arith, l, length-take n ws, within) in
      let same : get_or (take n ws) i 0 ≡ get_or ws i 0 = get_or-take n ws i 0 l in
      stop_more s (weighed c (take n ws)) (weighed c (take n (set ws i v))) (get_or ws i 0) w v (c i)
      (ap (λ (k : ℕ). weighed c (take n (set ws i v)) + k * c i) (sym same) ∙ ap (λ (xs : List ℕ). weighed c xs + get_or (take n ws) i 0 * c i) (take_set ws n i v) ∙ weighed_set c (take n ws) i v short)
      (omega (arith, weighed_part c (take n ws) i short, ap (λ (k : ℕ). k * c i) same)) is

  -- the weight of a number goes to another one
  pub weigh_same : (s i w v : ℕ) (after : List ℕ) → i < n → w ≡ get_or ws n 0 → c n ≡ c i → v ≡ min (get_or ws i 0 + w) 81 → after ≡ set ws i v
      → min (s + weighed c (take (suc n) ws)) 81 ≡ min (s + weighed c (take n after)) 81
  weigh_same s i w v after l named same is put =
      ap (λ (k : ℕ). min (s + k) 81) (weighed_more c ws n within ∙ ap (λ (k : ℕ). weighed c (take n ws) + k * c n) (sym named) ∙ ap (λ (k : ℕ). weighed c (take n ws) + w * k) same)
      ∙ weigh_one s i w v l is ∙ ap (λ (xs : List ℕ). min (s + weighed c (take n xs)) 81) (sym put)

  -- it is added to a sum
  pub weigh_whole : (s w k sum : ℕ) → w ≡ get_or ws n 0 → k ≡ c n → sum ≡ min (s + w * k) 81 → min (s + weighed c (take (suc n) ws)) 81 ≡ min (sum + weighed c (take n ws)) 81
  weigh_whole s w k sum named same is =
      ap (λ (j : ℕ). min (s + j) 81) (weighed_more c ws n within ∙ ap (λ (j : ℕ). weighed c (take n ws) + j * c n) (sym named) ∙ ap (λ (j : ℕ). weighed c (take n ws) + w * j) (sym same)) ∙ omega (arith, is)

  -- there is none
  pub weigh_none : (s w : ℕ) → w ≡ get_or ws n 0 → w ≡ 0 → min (s + weighed c (take (suc n) ws)) 81 ≡ min (s + weighed c (take n ws)) 81
  weigh_none s w named none =
      let zeroed : get_or ws n 0 * c n ≡ 0 = ap (λ (k : ℕ). k * c n) (sym named ∙ none) ∙ omega arith in
      omega (arith, weighed_more c ws n within, zeroed)

-- the weight of a number goes to two others
pub weigh_both : (c : ℕ → ℕ) (ws between after : List ℕ) (n s a b w v u : ℕ) → n < length ws → n < length between → a < n → b < n → w ≡ get_or ws n 0 → c n ≡ c a + c b
    → v ≡ min (get_or ws a 0 + w) 81 → between ≡ set ws a v → u ≡ min (get_or between b 0 + w) 81 → after ≡ set between b u
    → min (s + weighed c (take (suc n) ws)) 81 ≡ min (s + weighed c (take n after)) 81
weigh_both c ws between after n s a b w v u within inside l m named both is put being done =
    let split : w * c n ≡ w * c a + w * c b = ap (λ (k : ℕ). w * k) both ∙ omega arith in
    let whole : weighed c (take (suc n) ws) ≡ weighed c (take n ws) + w * c n = weighed_more c ws n within ∙ ap (λ (k : ℕ). weighed c (take n ws) + k * c n) (sym named) in
    let first : min ((s + w * c b) + (weighed c (take n ws) + w * c a)) 81 ≡ min ((s + w * c b) + weighed c (take n between)) 81 =
    weigh_one c ws n within (s + w * c b) a w v l is ∙ ap (λ (xs : List ℕ). min ((s + w * c b) + weighed c (take n xs)) 81) (sym put) in
    let second : min (s + (weighed c (take n between) + w * c b)) 81 ≡ min (s + weighed c (take n after)) 81 =
    weigh_one c between n inside s b w u m being ∙ ap (λ (xs : List ℕ). min (s + weighed c (take n xs)) 81) (sym done) in
    omega (arith, split, whole, first, second)

-- Where it begins.

pub last_weighed : (c : ℕ → ℕ) (n : ℕ) → weighed c (take (suc n) (weighed_last n)) ≡ c n
last_weighed c zero = omega arith
last_weighed c (suc n) = omega (arith, last_weighed (λ k. c (suc k)) n)

pub length-weighed_last : (n : ℕ) → length (weighed_last n) ≡ suc n
length-weighed_last zero = refl
length-weighed_last (suc n) = ap suc (length-weighed_last n)

-- one weight more
last_more : (xs : List ℕ) (n : ℕ) → xs ++ weighed_last (suc n) ≡ (xs ++ 0 ∷ []) ++ weighed_last n
last_more [] n = refl
last_more (x ∷ xs) n = ap (λ (ys : List ℕ). x ∷ ys) (last_more xs n)

pub last_next : (whole xs more : List ℕ) (n i : ℕ) → i < n → whole ≡ xs ++ weighed_last (n - i) → more ≡ xs ++ 0 ∷ [] → whole ≡ more ++ weighed_last (n - (i + 1))
last_next whole xs more n i l e is =
    let left : n - i ≡ suc (n - (i + 1)) = omega (arith, l) in
    e ∙ ap (λ (k : ℕ). xs ++ weighed_last k) left ∙ last_more xs (n - (i + 1)) ∙ ap (λ (ys : List ℕ). ys ++ weighed_last (n - (i + 1))) (sym is)

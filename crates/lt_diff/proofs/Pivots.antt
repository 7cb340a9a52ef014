-- What one pivot keeps.
use Rattle.std.proofs.Common.{◌≢◌, ℕ, ◌<◌, ℤ, pos, ◌+ℤ◌, ◌≤ℤ◌, inl, inr, ◌∙◌, arith}
use Rattle.std.proofs.lemmas.Int.{ints}
use Rattle.lt_diff.specs.Bounds.{no_bound}
use Rattle.lt_diff.specs.Closing.{AreWithin, IsClosedAt}
use Rattle.lt_diff.specs.inner.Pivots.{IsFlat, IsPivoted}

-- what is at most a sum of two small bounds is stated
pub is_stated : (c x y : ℤ) → c ≤ℤ (x +ℤ y) → x ≤ℤ pos 67600000000000000 → y ≤ℤ pos 67600000000000000 → c ≢ no_bound
is_stated c x y le lx ly e = omega (arith, ints)

-- a pivot leaves the bounds closed at the variables before it
pub closed_kept : (n k p : ℕ) (old new : ℕ → ℕ → ℤ) → k < n → p < n → IsPivoted n k old new → AreWithin 67600000000000000 n old → IsFlat n old → IsClosedAt n old p → IsClosedAt n new p
closed_kept n k p old new hk hp piv s flat closed a b ha hb fa fb =
    elim (piv a p ha hp).2 [
      | inl e ↦ elim (piv p b hp hb).2 [
        | inl d ↦
            let less = (piv a b ha hb).0 in
            let c = closed a b ha hb (λ h. fa (e ∙ h)) (λ h. fb (d ∙ h)) in
            omega (arith, ints)
        | inr d ↦
            let fap : old a p ≢ no_bound = λ h. fa (e ∙ h) in
            let c = closed a k ha hk fap d.0 in
            let fak : old a k ≢ no_bound = is_stated _ _ _ c (s a p ha hp fap).1 (s p k hp hk d.0).1 in
            let r = (piv a b ha hb).1 fak d.1 in
            let is = d.2 in
            omega (arith, ints)
      ]
      | inr e ↦ elim (piv p b hp hb).2 [
        | inl d ↦
            let fpb : old p b ≢ no_bound = λ h. fb (d ∙ h) in
            let c = closed k b hk hb e.1 fpb in
            let fkb : old k b ≢ no_bound = is_stated _ _ _ c (s k p hk hp e.1).1 (s p b hp hb fpb).1 in
            let r = (piv a b ha hb).1 e.0 fkb in
            let is = e.2 in
            omega (arith, ints)
        | inr d ↦
            let c = closed k k hk hk e.1 d.0 in
            let f = flat k hk in
            let r = (piv a b ha hb).1 e.0 d.1 in
            let is = e.2 in
            let was = d.2 in
            omega (arith, ints)
      ]
    ]

-- a pivot closes the bounds at its own variable
pub closed_now : (n k : ℕ) (old new : ℕ → ℕ → ℤ) → k < n → IsPivoted n k old new → IsFlat n old → IsClosedAt n new k
closed_now n k old new hk piv flat a b ha hb fa fb =
    let f = flat k hk in
    let x : (old a k ≢ no_bound) × (old a k ≤ℤ new a k) = elim (piv a k ha hk).2 [
      | inl e ↦ ((λ h. fa (e ∙ h)), omega (arith, ints))
      | inr e ↦ (e.0, (let is = e.2 in omega (arith, ints)))
    ] in
    let y : (old k b ≢ no_bound) × (old k b ≤ℤ new k b) = elim (piv k b hk hb).2 [
      | inl e ↦ ((λ h. fb (e ∙ h)), omega (arith, ints))
      | inr e ↦ (e.1, (let is = e.2 in omega (arith, ints)))
    ] in
    let r = (piv a b ha hb).1 x.0 y.0 in
    let lx = x.1 in
    let ly = y.1 in
    omega (arith, ints)

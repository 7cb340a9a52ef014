-- Laws of the definitions.
use Rattle.std.proofs.Common.{◌≢◌, ℕ, ◌<◌, ℤ, ◌-ℤ◌, ◌≤ℤ◌, ◌<ℤ◌, ◌⊎◌, inl, inr, sym, ◌∙◌, subst, arith}
use Rattle.std.proofs.lemmas.Int.{ints, clamps}
use Rattle.std.proofs.lemmas.Bool.{cases_eq}
use Rattle.lt_diff.specs.Bounds.{IsBounded, IsSolution, no_bound}
use Rattle.lt_diff.specs.Laws.{BoundAddsItsOwn, NegativeCycleUnsolved, NoBoundsAllowAll}
use Rattle.lt_diff.proofs.Walks.{cycle_unsolved}
use Rattle.lt_diff.proofs.Stating.{cases_eq_z}

pub negative_cycle_unsolved : NegativeCycleUnsolved
negative_cycle_unsolved n cell c value s = cycle_unsolved n cell value c s

pub no_bounds_allow_all : NoBoundsAllowAll
no_bounds_allow_all n cell u value origin = (
  origin,
  (λ a b ha hb f. elim (cases_eq a b) [
    | inl e ↦ subst (λ (r : ℕ). (value a -ℤ value r) ≤ℤ cell a r) e (let is = u.0 a ha in omega (arith, ints))
    | inr ne ↦ absurd (f (u.1 a b ha hb ne))
  ]),
)

module _ (n a b : ℕ) (most : ℤ) (old new : ℕ → ℕ → ℤ) (ha : a < n) (hb : b < n) (small : most <ℤ no_bound) (bounded : IsBounded n a b most old new) (value : ℕ → ℤ) where
  one_more : IsSolution n new value → IsSolution n old value × ((value a -ℤ value b) ≤ℤ most)
  one_more s =
      let is = bounded.0 in
      let own = s.1 a b ha hb (λ e. omega (arith, ints, clamps)) in (
        (
          s.0,
          (λ i j hi hj f. elim (cases_eq i a) [
            | inl ei ↦ elim (cases_eq j b) [
              | inl ej ↦ subst (λ (r : ℕ). (value r -ℤ value j) ≤ℤ old r j) (sym ei) (subst (λ (r : ℕ). (value a -ℤ value r) ≤ℤ old a r) (sym ej) (omega (arith, ints, clamps)))
              | inr nj ↦ left s i j hi hj (inr nj) f
            ]
            | inr ni ↦ left s i j hi hj (inl ni) f
          ]),
        ),
        omega (arith, ints, clamps),
      )
    where
      left : IsSolution n new value → (i j : ℕ) → i < n → j < n → (i ≢ a) ⊎ (j ≢ b) → old i j ≢ no_bound → (value i -ℤ value j) ≤ℤ old i j
      left s i j hi hj d f = (let same = bounded.1 i j hj d in let m = s.1 i j hi hj (λ e. f (sym same ∙ e)) in omega (arith, ints))

  no_other : IsSolution n old value → (value a -ℤ value b) ≤ℤ most → IsSolution n new value
  no_other s own = (
    s.0,
    (λ i j hi hj f. elim (cases_eq i a) [
      | inl ei ↦ elim (cases_eq j b) [
        | inl ej ↦ subst (λ (r : ℕ). (value r -ℤ value j) ≤ℤ new r j) (sym ei) (subst (λ (r : ℕ). (value a -ℤ value r) ≤ℤ new a r) (sym ej) here)
        | inr nj ↦ there i j hi hj (inr nj) f
      ]
      | inr ni ↦ there i j hi hj (inl ni) f
    ]),
  )
    where
      there : (i j : ℕ) → i < n → j < n → (i ≢ a) ⊎ (j ≢ b) → new i j ≢ no_bound → (value i -ℤ value j) ≤ℤ new i j
      there i j hi hj d f = (let same = bounded.1 i j hj d in let m = s.1 i j hi hj (λ e. f (same ∙ e)) in omega (arith, ints))

      here : (value a -ℤ value b) ≤ℤ new a b
      here = elim (cases_eq_z (old a b)) [
        | inl e ↦ (let is = bounded.0 in omega (arith, ints, clamps))
        | inr ne ↦ (let is = bounded.0 in let m = s.1 a b ha hb ne in omega (arith, ints, clamps))
      ]

pub bound_adds_its_own : BoundAddsItsOwn
bound_adds_its_own n a b most old new ha hb small bounded value = (one_more n a b most old new ha hb small bounded value, (λ s. no_other n a b most old new ha hb small bounded value s.0 s.1))

-- Stating one bound more.
use Rattle.std.proofs.Common.{◌≡◌, ◌≢◌, ℕ, ◌+◌, ◌*◌, ◌<◌, ◌≤◌, List, [], length, set, ℤ, pos, neg_ℤ, ◌≤ℤ◌, ◌<ℤ◌, ◌⊎◌, inl, inr, refl, sym, ◌∙◌, subst, arith}
use Rattle.std.proofs.lemmas.Int.{ints, clamps, by_lt_z}
use Rattle.std.proofs.lemmas.Bool.{cases_eq}
use Rattle.std.specs.Int.{int_min}
use Rattle.lt_diff.specs.Bounds.{AreLess, HaveNoBounds, IsBounded, StaysStated, cell_of, no_bound}
use Rattle.lt_diff.specs.Closing.{AreStated, AreWithin, IsWithin}
use Rattle.lt_diff.specs.Walks.{HasWalk}
use Rattle.lt_diff.proofs.Cells.{bounded_written}
use Rattle.lt_diff.proofs.Walks.{walk_lowered}

-- whether a cell is stated
pub cases_eq_z : (z : ℤ) → (z ≡ no_bound) ⊎ (z ≢ no_bound)
cases_eq_z z = by_lt_z z no_bound (λ less. inr (λ e. omega (arith, ints))) (λ no. by_lt_z no_bound z (λ more. inr (λ e. omega (arith, ints))) (λ not. inl (omega (arith, ints))))

-- the smaller of two bounds is as far from 0 as they may be
min_within : (size : ℕ) (most bound new : ℤ) → 4000000000000 ≤ size → neg_ℤ (pos 4000000000000) ≤ℤ most → most ≤ℤ pos 4000000000000 → new ≡ int_min bound most → IsWithin size bound → IsWithin size new
min_within size most bound new large low high is within f = elim (cases_eq_z bound) [
  | inl e ↦ (omega (arith, ints, clamps), omega (arith, ints, clamps))
  | inr ne ↦
      let w = within ne in
      let wl = w.0 in
      let wh = w.1 in
      (omega (arith, ints, clamps), omega (arith, ints, clamps))
]

-- a bound, which is lowered where it is the one of two variables
lowered : (i a j b : ℕ) → ℤ → ℤ → (i ≡ a) ⊎ (i ≢ a) → (j ≡ b) ⊎ (j ≢ b) → ℤ
lowered i a j b most bound (inl e) (inl d) = int_min bound most
lowered i a j b most bound (inl e) (inr d) = bound
lowered i a j b most bound (inr e) d = bound

-- it is as far from 0 as it may be
lowered_within : (i a j b : ℕ) (most bound : ℤ) (e : (i ≡ a) ⊎ (i ≢ a)) (d : (j ≡ b) ⊎ (j ≢ b)) → neg_ℤ (pos 4000000000000) ≤ℤ most → most ≤ℤ pos 4000000000000 → IsWithin 4000000000000 bound → IsWithin 4000000000000 (lowered i a j b most bound e d)
unfolding lowered
lowered_within i a j b most bound (inl e) (inl d) low high w = min_within 4000000000000 most bound (int_min bound most) (omega arith) low high refl w
lowered_within i a j b most bound (inl e) (inr d) low high w = w
lowered_within i a j b most bound (inr e) d low high w = w

-- it is stated where the bound was, and no greater
lowered_less : (i a j b : ℕ) (most bound : ℤ) (e : (i ≡ a) ⊎ (i ≢ a)) (d : (j ≡ b) ⊎ (j ≢ b)) → most <ℤ no_bound → bound ≢ no_bound → (lowered i a j b most bound e d ≢ no_bound) × (lowered i a j b most bound e d ≤ℤ bound)
unfolding lowered
lowered_less i a j b most bound (inl e) (inl d) small f = ((λ h. omega (arith, ints, clamps)), omega (arith, ints, clamps))
lowered_less i a j b most bound (inl e) (inr d) small f = (f, omega (arith, ints))
lowered_less i a j b most bound (inr e) d small f = (f, omega (arith, ints))

-- what is at most the bound, and at most the new one where that counts, is at most it
lowered_least : (i a j b : ℕ) (most bound v : ℤ) (e : (i ≡ a) ⊎ (i ≢ a)) (d : (j ≡ b) ⊎ (j ≢ b)) → v ≤ℤ bound → (i ≡ a → j ≡ b → v ≤ℤ most) → v ≤ℤ lowered i a j b most bound e d
unfolding lowered
lowered_least i a j b most bound v (inl e) (inl d) less own = let o = own e d in omega (arith, ints, clamps)
lowered_least i a j b most bound v (inl e) (inr d) less own = less
lowered_least i a j b most bound v (inr e) d less own = less

-- where the new one counts, it is at most that
lowered_own : (a b : ℕ) (most bound : ℤ) (e : (a ≡ a) ⊎ (a ≢ a)) (d : (b ≡ b) ⊎ (b ≢ b)) → lowered a a b b most bound e d ≤ℤ most
unfolding lowered
lowered_own a b most bound (inl e) (inl d) = omega (arith, ints, clamps)
lowered_own a b most bound (inl e) (inr d) = absurd (d refl)
lowered_own a b most bound (inr e) d = absurd (e refl)

-- bounds, with one more
abbrev with_bound : ℕ → ℕ → ℤ → (ℕ → ℕ → ℤ) → ℕ → ℕ → ℤ
with_bound a b most bounds i j = lowered i a j b most (bounds i j) (cases_eq i a) (cases_eq j b)

module _ (n a b : ℕ) (most : ℤ) (old new : ℕ → ℕ → ℤ) (ha : a < n) (hb : b < n) (low : neg_ℤ (pos 4000000000000) ≤ℤ most) (high : most ≤ℤ pos 4000000000000) (s : AreStated n old) (bounded : IsBounded n a b most old new) where
  -- what holds of each cell that is as it was, and of this one, holds of all
  each : (P : ℕ → ℕ → ℤ → Type 0) → ((i j : ℕ) → i < n → j < n → P i j (old i j)) → P a b (new a b) → (i j : ℕ) → i < n → j < n → P i j (new i j)
  each P others own i j hi hj = elim (cases_eq i a) [
    | inl ei ↦ elim (cases_eq j b) [
      | inl ej ↦ subst (λ (r : ℕ). P r j (new r j)) (sym ei) (subst (λ (r : ℕ). P a r (new a r)) (sym ej) own)
      | inr nj ↦ subst (λ (v : ℤ). P i j v) (sym (bounded.1 i j hj (inr nj))) (others i j hi hj)
    ]
    | inr ni ↦ subst (λ (v : ℤ). P i j v) (sym (bounded.1 i j hj (inl ni))) (others i j hi hj)
  ]

  -- the cell of these variables is at most the bound
  own_most : new a b ≤ℤ most
  own_most = let is = bounded.0 in omega (arith, ints, clamps)

  -- no cell is greater than its bound
  at_most : (i j : ℕ) → i < n → j < n → new i j ≤ℤ with_bound a b most s.bounds i j
  at_most i j hi hj =
      lowered_least i a j b most (s.bounds i j) (new i j) (cases_eq i a) (cases_eq j b)
      (each (λ x y v. v ≤ℤ s.bounds x y) s.comes.less (let is = bounded.0 in let l = s.comes.less a b ha hb in omega (arith, ints, clamps)) i j hi hj)
      (λ ei ej. subst (λ (r : ℕ). new r j ≤ℤ most) (sym ei) (subst (λ (r : ℕ). new a r ≤ℤ most) (sym ej) own_most))

  -- a walk over the old bounds is one over these, with no greater sum
  walk_still : (i j : ℕ) (v : ℤ) → j < n → HasWalk n s.bounds i j v → HasWalk n (with_bound a b most s.bounds) i j v
  walk_still i j v hj w =
      let l = walk_lowered n s.bounds (with_bound a b most s.bounds) (λ x y hx hy f. lowered_less x a y b most (s.bounds x y) (cases_eq x a) (cases_eq y b) (omega (arith, ints)) f) i j w.through hj w.is in
      let less = l.1 in
      let sum = w.sum in
      record { through = w.through; is = l.0; sum = omega (arith, ints) }

  -- this cell follows: where it was less before, as it did then, and else from this bound alone
  own_follows : new a b ≢ no_bound → HasWalk n (with_bound a b most s.bounds) a b (new a b)
  own_follows f = by_lt_z most (old a b)
      (λ less. record { through = []; is = (ha, hb, bounds_stated); sum = (let o = bounds_own in let is = bounded.0 in omega (arith, ints, clamps)) })
      (λ no.
      let same : new a b ≡ old a b = (let is = bounded.0 in omega (arith, ints, clamps)) in
      subst (λ (v : ℤ). HasWalk n (with_bound a b most s.bounds) a b v) (sym same) (walk_still a b (old a b) hb (s.comes.follows a b ha hb (λ e. f (same ∙ e)))))
    where
      bounds_own : with_bound a b most s.bounds a b ≤ℤ most
      bounds_own = lowered_own a b most (s.bounds a b) (cases_eq a a) (cases_eq b b)

      bounds_stated : with_bound a b most s.bounds a b ≢ no_bound
      bounds_stated e = let o = bounds_own in omega (arith, ints)

  -- the cell of these variables is stated
  pub own_stated : new a b ≢ no_bound
  own_stated e = let o = own_most in omega (arith, ints)

  -- and so are the others that were
  pub bounded_stays : StaysStated n old new
  bounded_stays = each (λ i j v. old i j ≢ no_bound → v ≢ no_bound) (λ i j hi hj f. f) (λ f. own_stated)

  -- a further bound leaves what stating bounds leaves
  pub stated_more : AreStated n new
  stated_more = record {
    bounds = with_bound a b most s.bounds;
    comes = record {
      within = within_bounds;
      less = at_most;
      follows = each (λ i j v. v ≢ no_bound → HasWalk n (with_bound a b most s.bounds) i j v) (λ i j hi hj f. walk_still i j (old i j) hj (s.comes.follows i j hi hj f)) own_follows;
    };
    within = each (λ i j v. IsWithin 520000000000000 v) s.within (min_within 520000000000000 most (old a b) (new a b) (omega arith) low high bounded.0 (s.within a b ha hb));
    origin = each (λ i j v. i ≡ 0 → j ≡ 0 → v ≤ℤ pos 0) was_origin own_origin 0 0 (omega (arith, ha)) (omega (arith, ha)) refl refl;
  }
    where
      within_bounds : AreWithin 4000000000000 n (with_bound a b most s.bounds)
      within_bounds i j hi hj = lowered_within i a j b most (s.bounds i j) (cases_eq i a) (cases_eq j b) low high (s.comes.within i j hi hj)

      was_origin : (i j : ℕ) → i < n → j < n → i ≡ 0 → j ≡ 0 → old i j ≤ℤ pos 0
      was_origin i j hi hj ei ej = subst (λ (r : ℕ). old r j ≤ℤ pos 0) (sym ei) (subst (λ (r : ℕ). old 0 r ≤ℤ pos 0) (sym ej) s.origin)

      own_origin : a ≡ 0 → b ≡ 0 → new a b ≤ℤ pos 0
      own_origin ea eb = let o = was_origin a b ha hb ea eb in let is = bounded.0 in omega (arith, ints, clamps)

-- what stating bounds leaves where none is stated
pub cleared_stated : (n : ℕ) (cell : ℕ → ℕ → ℤ) → 0 < n → HaveNoBounds n cell → AreStated n cell
cleared_stated n cell h u = record {
  bounds = cell;
  comes = record {
    within = within;
    less = λ a b ha hb. omega (arith, ints);
    follows = λ a b ha hb f. record { through = []; is = (ha, hb, f); sum = omega (arith, ints) };
  };
  within = λ a b ha hb f. (let w = within a b ha hb f in let low = w.0 in let high = w.1 in (omega (arith, ints), omega (arith, ints)));
  origin = (let e = u.0 0 h in omega (arith, ints));
}
  where
    within : AreWithin 4000000000000 n cell
    within a b ha hb f = elim (cases_eq a b) [
      | inl e ↦ (let is : cell a b ≡ pos 0 = subst (λ (r : ℕ). cell a r ≡ pos 0) e (u.0 a ha) in (omega (arith, ints), omega (arith, ints)))
      | inr ne ↦ absurd (f (u.1 a b ha hb ne))
    ]

-- what is stated stays so where no cell becomes greater
pub less_stays : (n : ℕ) (old new : ℕ → ℕ → ℤ) → AreStated n old → AreLess n old new → StaysStated n old new
less_stays n old new s less a b ha hb f e =
    let w = s.within a b ha hb f in
    let high = w.1 in
    let l = less a b ha hb in
    omega (arith, ints)

-- What the cells are like once a bound is stated.
pub record IsDone (n a b : ℕ) (most : ℤ) (old new : ℕ → ℕ → ℤ) : Type 0 where
  pub cells : IsBounded n a b most old new
  pub stated : AreStated n new
  pub own : new a b ≢ no_bound
  pub kept : StaysStated n old new

-- It is done by writing the smaller of the cell and the bound, which the code knows as this number.
pub done : (n : ℕ) (xs : List ℤ) (a b : ℕ) (v w most : ℤ) → length xs ≡ n * n → a < n → b < n → neg_ℤ (pos 4000000000000) ≤ℤ most → most ≤ℤ pos 4000000000000
    → AreStated n (cell_of n xs) → v ≡ int_min (cell_of n xs a b) most → w ≡ v → IsDone n a b most (cell_of n xs) (cell_of n (set xs (a * n + b) w))
done n xs a b v w most l ha hb low high s is same = subst (λ (z : ℤ). IsDone n a b most (cell_of n xs) (cell_of n (set xs (a * n + b) z))) (sym same) all
  where
    written : IsBounded n a b most (cell_of n xs) (cell_of n (set xs (a * n + b) v))
    written = bounded_written n xs a b v most l ha hb is

    all : IsDone n a b most (cell_of n xs) (cell_of n (set xs (a * n + b) v))
    all = record {
      cells = written;
      stated = stated_more n a b most (cell_of n xs) (cell_of n (set xs (a * n + b) v)) ha hb low high s written;
      own = own_stated n a b most (cell_of n xs) (cell_of n (set xs (a * n + b) v)) ha hb low high s written;
      kept = bounded_stays n a b most (cell_of n xs) (cell_of n (set xs (a * n + b) v)) ha hb low high s written;
    }

-- Points drawn inside that are known at once.
use Rattle.std.proofs.Common.{◌≡◌, ◌⊎◌, inl, inr, ◌<◌, ◌+◌, ◌*◌, ◌/◌, ◌%◌, ℕ, zero, suc, Bool, true, false, not, List, [], ◌∷◌, length, map, get_or, set, ℤ, pos, Some, None, IsTrue, refl, ap, sym, subst, true≢false, ◌∙◌, arith}
use Rattle.std.specs.Prelude.{Contains, MatchOption, if◌then◌else◌, ◌+ℤ◌, ◌≤ℤ◌, unsigned_abs}
use Rattle.std.specs.Int.{int_gap}
use Rattle.std.specs.List.{filter}
use Rattle.std.specs.declared.option.Option.{Option}
use Rattle.std.proofs.Math.Nat.{mul-div_cancel}
use Rattle.std.proofs.lemmas.Int.{ints}
use Rattle.std.proofs.lemmas.List.Folds.{list_any_at}
use Rattle.lt_draw.specs.Target.{target_of}
use Rattle.lt_formula.proofs.Insides.{inside_is_a_solution}
use Rattle.lt_formula.specs.First.{behind, first_some, or_else, with_first}
use Rattle.lt_formula.specs.Inside.{aim_of, aims_of, can_pass, inside_solution, last_of, part_of}
use Rattle.lt_formula.specs.Solution.{IsFirst, IsPointOf, IsSatisfiable, first_mark, orders_from, other_marks, points_from}
use Rattle.lt_num.proofs.Public.{gap_above, point_is}
use Rattle.lt_num.specs.Interval.{counted_up}
use Rattle.lt_num.specs.Range.{HasPoints, count_of, point_at, points_of}
use Rattle.lt_num.specs.declared.range.Range.{Range}
use Rattle.lt_space.specs.Scope.{zero_alone}
use Rattle.lt_instant.specs.inner.Literals.{raw_truth, truths}
use Rattle.lt_instant.proofs.FirstPoints.{AreThese, ComesFirst, IsOnly, of_two, these_back, truths_from}
use Rattle.lt_instant.proofs.LiteralPoints.{target_first}

-- ---- where all points of a range are possible, its part has the same targets

-- the last of numbers that are told one after another
last_told : (f : ℤ → ℤ) (first : ℤ) (n : ℕ) → last_of (f first) (map f (counted_up (first +ℤ pos 1) n)) ≡ f (first +ℤ pos n)
unfolding counted_up
last_told f first zero = ap f (omega (arith, ints))
last_told f first (suc n) = last_told f (first +ℤ pos 1) n ∙ ap f (omega (arith, ints))

gap_of : (low high : ℤ) (far : ℕ) → high ≡ low +ℤ pos far → int_gap low high ≡ far
gap_of low high far e =
    let over : low ≤ℤ high = omega (arith, ints, e) in
    let gap = gap_above low high over in
    omega (arith, ints, gap, e)

module _ (r : Range) (has : HasPoints r) where
  -- the place of the last point
  abbrev last_place : ℕ
  last_place = int_gap r.low r.high / unsigned_abs r.step

  last_count : (high : ℤ) → high ≡ point_at r (pos last_place) → count_of (record r { high = high }) ≡ count_of r
  last_count high e =
      let stride = unsigned_abs r.step in
      let some : 0 < stride = let h = has.step in omega (arith, ints, h) in
      ap (λ (n : ℕ). n / stride + 1) (gap_of r.low high (last_place * stride) (e ∙ point_is r has last_place)) ∙ ap (λ (n : ℕ). n + 1) (mul-div_cancel last_place some)

  part_target : (low high : ℤ) (word : ℕ) → low ≡ r.low → high ≡ point_at r (pos last_place) → target_of (record r { low = low; high = high }) word ≡ target_of r word
  part_target low high word l h =
      ap (λ (z : ℤ). target_of (record r { low = z; high = high }) word) l
      ∙ ap (λ (z : ℤ). target_of (record r { high = z }) word) h
      ∙ ap (λ (n : ℕ). point_at r (pos (word % n))) (last_count (point_at r (pos last_place)) refl)

  whole_part : (word : ℕ) → target_of (part_of r (points_of r)) word ≡ target_of r word
  unfolding counted_up
  whole_part word =
      let next : last_place + 1 ≡ suc last_place = omega arith in
      let low : point_at r (pos 0) ≡ r.low = omega (arith, ints, point_is r has 0) in
      let high = last_told (point_at r) (pos 0) last_place ∙ ap (point_at r) {x = pos 0 +ℤ pos last_place} {y = pos last_place} (omega (arith, ints)) in
      ap (λ (n : ℕ). target_of (part_of r (map (point_at r) (counted_up (pos 0) n))) word) next ∙ part_target _ _ word low high

-- ---- all points are possible

kept_all : (f : ℤ → Bool) (xs : List ℤ) → ((x : ℤ) → f x ≡ true) → filter f xs ≡ xs
kept_all f [] all = refl
kept_all f (x ∷ xs) all = ap (λ b. if b then x ∷ filter f xs else filter f xs) (all x) ∙ ap (λ ys. x ∷ ys) (kept_all f xs all)

-- a point that passes shows that one can
can : (test : List ℤ → Bool) (ranges : List Range) (raws : List ℤ) → IsPointOf ranges raws → test raws ≡ true → can_pass test ranges ≡ true
can test [] [] at h = h
can test [] (v ∷ vs) at h = absurd at
can test (r ∷ rs) [] at h = absurd at
can test (r ∷ rs) (v ∷ vs) at h =
    let f : ℤ → Bool = λ u. can_pass (behind test u) rs in
    list_any_at f (points_of r) at.0.0 v at.0.1 (ap f at.0.2 ∙ can (behind test v) rs vs at.1 h)

-- a test that passes nowhere lets nothing be drawn
pub none_inside : (test : List ℤ → Bool) (ranges : List Range) (words : List ℕ) (down : List Bool) → length words ≡ length ranges → ((raws : List ℤ) → test raws ≡ false) → inside_solution test ranges words down ≡ None
none_inside test ranges words down e fails = by (inside_solution test ranges words down) (inside_is_a_solution test ranges words down e)
  where
    by : (o : Option (List ℤ))
        → MatchOption o (IsSatisfiable test ranges → ⊥) (λ raws. IsPointOf ranges raws × IsTrue (test raws) × IsFirst test ranges (orders_from ranges (aims_of test ranges words raws) down) raws)
        → o ≡ None
    by None h = refl
    by (Some raws) h = absurd (true≢false (sym h.1 ∙ fails raws))

-- A number comes first from each aim, or is the target of a word in the whole range.
abbrev pub IsAimed : Range → ℕ → ℤ → Type 0
IsAimed range word v = ((aim : ℤ) → ComesFirst range aim v) ⊎ (HasPoints range × (v ≡ target_of range word))

-- A variable is led there: no point with the other truth passes, or its number is one of those, and the test is the same for
-- each number of it.
abbrev pub IsLedInside : (List ℤ → Bool) → ℕ → Range → ℕ → ℤ → Type 0
IsLedInside test i range word v = IsOnly test i range v ⊎ (IsAimed range word v × ((raws : List ℤ) (u : ℤ) → test (set raws i u) ≡ test raws))

abbrev pub AreLedInside : (List ℤ → Bool) → List Range → List ℕ → List ℤ → Type 0
AreLedInside test ranges words vs = (i : ℕ) → i < length ranges → IsLedInside test i (get_or ranges i zero_alone) (get_or words i 0) (get_or vs i (pos 0))

module _ (test : List ℤ → Bool) (rs : List Range) (ws : List ℕ) (down : List Bool) (many : length ws ≡ length rs) (v : ℤ) (vs : List ℤ) (at : IsPointOf rs vs) (passes : test (v ∷ vs) ≡ true)
    (rest : inside_solution (behind test v) rs ws down ≡ Some vs) where
  -- what is drawn behind a number
  abbrev insides : ℤ → Option (List ℤ)
  insides u = with_first u (inside_solution (behind test u) rs ws down)

  comes_first : (mark : Bool) (r : Range) (aim : ℤ) → ComesFirst r aim v → first_some insides (points_from mark aim r) ≡ Some (v ∷ vs)
  comes_first mark r aim starts =
      let s = starts mark in
      ap (first_some insides) s.1 ∙ ap (λ o. or_else (with_first v o) (first_some insides s.0)) rest

  whole_aim : (r : Range) (w : ℕ) → HasPoints r → ((raws : List ℤ) (u : ℤ) → test (set raws 0 u) ≡ test raws) → aim_of test r rs w ≡ target_of r w
  whole_aim r w has free =
      ap (λ ps. target_of (part_of r ps) w) (kept_all (λ u. can_pass (behind test u) rs) (points_of r) (λ u. can (behind test u) rs vs at (free (v ∷ vs) u ∙ passes)))
      ∙ whole_part r has w

  one_inside : (mark : Bool) (r : Range) (w : ℕ) → Contains (points_of r) v → IsLedInside test 0 r w v → first_some insides (points_from mark (aim_of test r rs w) r) ≡ Some (v ∷ vs)
  one_inside mark r w here (inr aimed) = by aimed.0
    where
      by : IsAimed r w v → first_some insides (points_from mark (aim_of test r rs w) r) ≡ Some (v ∷ vs)
      by (inl starts) = comes_first mark r (aim_of test r rs w) (starts (aim_of test r rs w))
      by (inr target) =
          ap (λ a. first_some insides (points_from mark a r)) (whole_aim r w target.0 aimed.1 ∙ sym target.1)
          ∙ comes_first mark r v (target_first v r target.0 here)
  one_inside mark r w here (inl only) =
      let b = only.1 in
      let aim = aim_of test r rs w in
      ap (λ q. first_some insides (points_from mark aim q)) only.0
      ∙ of_two insides v (raw_truth (not b)) _ (v ∷ vs) (order b aim only.2) (ap (with_first v) rest)
      (ap (with_first (raw_truth (not b))) (none_inside (behind test (raw_truth (not b))) rs ws down many (λ raws. only.3 (raw_truth (not b) ∷ raws) refl)))
    where
      order : (b : Bool) (aim : ℤ) → v ≡ raw_truth b → AreThese v (raw_truth (not b)) (points_from mark aim truths)
      order true aim e = subst (λ u. AreThese u (pos 0) (points_from mark aim truths)) (sym e) (these_back (pos 0) (pos 1) _ (truths_from mark aim))
      order false aim e = subst (λ u. AreThese u (pos 1) (points_from mark aim truths)) (sym e) (truths_from mark aim)

-- a point to which each variable is led is drawn inside
pub led_inside : (test : List ℤ → Bool) (ranges : List Range) (words : List ℕ) (down : List Bool) (vs : List ℤ) → length words ≡ length ranges → IsPointOf ranges vs → AreLedInside test ranges words vs → test vs ≡ true
    → inside_solution test ranges words down ≡ Some vs
unfolding inside_solution
led_inside test [] words down [] e at led h = ap (λ b. if b then Some [] else None) h
led_inside test [] words down (v ∷ vs) e at led h = absurd at
led_inside test (r ∷ rs) [] down vs e at led h = absurd (omega (arith, e))
led_inside test (r ∷ rs) (w ∷ ws) down [] e at led h = absurd at
led_inside test (r ∷ rs) (w ∷ ws) down (v ∷ vs) e at led h =
    let rest = led_inside (behind test v) rs ws (other_marks down) vs (omega (arith, e)) at.1 (λ i l. further i (led (suc i) (omega (arith, l)))) h in
    one_inside test rs ws (other_marks down) (omega (arith, e)) v vs at.1 h rest (first_mark down) r w at.0 (led 0 (omega arith))
  where
    further : (i : ℕ) → IsLedInside test (suc i) (get_or rs i zero_alone) (get_or ws i 0) (get_or vs i (pos 0)) → IsLedInside (behind test v) i (get_or rs i zero_alone) (get_or ws i 0) (get_or vs i (pos 0))
    further i (inl only) = inl (only.0, only.1, only.2, λ raws k. only.3 (v ∷ raws) k)
    further i (inr aimed) = inr (aimed.0, λ raws u. aimed.1 (v ∷ raws) u)

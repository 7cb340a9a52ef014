-- The places of all variables upward, which what is drawn inside begins with.
use Rattle.std.proofs.Common.{◌≡◌, ◌<◌, ℕ, zero, suc, Bool, true, false, IsTrue, List, [], ◌∷◌, length, get_or, ℤ, pos, ◌+ℤ◌, ◌-ℤ◌, ◌≤ℤ◌, refl, ap, sym, ◌∙◌, subst, arith}
use Rattle.std.specs.Prelude.{Contains, if◌then◌else◌}
use Rattle.std.specs.Int.{int_gap, int_max}
use Rattle.std.proofs.lemmas.Int.{clamps, ints}
use Rattle.lt_bounds.specs.Places.{AreScaled, values_in_box}
use Rattle.lt_formula.specs.Box.{IsInBox}
use Rattle.lt_formula.specs.Inside.{no_range}
use Rattle.lt_formula.specs.Solution.{IsPointOf}
use Rattle.lt_formula.specs.Translation.{box_of, scales_of, value_by, values_at}
use Rattle.lt_formula.specs.declared.scale.Scale.{Scale}
use Rattle.lt_formula.proofs.Places.{lt_false}
use Rattle.lt_num.proofs.Public.{gap_above, place_fits, points_are_those, times_sum}
use Rattle.lt_num.specs.Interval.{IsWithin}
use Rattle.lt_num.specs.Range.{HasPoints, count_of, point_at, points_of}
use Rattle.lt_num.specs.declared.interval.Interval.{Interval}
use Rattle.lt_num.specs.declared.range.Range.{Range}
use Rattle.lt_propagation.specs.Kleene.{Agrees, kleene_of}
use Rattle.lt_propagation.specs.declared.kleene.Kleene.{Kleene}
use Rattle.lt_propagation.specs.declared.kleene.Kleene.TheVariants.{True}
use Rattle.lt_propagation.proofs.Kleenes.{kleene_agrees}
use Rattle.lt_space.specs.SpaceView.{space_decimals, space_formula}
use Rattle.lt_space.specs.declared.space.Space.{Space}
use Rattle.lt_space.specs.Scope.{range_in, ranges_in, zero_alone}
use Rattle.lt_solver.specs.Domains.{are_domains, is_domain}
use Rattle.lt_solver.specs.inner.Classified.{passes}
use Rattle.lt_solver.specs.inner.Drawing.{AreDrawn, TellsRanges}
use Rattle.lt_solver.specs.inner.Placed.{all_places, base_of, first_of, place_alone, places_of}
use Rattle.lt_solver.specs.inner.Points.{first_point, first_raw}
use Rattle.lt_solver.proofs.Drawn.{one_in}
use Rattle.lt_solver.proofs.Fixing.{low_in, ranges_count}
use Rattle.lt_solver.proofs.Found.{box_count}
use Rattle.lt_solver.proofs.PlacedLemmas.{and_left, and_right, known}
use Rattle.lt_solver.proofs.Scaled.{values_inside}

-- the scale and the interval of a variable in scope
abbrev up_scale : Range → Scale
up_scale r = record { base = base_of r; slope = r.step }

abbrev up_places : Range → Interval
up_places r = record { low = first_of r; high = (first_of r +ℤ pos (count_of r)) -ℤ pos 1 }

module _ (r : Range) (has : HasPoints r) where
  value_up : (n : ℕ) → value_by (up_scale r) (first_of r +ℤ pos n) ≡ point_at r (pos n)
  value_up n = let all = times_sum r.step (first_of r) (pos n) in omega (arith, ints, all)

  up_within : (k : ℤ) → IsWithin (up_places r) k → Contains (points_of r) (value_by (up_scale r) k)
  up_within k w =
      let n = int_gap (first_of r) k in
      let gap = gap_above (first_of r) k w.0 in
      let few : n < count_of r = omega (arith, ints, gap, w.1) in
      let is = ap (value_by (up_scale r)) (sym gap) ∙ value_up n in
      subst (Contains (points_of r)) (sym is) (((points_are_those r has).0 (point_at r (pos n))).1 (n, refl, (place_fits r has n).0 few))

  up_told : (v : ℤ) → Contains (points_of r) v → (k : ℤ) × IsWithin (up_places r) k × (value_by (up_scale r) k ≡ v)
  up_told v c = by (((points_are_those r has).0 v).0 c)
    where
      by : (n : ℕ) × (v ≡ point_at r (pos n)) × (v ≤ℤ r.high) → (k : ℤ) × IsWithin (up_places r) k × (value_by (up_scale r) k ≡ v)
      by (n, is, under) =
          let few = (place_fits r has n).1 (subst (λ z. z ≤ℤ r.high) is under) in
          (first_of r +ℤ pos n, (omega (arith, ints), omega (arith, ints, few)), value_up n ∙ sym is)

one_within : (mark : Bool) (r : Range) (t : ℤ) → HasPoints r → (k : ℤ) → IsWithin (places_of mark false r t).interval k → Contains (points_of (range_in mark r)) (value_by (places_of mark false r t).scale k)
one_within true r t has k w = up_within r has k w
one_within false r t has k w =
    let is : value_by place_alone.scale k ≡ pos 0 = omega (arith, ints, w.0, w.1) in
    subst (Contains (points_of zero_alone)) (sym is) (low_in zero_alone (record { some = omega (arith, ints); step = omega (arith, ints) }))

one_told : (mark : Bool) (r : Range) (t : ℤ) → HasPoints r → (v : ℤ) → Contains (points_of (range_in mark r)) v → (k : ℤ) × IsWithin (places_of mark false r t).interval k × (value_by (places_of mark false r t).scale k ≡ v)
one_told true r t has v c = up_told r has v c
one_told false r t has v c = let is = one_in zero_alone v refl c in (pos 0, (omega (arith, ints), omega (arith, ints)), sym is)

one_has : (mark : Bool) (r : Range) → HasPoints r → HasPoints (range_in mark r)
one_has true r has = has
one_has false r has = record { some = omega (arith, ints); step = omega (arith, ints) }

one_slope : (mark : Bool) (r : Range) (t : ℤ) → (range_in mark r).step ≡ (places_of mark false r t).scale.slope
one_slope true r t = refl
one_slope false r t = refl

own_points : (r : Range) (rs : List Range) → IsTrue (are_domains (r ∷ rs)) → HasPoints r
own_points r rs h = (known r (and_left (is_domain r) (are_domains rs) h)).points

all_within : (scope : List Bool) (ranges : List Range) (targets : List ℤ) → IsTrue (are_domains ranges) → length targets ≡ length ranges → (ks : List ℤ) → IsInBox (box_of (all_places scope ranges targets [])) ks
    → IsPointOf (ranges_in scope ranges) (values_at (scales_of (all_places scope ranges targets [])) ks)
all_within [] [] targets h e [] p = tt
all_within [] [] targets h e (k ∷ ks) p = absurd p
all_within (m ∷ scope) [] targets h e [] p = tt
all_within (m ∷ scope) [] targets h e (k ∷ ks) p = absurd p
all_within scope (r ∷ ranges) [] h e ks p = absurd (omega (arith, e))
all_within [] (r ∷ ranges) (t ∷ targets) h e [] p = absurd p
all_within (m ∷ scope) (r ∷ ranges) (t ∷ targets) h e [] p = absurd p
all_within [] (r ∷ ranges) (t ∷ targets) h e (k ∷ ks) p = (one_within false r t (own_points r ranges h) k p.0, all_within [] ranges targets (and_right (is_domain r) (are_domains ranges) h) (omega (arith, e)) ks p.1)
all_within (m ∷ scope) (r ∷ ranges) (t ∷ targets) h e (k ∷ ks) p = (one_within m r t (own_points r ranges h) k p.0, all_within scope ranges targets (and_right (is_domain r) (are_domains ranges) h) (omega (arith, e)) ks p.1)

abbrev Told : List Bool → List Range → List ℤ → List ℤ → Type 0
Told scope ranges targets vs = (ks : List ℤ) × IsInBox (box_of (all_places scope ranges targets [])) ks × (values_at (scales_of (all_places scope ranges targets [])) ks ≡ vs)

all_told : (scope : List Bool) (ranges : List Range) (targets : List ℤ) → IsTrue (are_domains ranges) → length targets ≡ length ranges → (vs : List ℤ) → IsPointOf (ranges_in scope ranges) vs → Told scope ranges targets vs
all_told [] [] targets h e [] p = ([], tt, refl)
all_told [] [] targets h e (v ∷ vs) p = absurd p
all_told (m ∷ scope) [] targets h e [] p = ([], tt, refl)
all_told (m ∷ scope) [] targets h e (v ∷ vs) p = absurd p
all_told scope (r ∷ ranges) [] h e vs p = absurd (omega (arith, e))
all_told [] (r ∷ ranges) (t ∷ targets) h e [] p = absurd p
all_told (m ∷ scope) (r ∷ ranges) (t ∷ targets) h e [] p = absurd p
all_told [] (r ∷ ranges) (t ∷ targets) h e (v ∷ vs) p =
    let one = one_told false r t (own_points r ranges h) v p.0 in
    let rest = all_told [] ranges targets (and_right (is_domain r) (are_domains ranges) h) (omega (arith, e)) vs p.1 in
    (one.0 ∷ rest.0, (one.1, rest.1), (λ i. one.2 i ∷ rest.2 i))
all_told (m ∷ scope) (r ∷ ranges) (t ∷ targets) h e (v ∷ vs) p =
    let one = one_told m r t (own_points r ranges h) v p.0 in
    let rest = all_told scope ranges targets (and_right (is_domain r) (are_domains ranges) h) (omega (arith, e)) vs p.1 in
    (one.0 ∷ rest.0, (one.1, rest.1), (λ i. one.2 i ∷ rest.2 i))

all_has : (scope : List Bool) (ranges : List Range) (i : ℕ) → IsTrue (are_domains ranges) → i < length ranges → HasPoints (get_or (ranges_in scope ranges) i no_range)
all_has scope [] i h l = absurd (omega (arith, l))
all_has [] (r ∷ ranges) zero h l = one_has false r (own_points r ranges h)
all_has (m ∷ scope) (r ∷ ranges) zero h l = one_has m r (own_points r ranges h)
all_has [] (r ∷ ranges) (suc i) h l = all_has [] ranges i (and_right (is_domain r) (are_domains ranges) h) (omega (arith, l))
all_has (m ∷ scope) (r ∷ ranges) (suc i) h l = all_has scope ranges i (and_right (is_domain r) (are_domains ranges) h) (omega (arith, l))

all_slopes : (scope : List Bool) (ranges : List Range) (targets : List ℤ) (i : ℕ) → length targets ≡ length ranges → i < length ranges
    → (get_or (ranges_in scope ranges) i no_range).step ≡ (get_or (scales_of (all_places scope ranges targets [])) i (record { base = pos 0; slope = pos 0 })).slope
all_slopes scope [] targets i e l = absurd (omega (arith, l))
all_slopes scope (r ∷ ranges) [] i e l = absurd (omega (arith, e))
all_slopes [] (r ∷ ranges) (t ∷ targets) zero e l = one_slope false r t
all_slopes (m ∷ scope) (r ∷ ranges) (t ∷ targets) zero e l = one_slope m r t
all_slopes [] (r ∷ ranges) (t ∷ targets) (suc i) e l = all_slopes [] ranges targets i (omega (arith, e)) (omega (arith, l))
all_slopes (m ∷ scope) (r ∷ ranges) (t ∷ targets) (suc i) e l = all_slopes scope ranges targets i (omega (arith, e)) (omega (arith, l))

-- The places of all variables upward tell the points of the ranges of a scope.
pub begin_told : (test : List ℤ → Bool) (scope : List Bool) (ranges : List Range) (targets : List ℤ) → IsTrue (are_domains ranges) → length targets ≡ length ranges
    → TellsRanges test (scales_of (all_places scope ranges targets [])) (box_of (all_places scope ranges targets [])) (ranges_in scope ranges)
begin_told test scope ranges targets h e =
    let count = box_count scope ranges targets [] e in
    record {
      count = ranges_count scope ranges ∙ sym count;
      points = λ i l. all_has scope ranges i h (omega (arith, l, count));
      slopes = λ i l. all_slopes scope ranges targets i e (omega (arith, l, count));
      within = λ ks p. all_within scope ranges targets h e ks p;
      told = λ vs p k. all_told scope ranges targets h e vs p;
    }

-- a narrower box that keeps what passes tells the same ranges
pub narrower_told : (test : List ℤ → Bool) (scales : List Scale) (old new : List Interval) (ranges : List Range) → length new ≡ length old → ((ks : List ℤ) → IsInBox new ks → IsInBox old ks) → ((ks : List ℤ) → IsInBox old ks → test (values_at scales ks) ≡ true → IsInBox new ks)
    → TellsRanges test scales old ranges → TellsRanges test scales new ranges
narrower_told test scales old new ranges long wider kept are = record {
  count = are.count ∙ sym long;
  points = λ i l. are.points i (omega (arith, l, long));
  slopes = λ i l. are.slopes i (omega (arith, l, long));
  within = λ ks p. are.within ks (wider ks p);
  told = λ vs p k. let t = are.told vs p k in (t.0, kept t.0 t.1 (ap test t.2 ∙ k), t.2);
}

-- to begin with, none is drawn
pub none_yet : (test : List ℤ → Bool) (scales : List Scale) (box : List Interval) (ranges : List Range) (words : List ℕ) (down : List Bool) → TellsRanges test scales box ranges → AreDrawn test scales box ranges words down 0
none_yet test scales box ranges words down told = record { parts = ranges; told = told; fixed = tt; same = refl }

-- places of a box are its first point from themselves
pub same_first : (box : List Interval) (ks : List ℤ) → IsInBox box ks → first_point ks box ≡ ks
same_first [] [] p = refl
same_first [] (k ∷ ks) p = absurd p
same_first (r ∷ box) [] p = absurd p
same_first (r ∷ box) (k ∷ ks) p =
    let w = p.0 in
    let own : first_raw k r ≡ k = ap (λ b. if b then r.low else int_max r.low k) (lt_false r.high k w.1) ∙ omega (arith, ints, clamps, w.0) in
    let rest = same_first box ks p.1 in
    (λ i. own i ∷ rest i)

-- each point of a box of which a formula is known passes
pub known_passes : (space : Space) (scales : List Scale) (box : List Interval) → AreScaled scales box → True ≡ kleene_of (space_decimals space) (values_in_box scales box) (space_formula space) → (ks : List ℤ) → IsInBox box ks → passes space scales ks ≡ true
known_passes space scales box scaled e ks p =
    subst (λ (v : Kleene). Agrees v (passes space scales ks)) (sym e) (kleene_agrees (space_decimals space) (values_in_box scales box) (values_at scales ks) (space_formula space) (values_inside scales box ks scaled p))

-- What is drawn inside, told by places of a box.
use Rattle.std.proofs.Common.{◌≡◌, ◌<◌, ◌≤◌, ◌+◌, ◌*◌, ◌/◌, ◌%◌, ℕ, zero, suc, Bool, true, false, IsTrue, List, [], ◌∷◌, length, get_or, map, set, Some, ℤ, pos, ◌+ℤ◌, ◌-ℤ◌, ◌*ℤ◌, ◌≤ℤ◌, ◌<ℤ◌, unsigned_abs, of_z, to_z, w64, refl, ap, sym, ◌∙◌, subst, arith}
use Rattle.std.specs.Prelude.{Contains, int_lt, if◌then◌else◌}
use Rattle.std.specs.Int.{int_gap}
use Rattle.std.proofs.Math.Nat.{mod-one, mul-div_cancel}
use Rattle.std.proofs.lemmas.Int.{by_lt_z, ints}
use Rattle.std.proofs.lemmas.List.{length-set}
use Rattle.std.proofs.lemmas.Nat.{mod_below}
use Rattle.lt_bounds.proofs.Public.{narrower_same, narrower_set}
use Rattle.lt_bounds.specs.Places.{AreScaled}
use Rattle.lt_bounds.specs.Ranges.{AreSome, IsNarrower, range_at}
use Rattle.lt_draw.specs.Target.{target_of}
use Rattle.lt_formula.proofs.Insides.{alone_is_one}
use Rattle.lt_formula.proofs.Places.{lt_false}
use Rattle.lt_formula.specs.Box.{IsInBox}
use Rattle.lt_formula.specs.Inside.{HaveOnePoint, alone_in, inside_solution, no_range}
use Rattle.lt_formula.specs.Solution.{IsPointOf, comes_before}
use Rattle.lt_formula.specs.Translation.{value_by, values_at}
use Rattle.lt_formula.specs.declared.scale.Scale.{Scale}
use Rattle.lt_num.proofs.Public.{gap_above, gap_none, point_is, times_sum}
use Rattle.lt_num.specs.Bounds.{most_raw}
use Rattle.lt_num.specs.Interval.{IsWithin}
use Rattle.lt_num.specs.Range.{HasPoints, points_of}
use Rattle.lt_num.specs.declared.interval.Interval.{Interval}
use Rattle.lt_num.specs.declared.range.Range.{Range}
use Rattle.lt_propagation.proofs.Boxes.{point_set, point_within}
use Rattle.lt_propagation.specs.Domains.{AreDomains}
use Rattle.lt_propagation.specs.Wide.{sign_at}
use Rattle.lt_space.specs.CircuitView.{circuit_formulas}
use Rattle.lt_space.specs.declared.circuit.Circuit.{Circuit}
use Rattle.lt_solver.specs.inner.Dive.{Covers, IsDiving, test_of}
use Rattle.lt_solver.specs.inner.Points.{AreFixed}
use Rattle.lt_solver.specs.inner.Drawing.{AreDrawn, IsDrawn, IsFirstLeft, IsTaken, Passes, TellsRanges, place_of, place_only}
use Rattle.lt_solver.proofs.Dives.{fixed_more, left_dives, part_dives, part_narrower, point_wider, set_at}
use Rattle.lt_solver.proofs.Drawn.{all_drawn, drawn_stays, lt_true, one_in}
use Rattle.lt_solver.proofs.Fixing.{low_in, one_more_fixed, point_in}
use Rattle.lt_solver.proofs.Scaled.{box_long, scale_at, scaled_at, scaled_some, scales_long, value_told, value_within}

-- A scale that rises: later places have greater values.
module _ (s : Scale) (up : pos 1 ≤ℤ s.slope) where
  further : (k : ℤ) (n : ℕ) → value_by s (k +ℤ pos n) ≡ value_by s k +ℤ pos (n * unsigned_abs s.slope)
  further k n =
      let r : Range = record { low = value_by s k; high = value_by s k; step = s.slope } in
      let all = times_sum s.slope k (pos n) in
      let is = point_is r (record { some = omega (arith, ints); step = up }) n in
      omega (arith, ints, all, is)

  no_less : (a b : ℤ) → a ≤ℤ b → value_by s a ≤ℤ value_by s b
  no_less a b h =
      let gap = gap_above a b h in
      let far = ap (value_by s) (sym gap) ∙ further a (int_gap a b) in
      omega (arith, ints, far)

  some_less : (a b : ℤ) → a <ℤ b → value_by s a <ℤ value_by s b
  some_less a b h =
      let next = further a 1 in
      let on = no_less (a +ℤ pos 1) b (omega (arith, ints, h)) in
      omega (arith, ints, next, on, up)

  lt_values : (a b : ℤ) → int_lt (value_by s a) (value_by s b) ≡ int_lt a b
  lt_values a b =
      by_lt_z a b
      (λ h. lt_true (value_by s a) (value_by s b) (some_less a b h) ∙ sym (lt_true a b h))
      (λ h. lt_false (value_by s a) (value_by s b) (no_less b a h) ∙ sym (lt_false a b h))

  before_values : (down : Bool) (a b : ℤ) → comes_before down (value_by s a) (value_by s b) ≡ comes_before down a b
  before_values false a b = lt_values a b
  before_values true a b = lt_values b a

  one_place : (a b : ℤ) → value_by s a ≡ value_by s b → a ≡ b
  one_place a b e =
      by_lt_z a b
      (λ h. let l = some_less a b h in absurd (omega (arith, ints, l, e)))
      (λ h. by_lt_z b a (λ m. let l = some_less b a m in absurd (omega (arith, ints, l, e))) (λ m. omega (arith, ints, h, m)))

  -- where a word aims between two values, by their places
  aim_told : (r : Range) (low high : ℤ) (word : ℕ) → r.step ≡ s.slope → low ≤ℤ high → value_by s (low +ℤ pos (word % (int_gap low high + 1))) ≡ target_of (record r { low = value_by s low; high = value_by s high }) word
  aim_told r low high word e h =
      let n = int_gap low high in
      let far = ap (value_by s) (sym (gap_above low high h)) ∙ further low n in
      let between = gap_above (value_by s low) (value_by s high) (no_less low high h) in
      let gap : int_gap (value_by s low) (value_by s high) ≡ n * unsigned_abs s.slope = omega (arith, ints, far, between) in
      let count : int_gap (value_by s low) (value_by s high) / unsigned_abs r.step ≡ n =
      (λ j. gap j / unsigned_abs (e j)) ∙ mul-div_cancel n (omega (arith, ints, up)) in
      let all = times_sum s.slope low (pos (word % (n + 1))) in
      let told : value_by s (low +ℤ pos (word % (n + 1))) ≡ value_by s low +ℤ s.slope *ℤ pos (word % (n + 1)) = omega (arith, ints, all) in
      told ∙ (λ j. value_by s low +ℤ sym e j *ℤ pos (word % (sym count j + 1)))

-- lists of which one element is another
at_set : (P : Range → Type 0) (rs : List Range) (i j : ℕ) (r : Range) → (i ≡ j → P r) → P (get_or rs j no_range) → P (get_or (set rs i r) j no_range)
at_set P [] i j r f h = h
at_set P (x ∷ rs) zero zero r f h = f refl
at_set P (x ∷ rs) zero (suc j) r f h = h
at_set P (x ∷ rs) (suc i) zero r f h = h
at_set P (x ∷ rs) (suc i) (suc j) r f h = at_set P rs i j r (λ e. f (ap suc e)) h

part_point : (rs : List Range) (vs : List ℤ) (i : ℕ) (r : Range) → IsPointOf rs vs → Contains (points_of r) (get_or vs i (pos 0)) → IsPointOf (set rs i r) vs
part_point [] [] i r p c = tt
part_point [] (v ∷ vs) i r p c = absurd p
part_point (x ∷ rs) [] i r p c = absurd p
part_point (x ∷ rs) (v ∷ vs) zero r p c = (c, p.1)
part_point (x ∷ rs) (v ∷ vs) (suc i) r p c = (p.0, part_point rs vs i r p.1 c)

whole_point : (rs : List Range) (vs : List ℤ) (i : ℕ) (r : Range) → IsPointOf (set rs i r) vs → (Contains (points_of r) (get_or vs i (pos 0)) → Contains (points_of (get_or rs i no_range)) (get_or vs i (pos 0))) → IsPointOf rs vs
whole_point [] [] i r p f = tt
whole_point [] (v ∷ vs) i r p f = absurd p
whole_point (x ∷ rs) [] zero r p f = absurd p
whole_point (x ∷ rs) [] (suc i) r p f = absurd p
whole_point (x ∷ rs) (v ∷ vs) zero r p f = (f p.0, p.1)
whole_point (x ∷ rs) (v ∷ vs) (suc i) r p f = (p.0, whole_point rs vs i r p.1 f)

set_point : (rs : List Range) (vs : List ℤ) (i : ℕ) (r : Range) → i < length rs → IsPointOf (set rs i r) vs → Contains (points_of r) (get_or vs i (pos 0))
set_point [] vs i r l p = absurd (omega (arith, l))
set_point (x ∷ rs) [] zero r l p = absurd p
set_point (x ∷ rs) [] (suc i) r l p = absurd p
set_point (x ∷ rs) (v ∷ vs) zero r l p = p.0
set_point (x ∷ rs) (v ∷ vs) (suc i) r l p = set_point rs vs i r (omega (arith, l)) p.1

-- One more variable is drawn.
module _ (test : List ℤ → Bool) (scales : List Scale) (box new : List Interval) (ranges : List Range) (words : List ℕ) (down : List Bool) (i : ℕ) (scaled : AreScaled scales box) (here : i < length box) (many : length words ≡ length box)
    (are : AreDrawn test scales box ranges words down i) (d : Bool) (mark : get_or down i false ≡ d) (is : IsDrawn (λ places. test (values_at scales places)) box new i (get_or words i 0) d) where
  abbrev parts : List Range
  parts = are.parts

  abbrev own : Range
  own = get_or parts i no_range

  abbrev scale : Scale
  scale = scale_at scales i

  in_parts : i < length parts
  in_parts = omega (arith, are.told.count, here)

  up : pos 1 ≤ℤ scale.slope
  up = subst (λ z. pos 1 ≤ℤ z) (are.told.slopes i here) (are.told.points i here).step

  value_is : (ks : List ℤ) → IsInBox box ks → get_or (values_at scales ks) i (pos 0) ≡ value_by scale (place_of ks i)
  value_is ks p = value_told scales ks i (omega (arith, here, scales_long scales box scaled)) (omega (arith, here, box_long box ks p))

  -- places of the box tell points
  point_of : (ks : List ℤ) → Passes (λ places. test (values_at scales places)) box ks → IsPointOf parts (values_at scales ks)
  point_of ks p = are.told.within ks p.0

  abbrev value : ℤ
  value = get_or (values_at scales is.taken.0) i (pos 0)

  value_place : value ≡ value_by scale is.place
  value_place = value_is is.taken.0 is.taken.1.0 ∙ ap (value_by scale) is.taken.2

  abbrev Before : ℤ → ℤ → Type 0
  Before a b = comes_before d a b ≡ false

  -- what the box says of points
  module _ (p : List ℤ) (pp : IsPointOf parts p) (kp : IsTrue (test p)) where
    abbrev ks : List ℤ
    ks = (are.told.told p pp kp).0

    ks_pass : Passes (λ places. test (values_at scales places)) box ks
    ks_pass = let t = are.told.told p pp kp in (t.1, ap test t.2 ∙ kp)

    at_place : get_or p i (pos 0) ≡ value_by scale (place_of ks i)
    at_place = let t = are.told.told p pp kp in ap (λ vs. get_or vs i (pos 0)) (sym t.2) ∙ value_is ks t.1

  low_value : get_or (values_at scales is.lowest.0) i (pos 0) ≡ value_by scale is.low
  low_value = value_is is.lowest.0 is.lowest.1.0 ∙ ap (value_by scale) is.lowest.2

  high_value : get_or (values_at scales is.highest.0) i (pos 0) ≡ value_by scale is.high
  high_value = value_is is.highest.0 is.highest.1.0 ∙ ap (value_by scale) is.highest.2

  ends : is.low ≤ℤ is.high
  ends = let w = is.all is.lowest.0 is.lowest.1 in let e = is.lowest.2 in omega (arith, ints, w.1, e)

  abbrev aim : ℤ
  aim = is.low +ℤ pos (get_or words i 0 % (int_gap is.low is.high + 1))

  stays : inside_solution test parts words down ≡ inside_solution test (set parts i (alone_in own value)) words down
  stays =
      drawn_stays test parts words down i in_parts (omega (arith, many, are.told.count)) are.fixed (are.told.points i here)
      (values_at scales is.lowest.0) (values_at scales is.highest.0) (values_at scales is.taken.0)
      (point_of is.lowest.0 is.lowest.1) is.lowest.1.1 (point_of is.highest.0 is.highest.1) is.highest.1.1 (point_of is.taken.0 is.taken.1) is.taken.1.1
      (λ p pp kp. let w = is.all (ks p pp kp) (ks_pass p pp kp) in (
        subst (λ z. z ≤ℤ get_or p i (pos 0)) (sym low_value) (subst (λ z. value_by scale is.low ≤ℤ z) (sym (at_place p pp kp)) (no_less scale up is.low (place_of (ks p pp kp) i) w.0)),
        subst (λ z. get_or p i (pos 0) ≤ℤ z) (sym high_value) (subst (λ z. z ≤ℤ value_by scale is.high) (sym (at_place p pp kp)) (no_less scale up (place_of (ks p pp kp) i) is.high w.1)),
      ))
      (value_by scale aim) d
      (aim_told scale up own is.low is.high (get_or words i 0) (are.told.slopes i here) ends ∙ (λ j. target_of (record own { low = sym low_value j; high = sym high_value j }) (get_or words i 0)))
      mark
      (subst (λ z. Before z (value_by scale aim)) (sym value_place) (before_values scale up d is.place aim ∙ is.on))
      (λ p pp kp h.
      subst (λ z. Before (get_or p i (pos 0)) z) (sym value_place) (subst (λ z. Before z (value_by scale is.place)) (sym (at_place p pp kp))
      (before_values scale up d (place_of (ks p pp kp) i) is.place
      ∙ is.none (ks p pp kp) (ks_pass p pp kp) (sym (before_values scale up d (place_of (ks p pp kp) i) aim) ∙ subst (λ z. Before z (value_by scale aim)) (at_place p pp kp) h))))

  taken_within : IsWithin (range_at box i) is.place
  taken_within = subst (λ z. IsWithin (range_at box i) z) is.taken.2 (point_within box is.taken.0 i here is.taken.1.0)

  narrower : IsNarrower box (set box i (place_only is.place))
  narrower = narrower_set box box i (place_only is.place) (narrower_same box (scaled_some scales box scaled)) (let w = taken_within in (w.0, omega (arith, ints), w.1))

  place_same : (ks : List ℤ) → IsInBox (set box i (place_only is.place)) ks → place_of ks i ≡ is.place
  place_same ks p =
      let w = subst (λ (r : Interval). IsWithin r (place_of ks i)) (set_at box i (place_only is.place) here) (point_within (set box i (place_only is.place)) ks i (omega (arith, here, length-set box i (place_only is.place))) p) in
      omega (arith, ints, w.0, w.1)

  abbrev alone : Range
  alone = alone_in own value

  alone_has : HasPoints alone
  alone_has = record { some = omega (arith, ints); step = (are.told.points i here).step }

  value_there : Contains (points_of own) value
  value_there = point_in parts (values_at scales is.taken.0) i in_parts (point_of is.taken.0 is.taken.1)

  is_alone : (z : ℤ) → Contains (points_of alone) z → z ≡ value
  is_alone z c = one_in alone z (alone_is_one own value) c

  new_told : TellsRanges test scales (set box i (place_only is.place)) (set parts i alone)
  new_told = record {
    count = length-set parts i alone ∙ are.told.count ∙ sym (length-set box i (place_only is.place));
    points = λ j l. at_set HasPoints parts i j alone (λ e. alone_has) (are.told.points j (omega (arith, l, length-set box i (place_only is.place))));
    slopes = λ j l. at_set (λ r. r.step ≡ (scale_at scales j).slope) parts i j alone (λ e. are.told.slopes i here ∙ ap (λ n. (scale_at scales n).slope) e) (are.told.slopes j (omega (arith, l, length-set box i (place_only is.place))));
    within = λ ks p.
        let old = point_wider box (set box i (place_only is.place)) ks narrower p in
        let same : get_or (values_at scales ks) i (pos 0) ≡ value = value_is ks old ∙ ap (value_by scale) (place_same ks p) ∙ sym value_place in
        part_point parts (values_at scales ks) i alone (are.told.within ks old) (subst (Contains (points_of alone)) (sym same) (low_in alone alone_has));
    told = λ vs p k.
        let own_value = is_alone (get_or vs i (pos 0)) (set_point parts vs i alone in_parts p) in
        let old = whole_point parts vs i alone p (λ c. subst (Contains (points_of own)) (sym own_value) value_there) in
        let t = are.told.told vs old k in
        let at : place_of t.0 i ≡ is.place = one_place scale up (place_of t.0 i) is.place (sym (at_place vs old k) ∙ own_value ∙ value_place) in
        (t.0, point_set box t.0 i (place_only is.place) t.1 (omega (arith, ints, at), omega (arith, ints, at)), t.2);
  }

  pub one_drawn : AreDrawn test scales new ranges words down (suc i)
  one_drawn = record {
    parts = set parts i alone;
    told = subst (λ (b : List Interval). TellsRanges test scales b (set parts i alone)) (sym is.new_box) new_told;
    fixed = one_more_fixed parts i own value are.fixed;
    same = are.same ∙ stays;
  }

-- Where all are drawn, a point of the box that passes is what is drawn inside.
pub drawn_all : (test : List ℤ → Bool) (scales : List Scale) (box : List Interval) (ranges : List Range) (words : List ℕ) (down : List Bool) (n : ℕ) (ks : List ℤ) → AreDrawn test scales box ranges words down n → n ≡ length box → length words ≡ length box → Passes (λ places. test (values_at scales places)) box ks
    → inside_solution test ranges words down ≡ Some (values_at scales ks)
drawn_all test scales box ranges words down n ks are e many p =
    are.same ∙ all_drawn test are.parts words down (values_at scales ks) (many ∙ sym are.told.count) (subst (λ m. HaveOnePoint m are.parts) (e ∙ sym are.told.count) are.fixed) (are.told.within ks p.0) p.1

-- Where a look at a part of a variable's places finds nothing, none that passes comes before what is behind it.
pub up_from : (a b : ℤ) → int_lt a b ≡ false → b ≤ℤ a
up_from a b e = by_lt_z a b (λ h. let t = lt_true a b h in absurd (cc)) (λ h. h)

pub pass_part : (test : List ℤ → Bool) (box : List Interval) (i : ℕ) (down : Bool) (start place next : ℤ) (part : Interval)
    → (down ≡ true → (part.high ≡ place) × (next ≡ part.low -ℤ pos 1)) → (down ≡ false → (part.low ≡ place) × (next ≡ part.high +ℤ pos 1))
    → ((ks : List ℤ) → IsInBox (set box i part) ks → test ks ≡ false)
    → ((ks : List ℤ) → Passes test box ks → comes_before down (place_of ks i) start ≡ false → comes_before down (place_of ks i) place ≡ false)
    → (ks : List ℤ) → Passes test box ks → comes_before down (place_of ks i) start ≡ false → comes_before down (place_of ks i) next ≡ false
pass_part test box i false start place next part d u none before ks p on =
    let is = u refl in
    let over = up_from (place_of ks i) place (before ks p on) in
    by_lt_z (place_of ks i) next
    (λ h. let no = none ks (point_set box ks i part p.0 (omega (arith, ints, is.0, over), omega (arith, ints, is.1, h))) in let yes = p.1 in absurd (cc))
    (λ h. lt_false (place_of ks i) next h)
pass_part test box i true start place next part d u none before ks p on =
    let is = d refl in
    let under = up_from place (place_of ks i) (before ks p on) in
    by_lt_z next (place_of ks i)
    (λ h. let no = none ks (point_set box ks i part p.0 (omega (arith, ints, is.1, h), omega (arith, ints, is.0, under))) in let yes = p.1 in absurd (cc))
    (λ h. lt_false next (place_of ks i) h)

-- Where a look at a part of a variable's places leaves some, none that passes comes before the first of these.
pub left_part : (test : List ℤ → Bool) (box : List Interval) (i : ℕ) (down : Bool) (start place : ℤ) (part left : Interval)
    → (down ≡ true → part.high ≡ place) → (down ≡ false → part.low ≡ place) → left.high ≤ℤ part.high → part.low ≤ℤ left.low
    → ((ks : List ℤ) → Passes test (set box i part) ks → IsWithin left (place_of ks i))
    → ((ks : List ℤ) → Passes test box ks → comes_before down (place_of ks i) start ≡ false → comes_before down (place_of ks i) place ≡ false)
    → left.low ≤ℤ left.high → (ks : List ℤ) → Passes test box ks → comes_before down (place_of ks i) start ≡ false → comes_before down (place_of ks i) (if down then left.high else left.low) ≡ false
left_part test box i false start place part left d u under over kept before some ks p on =
    let is = u refl in
    let from = up_from (place_of ks i) place (before ks p on) in
    by_lt_z (place_of ks i) left.low
    (λ h. let w = kept ks (point_set box ks i part p.0 (omega (arith, ints, is, from), omega (arith, ints, h, under, some)), p.1) in absurd (omega (arith, ints, h, w.0)))
    (λ h. lt_false (place_of ks i) left.low h)
left_part test box i true start place part left d u under over kept before some ks p on =
    let is = d refl in
    let to = up_from place (place_of ks i) (before ks p on) in
    by_lt_z left.high (place_of ks i)
    (λ h. let w = kept ks (point_set box ks i part p.0 (omega (arith, ints, h, over, some), omega (arith, ints, is, to)), p.1) in absurd (omega (arith, ints, h, w.1)))
    (λ h. lt_false left.high (place_of ks i) h)

-- the end of an interval in a direction
pub end_within : (down : Bool) (r : Interval) → r.low ≤ℤ r.high → IsWithin r (if down then r.high else r.low)
end_within false r some = (omega (arith, ints), some)
end_within true r some = (some, omega (arith, ints))

-- low ends that are written
pub written_low : (places : List Interval) (lows : List ℤ) (i : ℕ) (v : ℤ) → length lows ≡ length places → i < length lows → v ≡ (range_at places i).low → ((k : ℕ) → k < i → place_of lows k ≡ (range_at places k).low)
    → (k : ℕ) → k < suc i → place_of (set lows i v) k ≡ (range_at places k).low
written_low places [] i v e l is h k m = absurd (omega (arith, l))
written_low [] (x ∷ xs) i v e l is h k m = absurd (omega (arith, e))
written_low (p ∷ ps) (x ∷ xs) zero v e l is h zero m = is
written_low (p ∷ ps) (x ∷ xs) zero v e l is h (suc k) m = absurd (omega (arith, m))
written_low (p ∷ ps) (x ∷ xs) (suc i) v e l is h zero m = h 0 (omega arith)
written_low (p ∷ ps) (x ∷ xs) (suc i) v e l is h (suc k) m = written_low ps xs i v (omega (arith, e)) (omega (arith, l)) is (λ j n. h (suc j) (omega (arith, n))) k (omega (arith, m))

pub lows_in : (places : List Interval) (lows : List ℤ) → length lows ≡ length places → AreSome places → ((k : ℕ) → k < length lows → place_of lows k ≡ (range_at places k).low) → IsInBox places lows
lows_in [] [] e s h = tt
lows_in [] (x ∷ xs) e s h = absurd (omega (arith, e))
lows_in (p ∷ ps) [] e s h = absurd (omega (arith, e))
lows_in (p ∷ ps) (x ∷ xs) e s h = let is = h 0 (omega arith) in let some = s.0 in ((omega (arith, ints, is), omega (arith, ints, is, some)), lows_in ps xs (omega (arith, e)) s.1 (λ k l. h (suc k) (omega (arith, l))))

-- a part of the places from one on up to another lies between those
pub part_inside : (down : Bool) (place stop : ℤ) (r part : Interval) → IsWithin r place → IsWithin r stop → (down ≡ true → (part.high ≡ place) × (stop <ℤ part.low) × (part.low ≤ℤ place)) → (down ≡ false → (part.low ≡ place) × (part.high <ℤ stop) × (place ≤ℤ part.high))
    → (r.low ≤ℤ part.low) × (part.low ≤ℤ part.high) × (part.high ≤ℤ r.high)
part_inside false place stop r part w v d u = let is = u refl in (omega (arith, ints, is.0, w.0), omega (arith, ints, is.0, is.2), omega (arith, ints, is.1, v.1))
part_inside true place stop r part w v d u = let is = d refl in (omega (arith, ints, is.1, v.0), omega (arith, ints, is.0, is.2), omega (arith, ints, is.0, w.1))

-- the place of a variable, where it has one in a box
pub only_place : (box : List Interval) (ks : List ℤ) (i : ℕ) (k : ℤ) → i < length box → IsInBox (set box i (place_only k)) ks → place_of ks i ≡ k
only_place box ks i k here p =
    let w = subst (λ (r : Interval). IsWithin r (place_of ks i)) (set_at box i (place_only k) here) (point_within (set box i (place_only k)) ks i (omega (arith, here, length-set box i (place_only k))) p) in
    omega (arith, ints, w.0, w.1)

-- places of a box, one of which is another one
pub changed_in : (box : List Interval) (ks : List ℤ) (i : ℕ) (k : ℤ) → IsInBox box ks → IsWithin (range_at box i) k → IsInBox box (set ks i k)
changed_in [] [] i k p w = p
changed_in [] (v ∷ vs) i k p w = absurd p
changed_in (r ∷ rs) [] i k p w = absurd p
changed_in (r ∷ rs) (v ∷ vs) zero k p w = (w, p.1)
changed_in (r ∷ rs) (v ∷ vs) (suc i) k p w = (p.0, changed_in rs vs i k p.1 w)

pub changed_part : (box : List Interval) (ks : List ℤ) (i : ℕ) (r : Interval) (k : ℤ) → IsInBox box ks → IsWithin r k → IsInBox (set box i r) (set ks i k)
changed_part [] [] i r k p w = p
changed_part [] (v ∷ vs) i r k p w = absurd p
changed_part (s ∷ rs) [] i r k p w = absurd p
changed_part (s ∷ rs) (v ∷ vs) zero r k p w = (w, p.1)
changed_part (s ∷ rs) (v ∷ vs) (suc i) r k p w = (p.0, changed_part rs vs i r k p.1 w)

-- places of a box are small
module _ (scales : List Scale) (box : List Interval) (i : ℕ) (scaled : AreScaled scales box) (here : i < length box) (k : ℤ) where
  pub place_small : IsWithin (range_at box i) k → unsigned_abs k ≤ most_raw
  place_small w =
      let s = scaled_at scales box i scaled here in
      let low = s.low in
      let high = s.high in
      omega (arith, ints, low, high, w.0, w.1)

  pub place_stays : IsWithin (range_at box i) k → to_z w64 (of_z w64 k) ≡ k
  place_stays w = let small = place_small w in omega (arith, ints, small)

-- a place of some in a box
pub place_there : (box : List Interval) (ks : List ℤ) (i : ℕ) (k : ℤ) → i < length box → IsInBox box ks → place_of ks i ≡ k → IsWithin (range_at box i) k
place_there box ks i k here p e = subst (λ (z : ℤ). IsWithin (range_at box i) z) e (point_within box ks i here p)

-- one between two places of a box is in it
pub between : (down : Bool) (r : Interval) (start stop place : ℤ) → IsWithin r start → IsWithin r stop → comes_before down place start ≡ false → comes_before down stop place ≡ false → IsWithin r place
between false r start stop place v w a b = let over = up_from place start a in let under = up_from stop place b in (omega (arith, ints, v.0, over), omega (arith, ints, w.1, under))
between true r start stop place v w a b = let under = up_from start place a in let over = up_from place stop b in (omega (arith, ints, w.0, over), omega (arith, ints, v.1, under))

-- where a word aims lies between the ends
pub aim_low : (low high : ℤ) (word : ℕ) → low ≤ℤ (low +ℤ pos (word % (int_gap low high + 1)))
aim_low low high word = omega (arith, ints)

pub aim_high : (low high : ℤ) (word : ℕ) → low ≤ℤ high → (low +ℤ pos (word % (int_gap low high + 1))) ≤ℤ high
aim_high low high word h =
    let gap = gap_above low high h in
    let few = mod_below word (int_gap low high + 1) (omega arith) in
    omega (arith, ints, gap, few)

-- the end of a part in a direction
pub stop_order : (down : Bool) (low high stop aim : ℤ) → stop ≡ (if down then low else high) → low ≤ℤ aim → aim ≤ℤ high → comes_before down stop aim ≡ false
stop_order true low high stop aim is a b = lt_false aim stop (omega (arith, ints, is, a))
stop_order false low high stop aim is a b = lt_false stop aim (omega (arith, ints, is, b))

pub stop_passes : (down : Bool) (P : List ℤ → Type 0) (lows highs chosen : List ℤ) → chosen ≡ (if down then lows else highs) → P lows → P highs → P chosen
stop_passes true P lows highs chosen is a b = subst P (sym is) a
stop_passes false P lows highs chosen is a b = subst P (sym is) b

pub stop_place : (down : Bool) (i : ℕ) (lows highs chosen : List ℤ) (low high stop : ℤ) → chosen ≡ (if down then lows else highs) → stop ≡ (if down then low else high) → place_of lows i ≡ low → place_of highs i ≡ high → place_of chosen i ≡ stop
stop_place true i lows highs chosen low high stop is e a b = ap (λ (xs : List ℤ). place_of xs i) is ∙ a ∙ sym e
stop_place false i lows highs chosen low high stop is e a b = ap (λ (xs : List ℤ). place_of xs i) is ∙ b ∙ sym e

-- A variable that has one place in the box is drawn.
pub one_is_drawn : (test : List ℤ → Bool) (box : List Interval) (i word : ℕ) (down : Bool) (part : Interval) (ks : List ℤ) → ((ls : List ℤ) → Passes test box ls → IsWithin part (place_of ls i)) → part.low ≡ part.high → Passes test box ks
    → IsDrawn test box (set box i part) i word down
one_is_drawn test box i word down part ks within e p =
    let k = part.low in
    let at : (ls : List ℤ) → Passes test box ls → place_of ls i ≡ k = λ ls q. let w = within ls q in omega (arith, ints, e, w.0, w.1) in
    let gap : int_gap k k ≡ 0 = gap_none k k (omega (arith, ints)) in
    let none : word % (int_gap k k + 1) ≡ 0 = ap (λ n. word % (n + 1)) gap ∙ mod-one word in
    let aim : k +ℤ pos (word % (int_gap k k + 1)) ≡ k = omega (arith, ints, none) in
    record {
      low = k;
      high = k;
      place = k;
      lowest = (ks, p, at ks p);
      highest = (ks, p, at ks p);
      taken = (ks, p, at ks p);
      all = λ ls q. let is = at ls q in (omega (arith, ints, is), omega (arith, ints, is));
      on = subst (λ (z : ℤ). comes_before down k z ≡ false) (sym aim) (same_before down k k refl);
      none = λ ls q on. same_before down (place_of ls i) k (at ls q);
      new_box = (λ j. set box i (record { low = k; high = sym e j }));
    }
  where
    same_before : (d : Bool) (a b : ℤ) → a ≡ b → comes_before d a b ≡ false
    same_before true a b h = lt_false b a (omega (arith, ints, h))
    same_before false a b h = lt_false a b (omega (arith, ints, h))

-- A variable of a dive.
module _ (decimals : ℕ) (circuit : Circuit) (root : ℕ) (scales : List Scale) (starts : List ℤ) (i : ℕ) (point ranges : List Interval)
    (dives : IsDiving decimals circuit root scales starts i point ranges) (within : i < length starts) where
  pub drawn_here : i < length point
  drawn_here = omega (arith, within, dives.count)

  -- what the wide box leaves to it
  module _ (part : Interval) (inside : ((range_at point i).low ≤ℤ part.low) × (part.low ≤ℤ part.high) × (part.high ≤ℤ (range_at point i).high))
      (kept : (place : ℤ) → IsWithin (range_at point i) place → IsWithin (range_at ranges i) (value_by (scale_at scales i) place) → IsWithin part place) where
    pub left_within : (ks : List ℤ) → Passes (test_of decimals circuit root scales) point ks → IsWithin part (place_of ks i)
    left_within ks p =
        kept (get_or ks i (pos 0)) (point_within point ks i drawn_here p.0)
        (value_within scales point ranges ks (map (sign_at decimals (values_at scales ks)) (circuit_formulas circuit)) i dives.scaled p.0 drawn_here (omega (arith, dives.long)) (dives.covers ks p.0 p.1))

    pub left_fixed : part.low ≡ part.high → IsDiving decimals circuit root scales starts (suc i) (set point i part) ranges
    left_fixed e =
        let d = left_dives decimals circuit root scales starts i point ranges dives within part inside kept in
        record { scaled = d.scaled; count = d.count; long = d.long; domains = d.domains; covers = d.covers; fixed = subst (λ (z : ℤ). AreFixed (suc i) (set point i (record { low = part.low; high = z }))) e (fixed_more i point part.low dives.fixed) }

  -- it is fixed at a place
  pub place_dives : (k : ℤ) → IsWithin (range_at point i) k → (new : List Interval) → length new ≡ length ranges → AreDomains new → Covers decimals circuit root scales (set point i (place_only k)) new
      → IsDiving decimals circuit root scales starts (suc i) (set point i (place_only k)) new
  place_dives k w new long domains covers =
      let d = part_dives decimals circuit root scales starts i point ranges dives within (place_only k) (w.0, omega (arith, ints), w.1) new long domains covers in
      record { scaled = d.scaled; count = d.count; long = d.long; domains = d.domains; covers = d.covers; fixed = fixed_more i point k dives.fixed }

-- A variable of a dive is taken at a place.
module _ (decimals : ℕ) (circuit : Circuit) (root : ℕ) (scales : List Scale) (starts : List ℤ) (i : ℕ) (point ranges : List Interval)
    (dives : IsDiving decimals circuit root scales starts i point ranges) (within : i < length starts) (k : ℤ) (there : IsWithin (range_at point i) k) where
  abbrev pub taken_box : List Interval
  taken_box = set point i (place_only k)

  pub place_narrower : IsNarrower point taken_box
  place_narrower = part_narrower scales i point dives.scaled (omega (arith, within, dives.count)) (place_only k) (there.0, omega (arith, ints), there.1)

  -- the wide box stays
  pub same_dives : IsDiving decimals circuit root scales starts (suc i) taken_box ranges
  same_dives =
      place_dives decimals circuit root scales starts i point ranges dives within k there ranges refl dives.domains
      (λ ks p h. dives.covers ks (point_wider point taken_box ks place_narrower p) h)

  -- a point of the box with that place
  pub is_taken : (down : Bool) (start stop : ℤ) → IsFirstLeft (test_of decimals circuit root scales) point i down start stop k → (ks : List ℤ) → Passes (test_of decimals circuit root scales) taken_box ks
      → (new : List Interval) → new ≡ taken_box → IsTaken (test_of decimals circuit root scales) point new i down start stop
  is_taken down start stop first ks p new is = record {
    place = k;
    first = first;
    taken = (ks, (point_wider point taken_box ks place_narrower p.0, p.1), only_place point ks i k (omega (arith, within, dives.count)) p.0);
    new_box = is;
  }

-- a place is the first one that is left where none is passed by
pub first_itself : (test : List ℤ → Bool) (box : List Interval) (i : ℕ) (down : Bool) (start stop : ℤ) → comes_before down stop start ≡ false → IsFirstLeft test box i down start stop start
first_itself test box i false start stop order = (lt_false start start (omega (arith, ints)), order, λ ks p on. on)
first_itself test box i true start stop order = (lt_false start start (omega (arith, ints)), order, λ ks p on. on)

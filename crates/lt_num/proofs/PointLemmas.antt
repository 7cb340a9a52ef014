-- The points of a range.
use Rattle.std.proofs.Common.{◌≡◌, ℕ, zero, suc, ◌*◌, ◌/◌, ◌%◌, ◌<◌, ◌≤◌, Bool, true, false, ◌&&◌, ◌∷◌, length, map, refl, ap, sym, subst, ◌∙◌, arith}
use Rattle.std.specs.Prelude.{ℤ, pos, ◌+ℤ◌, ◌-ℤ◌, ◌*ℤ◌, ◌≤ℤ◌, ◌<ℤ◌, unsigned_abs, int_le, nat_eq, Contains, AllPairs, slice_index_or}
use Rattle.std.specs.Int.{int_gap}
use Rattle.std.proofs.lemmas.Bool.Decides.{nat_tests}
use Rattle.std.proofs.lemmas.Int.{ints}
use Rattle.std.proofs.Math.IntN.{pos-*ℤ-pos}
use Rattle.std.proofs.Math.Nat.{div-mul-le_self, mul-mod_left, div-one, le-div_iff_mul-le, mod-eq-sub-div-mul, mul_comm, mul-div_left, mul-lt-mul_of_pos_right}
use Rattle.lt_num.proofs.IntervalLemmas.{add_pos, gap_above}
use Rattle.lt_num.specs.Interval.{counted_up}
use Rattle.lt_num.specs.Range.{HasPoints, IsPoint, PointsAreThose, PointsOfStepOne, TestTellsPoints, count_of, point_at, points_of}
use Rattle.lt_num.specs.declared.range.Range.{Range}

-- as many numbers are told as are counted
length-told : (f : ℤ → ℤ) (first : ℤ) (n : ℕ) → length (map f (counted_up first n)) ≡ n
unfolding counted_up
length-told f first zero = refl
length-told f first (suc n) = ap suc (length-told f (first +ℤ pos 1) n)

-- the number that is told at each place
told-at : (f : ℤ → ℤ) (first : ℤ) (n k : ℕ) (d : ℤ) → k < n → slice_index_or (map f (counted_up first n)) k d ≡ f (first +ℤ pos k)
unfolding counted_up
told-at f first zero k d h = absurd (omega arith)
told-at f first (suc n) zero d h = ap f (omega (arith, ints))
told-at f first (suc n) (suc k) d h = told-at f (first +ℤ pos 1) n k d (omega arith) ∙ ap f (add_pos first k)

-- so many steps
steps : (step : ℤ) (k : ℕ) → pos 1 ≤ℤ step → step *ℤ pos k ≡ pos (k * unsigned_abs step)
steps step k h =
    let size : step ≡ pos (unsigned_abs step) = omega (arith, ints) in
    ap (λ z. z *ℤ pos k) size ∙ pos-*ℤ-pos (unsigned_abs step) k ∙ ap pos (mul_comm (unsigned_abs step) k)

module _ (range : Range) (has : HasPoints range) where
  abbrev stride : ℕ
  stride = unsigned_abs range.step

  positive : 0 < stride
  positive = let h = has.step in omega (arith, ints, h)

  abbrev gap : ℕ
  gap = int_gap range.low range.high

  -- the point at a place
  pub point_is : (k : ℕ) → point_at range (pos k) ≡ range.low +ℤ pos (k * stride)
  point_is k = ap (λ z. range.low +ℤ z) (steps range.step k has.step)

  there : (k : ℕ) (d : ℤ) → k < length (points_of range) → slice_index_or (points_of range) k d ≡ point_at range (pos k)
  there k d h =
      told-at (point_at range) (pos 0) (count_of range) k d (omega (arith, h, length-told (point_at range) (pos 0) (count_of range)))
      ∙ ap (point_at range) (omega (arith, ints))

  -- a place of a point is that many steps below the high end
  pub inside : (k : ℕ) → k < count_of range → point_at range (pos k) ≤ℤ range.high
  inside k h =
      let steps_fit : k * stride ≤ gap = (le-div_iff_mul-le {k = stride} {x = k} {y = gap} positive).0 (omega (arith, h)) in
      let far = gap_above range.low range.high has.some in
      let is = point_is k in
      omega (arith, ints, steps_fit, far, is)

  pub outside : (k : ℕ) → point_at range (pos k) ≤ℤ range.high → k < count_of range
  outside k h =
      let far = gap_above range.low range.high has.some in
      let is = point_is k in
      let steps_fit : k * stride ≤ gap = omega (arith, ints, far, is, h) in
      let fits : k ≤ gap / stride = (le-div_iff_mul-le {k = stride} {x = k} {y = gap} positive).1 steps_fit in
      omega (arith, fits)

  only_points : (raw : ℤ) → Contains (points_of range) raw → IsPoint range raw
  only_points raw c =
      let is : raw ≡ point_at range (pos c.0) = sym c.2 ∙ there c.0 raw c.1 in
      let below = inside c.0 (omega (arith, c.1, length-told (point_at range) (pos 0) (count_of range))) in
      (c.0, is, subst (λ (z : ℤ). z ≤ℤ range.high) (sym is) below)

  all_points : (raw : ℤ) → IsPoint range raw → Contains (points_of range) raw
  all_points raw p =
      let few = outside p.0 (subst (λ (z : ℤ). z ≤ℤ range.high) p.1 p.2) in
      let place : p.0 < length (points_of range) = omega (arith, few, length-told (point_at range) (pos 0) (count_of range)) in
      (p.0, place, there p.0 raw place ∙ sym p.1)

  rising : AllPairs (λ a b. a <ℤ b) (points_of range)
  rising i j d before within =
      let low = there i d (omega arith) in
      let high = there j d within in
      let far : i * stride < j * stride = mul-lt-mul_of_pos_right before positive in
      let low_is = point_is i in
      let high_is = point_is j in
      omega (arith, ints, low, high, far, low_is, high_is)

  pub apart : (i j : ℕ) → point_at range (pos i) ≡ point_at range (pos j) → i ≡ j
  apart i j e =
      let same : i * stride ≡ j * stride = let here = point_is i in let there = point_is j in omega (arith, ints, e, here, there) in
      sym (mul-div_left i positive) ∙ ap (λ (n : ℕ). n / stride) same ∙ mul-div_left j positive

pub points_are_those : PointsAreThose
points_are_those range has = (λ raw. (only_points range has raw, all_points range has raw), rising range has)

-- A test by three tests.
three_true : (a b c : Bool) → a ≡ true → b ≡ true → c ≡ true → (a && (b && c)) ≡ true
three_true a b c e f g = ap (λ x. x && (b && c)) e ∙ ap (λ x. x && c) f ∙ g

true_three : (a b c : Bool) → (a && (b && c)) ≡ true → (a ≡ true) × (b ≡ true) × (c ≡ true)
true_three true true true e = (refl, refl, refl)
true_three true true false e = absurd (cc)
true_three true false c e = absurd (cc)
true_three false b c e = absurd (cc)

le_true : (a b : ℤ) → a ≤ℤ b → int_le a b ≡ true
le_true a b h = grind (arith, ints)

true_le : (a b : ℤ) → int_le a b ≡ true → a ≤ℤ b
true_le a b h = grind (arith, ints)

zero_true : (n : ℕ) → n ≡ 0 → nat_eq n 0 ≡ true
zero_true n e = grind (arith, nat_tests)

true_zero : (n : ℕ) → nat_eq n 0 ≡ true → n ≡ 0
true_zero n e = grind (arith, nat_tests)

pub test_tells_points : TestTellsPoints
test_tells_points range raw has = (
  λ t.
      let parts = true_three (int_le range.low raw) (int_le raw range.high) (nat_eq (unsigned_abs (raw -ℤ range.low) % unsigned_abs range.step) 0) t in
      let low = true_le range.low raw parts.0 in
      let rest = true_zero (unsigned_abs (raw -ℤ range.low) % unsigned_abs range.step) parts.2 in
      let far : ℕ = unsigned_abs (raw -ℤ range.low) in
      let whole = mod-eq-sub-div-mul far (unsigned_abs range.step) in
      let less = div-mul-le_self far (unsigned_abs range.step) in
      let is = point_is range has (far / unsigned_abs range.step) in
      (far / unsigned_abs range.step, omega (arith, ints, low, rest, whole, less, is), true_le raw range.high parts.1),
  λ p.
      let is = point_is range has p.0 in
      let over : range.low ≤ℤ raw = omega (arith, ints, p.1, is) in
      let far : unsigned_abs (raw -ℤ range.low) ≡ p.0 * unsigned_abs range.step = omega (arith, ints, p.1, is) in
      three_true _ _ _ (le_true range.low raw over) (le_true raw range.high p.2)
      (zero_true _ (ap (λ (n : ℕ). n % unsigned_abs range.step) far ∙ mul-mod_left p.0 (unsigned_abs range.step))),
)

-- numbers that are told as one more, from one number on
told-same : (f : ℤ → ℤ) (a b : ℤ) (n : ℕ) → ((k : ℤ) → f k ≡ (b -ℤ a) +ℤ k) → map f (counted_up a n) ≡ counted_up b n
unfolding counted_up
told-same f a b zero is = refl
told-same f a b (suc n) is =
    let first : f a ≡ b = let here = is a in omega (arith, ints, here) in
    ap (λ z. z ∷ map f (counted_up (a +ℤ pos 1) n)) first
    ∙ ap (λ zs. b ∷ zs) (told-same f (a +ℤ pos 1) (b +ℤ pos 1) n (λ k. let here = is k in omega (arith, ints, here)))

pub points_of_step_one : PointsOfStepOne
points_of_step_one low high h =
    let range : Range = record { low = low; high = high; step = pos 1 } in
    let near = gap_above low high h in
    let far = gap_above low (high +ℤ pos 1) (omega (arith, ints)) in
    let count : count_of range ≡ int_gap low (high +ℤ pos 1) = omega (arith, ints, near, far, div-one (int_gap low high)) in
    ap (λ n. map (point_at range) (counted_up (pos 0) n)) count
    ∙ told-same (point_at range) (pos 0) low (int_gap low (high +ℤ pos 1)) (λ k. omega (arith, ints))

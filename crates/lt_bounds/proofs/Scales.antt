-- Values of places.
use Rattle.std.proofs.Common.{◌≡◌, ◌≢◌, ℕ, zero, suc, ◌+◌, ◌*◌, ◌/◌, ◌<◌, ◌≤◌, ℤ, pos, negsuc, neg_ℤ, ◌+ℤ◌, ◌-ℤ◌, ◌*ℤ◌, ◌≤ℤ◌, ◌<ℤ◌, unsigned_abs, refl, ap, sym, ◌∙◌, subst, arith}
use Rattle.std.specs.Int.{int_div_euclid}
use Rattle.std.proofs.Math.IntN.{*ℤ-zero, pos-*ℤ-negsuc, zero-*ℤ}
use Rattle.std.proofs.Math.Nat.{div-le_self, lt-mul-div-succ, mul-div-le, mul-suc}
use Rattle.std.proofs.lemmas.Int.{ints}
use Rattle.lt_bounds.specs.Places.{IsScaled, values_within}
use Rattle.lt_bounds.specs.Tightening.{greatest_of, least_of}
use Rattle.lt_bounds.proofs.Points.{mul_up, term_greatest, term_least, under}
use Rattle.lt_formula.specs.Translation.{value_by}
use Rattle.lt_formula.specs.declared.scale.Scale.{Scale}
use Rattle.lt_num.proofs.Public.{difference_times, times_difference}
use Rattle.lt_num.specs.Bounds.{most_raw}
use Rattle.lt_num.specs.Interval.{IsWithin}
use Rattle.lt_num.specs.declared.interval.Interval.{Interval}

-- the value at a place lies between those at the ends
pub values_rise : (scale : Scale) (places : Interval) (k : ℤ) → IsWithin places k → IsWithin (values_within scale places) (value_by scale k)
values_rise scale places k w =
    let low = term_least scale.slope k places w in
    let high = term_greatest scale.slope k places w in
    (omega (arith, ints, low), omega (arith, ints, high))

-- the ends are in order, and no value is past 10^12 in size
pub values_in : (scale : Scale) (places : Interval) → IsScaled scale places
    → ((values_within scale places).low ≤ℤ (values_within scale places).high) × (unsigned_abs (values_within scale places).low ≤ most_raw) × (unsigned_abs (values_within scale places).high ≤ most_raw)
values_in scale places s =
    let first = values_rise scale places places.low (omega (arith, ints), s.some) in
    let ends = by_slope scale.slope s.least s.greatest in
    (omega (arith, ints, first.0, first.1), ends.0, ends.1)
  where
    by_slope : (slope : ℤ) → unsigned_abs (scale.base +ℤ slope *ℤ places.low) ≤ most_raw → unsigned_abs (scale.base +ℤ slope *ℤ places.high) ≤ most_raw
        → (unsigned_abs (scale.base +ℤ least_of slope places) ≤ most_raw) × (unsigned_abs (scale.base +ℤ greatest_of slope places) ≤ most_raw)
    by_slope (pos n) l h = (l, h)
    by_slope (negsuc n) l h = (h, l)

-- a number between two that aren't past 10^12 isn't either
between : (low v high : ℤ) → unsigned_abs low ≤ most_raw → unsigned_abs high ≤ most_raw → low ≤ℤ v → v ≤ℤ high → unsigned_abs v ≤ most_raw
between low v high l h a b = omega (arith, ints, l, h, a, b)

-- the value at a place isn't past 10^12
pub value_size : (scale : Scale) (places : Interval) (k : ℤ) → IsScaled scale places → IsWithin places k → unsigned_abs (value_by scale k) ≤ most_raw
value_size scale places k s w =
    let ends = values_in scale places s in
    let here = values_rise scale places k w in
    between (values_within scale places).low (value_by scale k) (values_within scale places).high ends.1 ends.2 here.0 here.1

-- a part of an interval has the same scale
pub scaled_part : (scale : Scale) (places part : Interval) → IsScaled scale places → places.low ≤ℤ part.low → part.low ≤ℤ part.high → part.high ≤ℤ places.high → IsScaled scale part
scaled_part scale places part s l m h = record {
  some = m;
  slope = s.slope;
  steep = s.steep;
  base = s.base;
  low = between places.low part.low places.high s.low s.high l (omega (arith, ints, m, h));
  high = between places.low part.high places.high s.low s.high (omega (arith, ints, l, m)) h;
  least = value_size scale places part.low s (l, omega (arith, ints, m, h));
  greatest = value_size scale places part.high s (omega (arith, ints, l, m), h);
}

-- a place times the size of the slope, by its value
pub rise_up : (base slope low high k : ℤ) → pos 0 ≤ℤ slope → IsWithin (record { low = low; high = high }) (base +ℤ slope *ℤ k) → IsWithin (record { low = low -ℤ base; high = high -ℤ base }) (pos (unsigned_abs slope) *ℤ k)
rise_up base (pos n) low high k h w = let a = w.0 in let b = w.1 in (omega (arith, ints, a), omega (arith, ints, b))
rise_up base (negsuc n) low high k h w = absurd (omega (arith, ints))

turned : (n : ℕ) (k : ℤ) → negsuc n *ℤ k ≡ neg_ℤ (pos (suc n) *ℤ k)
turned n k =
    let is : negsuc n ≡ pos 0 -ℤ pos (suc n) = omega (arith, ints) in
    let all = ap (λ (z : ℤ). z *ℤ k) is ∙ difference_times (pos 0) (pos (suc n)) k in
    let none = zero-*ℤ k in
    omega (arith, ints, all, none)

pub rise_down : (base slope low high k : ℤ) → slope <ℤ pos 0 → IsWithin (record { low = low; high = high }) (base +ℤ slope *ℤ k) → IsWithin (record { low = base -ℤ high; high = base -ℤ low }) (pos (unsigned_abs slope) *ℤ k)
rise_down base (pos n) low high k h w = absurd (omega (arith, ints))
rise_down base (negsuc n) low high k h w =
    let turn = turned n k in
    let a = w.0 in
    let b = w.1 in
    (omega (arith, ints, a, b, turn), omega (arith, ints, a, b, turn))

-- a place under a bound that is rounded down, and one over a bound that is rounded up
pub place_under : (step k x q : ℤ) → pos 0 <ℤ step → (step *ℤ k) ≤ℤ x → q ≡ int_div_euclid x step → k ≤ℤ q
place_under (pos zero) k x q p h e = absurd (omega (arith, ints))
place_under (pos (suc a)) k x q p h e = let l = under a k x h in omega (arith, ints, l, e)
place_under (negsuc a) k x q p h e = absurd (omega (arith, ints))

pub place_over : (step k x q : ℤ) → pos 0 <ℤ step → x ≤ℤ (step *ℤ k) → q ≡ neg_ℤ (int_div_euclid (neg_ℤ x) step) → q ≤ℤ k
place_over step k x q p h e =
    let turn = times_difference step (pos 0) k in
    let none : step *ℤ pos 0 ≡ pos 0 = *ℤ-zero step in
    let l = place_under step (pos 0 -ℤ k) (neg_ℤ x) (int_div_euclid (neg_ℤ x) step) p (omega (arith, ints, turn, none, h)) refl in
    omega (arith, ints, l, e)

-- a quotient isn't greater in size than what is divided
pub quotient_size : (x step q : ℤ) (n : ℕ) → pos 0 <ℤ step → unsigned_abs x ≤ n → q ≡ int_div_euclid x step → unsigned_abs q ≤ n
quotient_size (pos a) (pos zero) q n p h e = absurd (omega (arith, ints))
quotient_size (pos a) (pos (suc b)) q n p h e = let l = div-le_self a (suc b) in omega (arith, ints, l, h, e)
quotient_size (negsuc a) (pos zero) q n p h e = absurd (omega (arith, ints))
quotient_size (negsuc a) (pos (suc b)) q n p h e = let l = div-le_self a (suc b) in omega (arith, ints, l, h, e)
quotient_size x (negsuc b) q n p h e = absurd (omega (arith, ints))

near : (a b : ℕ) → a < suc b * (a / suc b) + suc b
near a b = let l = lt-mul-div-succ a {b = suc b} (omega arith) in let more = mul-suc (suc b) (a / suc b) in omega (arith, l, more)

-- The greatest multiple that isn't over a number is nearer to it than a step.
pub multiple_under : (x step : ℤ) → pos 0 <ℤ step → ((step *ℤ int_div_euclid x step) ≤ℤ x) × (x <ℤ (step *ℤ int_div_euclid x step +ℤ step))
multiple_under (pos a) (pos zero) p = absurd (omega (arith, ints))
multiple_under (pos a) (pos (suc b)) p = let l = mul-div-le a (suc b) in let u = near a b in (omega (arith, ints, l), omega (arith, ints, u))
multiple_under (negsuc a) (pos zero) p = absurd (omega (arith, ints))
multiple_under (negsuc a) (pos (suc b)) p =
    let l = mul-div-le a (suc b) in
    let u = near a b in
    let times = pos-*ℤ-negsuc (suc b) (a / suc b) in
    let more = mul-suc (suc b) (a / suc b) in
    (omega (arith, ints, u, times, more), omega (arith, ints, l, times, more))
multiple_under x (negsuc b) p = absurd (omega (arith, ints))

pub multiple_is : (x step q : ℤ) → pos 0 <ℤ step → step ≤ℤ pos most_raw → q ≡ int_div_euclid x step
    → ((step *ℤ q) ≤ℤ x) × (x ≤ℤ (step *ℤ q +ℤ pos most_raw)) × ((times : ℤ) → (step *ℤ times) ≤ℤ x → (step *ℤ times) ≤ℤ (step *ℤ q))
multiple_is x step q p few e =
    let all = subst (λ (z : ℤ). ((step *ℤ z) ≤ℤ x) × (x <ℤ (step *ℤ z +ℤ step))) (sym e) (multiple_under x step p) in
    let low = all.0 in
    let high = all.1 in
    (low, omega (arith, ints, high, few), λ times h. times_up step times q p (place_under step times x q p h e))
  where
    times_up : (step a b : ℤ) → pos 0 <ℤ step → a ≤ℤ b → (step *ℤ a) ≤ℤ (step *ℤ b)
    times_up (pos n) a b p h = mul_up n a b h
    times_up (negsuc n) a b p h = absurd (omega (arith, ints))

pub size_over : (slope : ℤ) → slope ≢ pos 0 → pos 0 <ℤ pos (unsigned_abs slope)
size_over (pos zero) n = absurd (n refl)
size_over (pos (suc a)) n = omega (arith, ints)
size_over (negsuc a) n = omega (arith, ints)

-- a place between quotients of the numbers between which it is, times the size of the slope
pub placed : (slope k low high s x y up down : ℤ) → slope ≢ pos 0 → s ≡ pos (unsigned_abs slope) → x ≡ low → y ≡ high → up ≡ neg_ℤ (int_div_euclid (neg_ℤ x) s) → down ≡ int_div_euclid y s
    → IsWithin (record { low = low; high = high }) (pos (unsigned_abs slope) *ℤ k) → (up ≤ℤ k) × (k ≤ℤ down)
placed slope k low high s x y up down n es ex ey eu ed w =
    let over = size_over slope n in (
      place_over (pos (unsigned_abs slope)) k low up over w.0 (eu ∙ (λ i. neg_ℤ (int_div_euclid (neg_ℤ (ex i)) (es i)))),
      place_under (pos (unsigned_abs slope)) k high down over w.1 (ed ∙ (λ i. int_div_euclid (ey i) (es i))),
    )

-- a value between multiples of the step that are nearest to the ends of values
pub pointed : (slope base low high k s x y under over : ℤ) → slope ≢ pos 0 → s ≡ pos (unsigned_abs slope) → x ≡ base -ℤ low → y ≡ high -ℤ base
    → ((times : ℤ) → (s *ℤ times) ≤ℤ x → (s *ℤ times) ≤ℤ under) → ((times : ℤ) → (s *ℤ times) ≤ℤ y → (s *ℤ times) ≤ℤ over)
    → IsWithin (record { low = low; high = high }) (base +ℤ slope *ℤ k) → ((base -ℤ under) ≤ℤ (base +ℤ slope *ℤ k)) × ((base +ℤ slope *ℤ k) ≤ℤ (base +ℤ over))
pointed (pos a) base low high k s x y under over n es ex ey hu ho w =
    let turn = times_difference (pos a) (pos 0) k in
    let none = *ℤ-zero (pos a) in
    let below = w.0 in
    let above = w.1 in
    let lu = hu (pos 0 -ℤ k) (rw (es, ex) (omega (arith, ints, turn, none, below))) in
    let lo = ho k (rw (es, ey) (omega (arith, ints, above))) in
    let same : s *ℤ k ≡ pos a *ℤ k = ap (λ (z : ℤ). z *ℤ k) es in
    let other : s *ℤ (pos 0 -ℤ k) ≡ pos a *ℤ (pos 0 -ℤ k) = ap (λ (z : ℤ). z *ℤ (pos 0 -ℤ k)) es in
    (omega (arith, ints, lu, other, turn, none), omega (arith, ints, lo, same))
pointed (negsuc a) base low high k s x y under over n es ex ey hu ho w =
    let turn = times_difference (pos (suc a)) (pos 0) k in
    let none = *ℤ-zero (pos (suc a)) in
    let back = turned a k in
    let below = w.0 in
    let above = w.1 in
    let lu = hu k (rw (es, ex) (omega (arith, ints, back, below))) in
    let lo = ho (pos 0 -ℤ k) (rw (es, ey) (omega (arith, ints, turn, none, back, above))) in
    let same : s *ℤ k ≡ pos (suc a) *ℤ k = ap (λ (z : ℤ). z *ℤ k) es in
    let other : s *ℤ (pos 0 -ℤ k) ≡ pos (suc a) *ℤ (pos 0 -ℤ k) = ap (λ (z : ℤ). z *ℤ (pos 0 -ℤ k)) es in
    (omega (arith, ints, lu, same, back), omega (arith, ints, lo, other, turn, none, back))

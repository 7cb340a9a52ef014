-- What the proofs of other crates may cite of this one.
use Rattle.std.specs.Prelude.{◌≡◌, ◌*◌, ◌++◌, ◌<◌, ◌≤◌, unsigned_abs, ℕ, suc, List, [], ◌∷◌, length, slice_set, ℤ, pos, ◌*ℤ◌, ◌+ℤ◌, ◌≤ℤ◌}
use Rattle.std.specs.Int.{int_div_euclid}
use Rattle.lt_num.specs.Interval.{IsWithin}
use Rattle.lt_num.specs.declared.interval.Interval.{Interval}
use Rattle.lt_bounds.specs.Places.{IsScaled, values_within}
use Rattle.lt_bounds.specs.Ranges.{range_at, AreSome, IsNarrower}
use Rattle.lt_bounds.specs.Rows.{AreWholeRows, ReachesAll, rows_in}
use Rattle.lt_bounds.specs.Tightening.{cut, least_of, greatest_of, NoPointIsLost}
use Rattle.lt_bounds.proofs.Passes as passes
use Rattle.lt_bounds.proofs.Points as points
use Rattle.lt_bounds.proofs.Scales as scales
use Rattle.lt_bounds.proofs.Steps as steps
use Rattle.lt_formula.specs.Translation.{value_by}
use Rattle.lt_formula.specs.declared.scale.Scale.{Scale}
use Rattle.lt_num.specs.Bounds.{most_raw}

-- a point that satisfies all rows stays inside
pub no_point_is_lost : NoPointIsLost
no_point_is_lost = points.no_point_is_lost

-- a term is at least its least value ..
pub term_least : (a v : ℤ) (range : Interval) → IsWithin range v → least_of a range ≤ℤ (a *ℤ v)
term_least = points.term_least

-- .. and at most its greatest one
pub term_greatest : (a v : ℤ) (range : Interval) → IsWithin range v → (a *ℤ v) ≤ℤ greatest_of a range
term_greatest = points.term_greatest

-- ranges with numbers are narrower than themselves
pub narrower_same : (ranges : List Interval) → AreSome ranges → IsNarrower ranges ranges
narrower_same = steps.narrower_same

-- so are narrower ones with one more part of a range
pub narrower_set : (old ranges : List Interval) (i : ℕ) (r : Interval) → IsNarrower old ranges → ((range_at ranges i).low ≤ℤ r.low) × (r.low ≤ℤ r.high) × (r.high ≤ℤ (range_at ranges i).high) → IsNarrower old (slice_set ranges i r)
narrower_set = steps.narrower_set

-- narrower than narrower ones
pub narrower_more : (a b c : List Interval) → IsNarrower a b → IsNarrower b c → IsNarrower a c
narrower_more = steps.narrower_more

-- they are as many
pub narrower_length : (a b : List Interval) → IsNarrower a b → length b ≡ length a
narrower_length = steps.narrower_length

-- and have numbers
pub narrower_some : (a b : List Interval) → IsNarrower a b → AreSome b
narrower_some = steps.narrower_some

-- rows reach no farther over narrower ranges
pub reaches_less : (rows : List (List ℤ)) (a b : List Interval) → IsNarrower a b → ReachesAll rows a → ReachesAll rows b
reaches_less = steps.reaches_less

-- rows are whole over as many other ranges
pub whole_same : (width : ℕ) (cells : List ℤ) (ranges new : List Interval) → AreWholeRows width cells ranges → length new ≡ length ranges → AreWholeRows width cells new
whole_same = passes.whole_same

-- no cells are no rows
pub rows_none : (width : ℕ) (cells : List ℤ) → 0 < width → length cells ≡ 0 → rows_in width cells ≡ []
rows_none = passes.rows_none

-- a row after others
pub rows_pushed : (width count : ℕ) (cells row : List ℤ) → 0 < width → length cells ≡ count * width → length row ≡ width → rows_in width (cells ++ row) ≡ rows_in width cells ++ row ∷ []
rows_pushed = passes.rows_pushed

-- a value stays inside where a term leaves it
pub inside_cut : (a m v : ℤ) (range : Interval) → IsWithin range v → ((a *ℤ v) +ℤ m) ≤ℤ pos 0 → IsWithin (cut a m range) v
inside_cut = points.inside_cut

-- a value under a quotient that is rounded down
pub quotient_under : (a : ℕ) (v x : ℤ) → (pos (suc a) *ℤ v) ≤ℤ x → v ≤ℤ int_div_euclid x (pos (suc a))
quotient_under = points.under

-- the value at a place lies between those at the ends of an interval of places ..
pub values_rise : (scale : Scale) (places : Interval) (k : ℤ) → IsWithin places k → IsWithin (values_within scale places) (value_by scale k)
values_rise = scales.values_rise

-- .. which are in order and not past 10^12 in size
pub values_in : (scale : Scale) (places : Interval) → IsScaled scale places
    → ((values_within scale places).low ≤ℤ (values_within scale places).high) × (unsigned_abs (values_within scale places).low ≤ most_raw) × (unsigned_abs (values_within scale places).high ≤ most_raw)
values_in = scales.values_in

-- a part of an interval of places has the same scale
pub scaled_part : (scale : Scale) (places part : Interval) → IsScaled scale places → places.low ≤ℤ part.low → part.low ≤ℤ part.high → part.high ≤ℤ places.high → IsScaled scale part
scaled_part = scales.scaled_part

-- and a place of it has a value that isn't past 10^12
pub value_size : (scale : Scale) (places : Interval) (k : ℤ) → IsScaled scale places → IsWithin places k → unsigned_abs (value_by scale k) ≤ most_raw
value_size = scales.value_size

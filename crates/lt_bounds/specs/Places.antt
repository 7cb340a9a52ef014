-- The values of places, and the places of values: how places tell values is a scale.
use Rattle.std.specs.Prelude.{◌≢◌, ◌≤◌, List, [], ◌∷◌, pos, ◌+ℤ◌, ◌≤ℤ◌, unsigned_abs}
use Rattle.lt_bounds.specs.Tightening.{greatest_of, least_of}
use Rattle.lt_formula.specs.Translation.{value_by}
use Rattle.lt_formula.specs.declared.scale.Scale.{Scale}
use Rattle.lt_num.specs.Bounds.{most_raw}
use Rattle.lt_num.specs.declared.interval.Interval.{Interval}

-- Between which values those at the places of an interval lie: the least one is at its high end where the slope is below 0.
abbrev pub values_within : Scale → Interval → Interval
values_within scale places = record { low = scale.base +ℤ least_of scale.slope places; high = scale.base +ℤ greatest_of scale.slope places }

-- that for each variable; where there is no scale more, there are no values
abbrev pub values_in_box : List Scale → List Interval → List Interval
values_in_box [] box = []
values_in_box (scale ∷ scales) [] = []
values_in_box (scale ∷ scales) (places ∷ box) = values_within scale places ∷ values_in_box scales box

-- A scale and an interval of places: there is one, each place has a value of its own, and none is past 10^12 in size.
pub record IsScaled (scale : Scale) (places : Interval) : Type 0 where
  pub some : places.low ≤ℤ places.high
  pub slope : scale.slope ≢ pos 0
  pub steep : unsigned_abs scale.slope ≤ most_raw
  pub base : unsigned_abs scale.base ≤ most_raw
  pub low : unsigned_abs places.low ≤ most_raw
  pub high : unsigned_abs places.high ≤ most_raw
  pub least : unsigned_abs (value_by scale places.low) ≤ most_raw
  pub greatest : unsigned_abs (value_by scale places.high) ≤ most_raw

-- each variable has a scale and an interval
abbrev pub AreScaled : List Scale → List Interval → Type 0
AreScaled [] [] = Unit {0}
AreScaled [] (places ∷ box) = ⊥
AreScaled (scale ∷ scales) [] = ⊥
AreScaled (scale ∷ scales) (places ∷ box) = IsScaled scale places × AreScaled scales box

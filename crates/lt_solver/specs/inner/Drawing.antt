-- What is drawn inside, out of a box of places.
use Rattle.std.specs.Prelude.{◌≡◌, ◌<◌, ◌+◌, ◌%◌, ℕ, Bool, true, false, IsTrue, List, length, ℤ, pos, ◌+ℤ◌, ◌≤ℤ◌, slice_index_or, slice_set}
use Rattle.std.specs.Int.{int_gap}
use Rattle.lt_formula.specs.Box.{IsInBox}
use Rattle.lt_formula.specs.Inside.{HaveOnePoint, inside_solution, no_range}
use Rattle.lt_formula.specs.Solution.{IsPointOf, comes_before}
use Rattle.lt_formula.specs.Translation.{values_at}
use Rattle.lt_formula.specs.declared.scale.Scale.{Scale}
use Rattle.lt_num.specs.Range.{HasPoints}
use Rattle.lt_num.specs.declared.interval.Interval.{Interval}
use Rattle.lt_num.specs.declared.range.Range.{Range}

-- the place of a variable
abbrev pub place_of : List ℤ → ℕ → ℤ
place_of places i = slice_index_or places i (pos 0)

-- places of a box that pass
abbrev pub Passes : (List ℤ → Bool) → List Interval → List ℤ → Type 0
Passes passes box places = IsInBox box places × (passes places ≡ true)

-- the interval of one place
abbrev pub place_only : ℤ → Interval
place_only place = record { low = place; high = place }

-- A place of a variable is the first one that is left in a direction: it lies between the one that was begun at and one to stop at,
-- and none that comes before it passes.
abbrev pub IsFirstLeft : (List ℤ → Bool) → List Interval → ℕ → Bool → ℤ → ℤ → ℤ → Type 0
IsFirstLeft passes box i down start stop place =
    (comes_before down place start ≡ false) × (comes_before down stop place ≡ false)
    × ((places : List ℤ) → Passes passes box places → comes_before down (place_of places i) start ≡ false → comes_before down (place_of places i) place ≡ false)

-- A variable of a box is fixed, in a direction, at the first place from one on that some point has that passes. The new box has all
-- that have this one.
pub record IsTaken (passes : List ℤ → Bool) (old new : List Interval) (i : ℕ) (down : Bool) (start stop : ℤ) : Type 0 where
  pub place : ℤ
  pub first : IsFirstLeft passes old i down start stop place
  pub taken : (places : List ℤ) × Passes passes old places × (place_of places i ≡ place)
  pub new_box : new ≡ slice_set old i (place_only place)

-- A variable of a box is drawn, by a word and a direction: some that pass have its least place, some its greatest one, and some the
-- one that is taken. The new box has all that have this one.
pub record IsDrawn (passes : List ℤ → Bool) (old new : List Interval) (i word : ℕ) (down : Bool) : Type 0 where
  pub low : ℤ
  pub high : ℤ
  pub place : ℤ
  pub lowest : (places : List ℤ) × Passes passes old places × (place_of places i ≡ low)
  pub highest : (places : List ℤ) × Passes passes old places × (place_of places i ≡ high)
  pub taken : (places : List ℤ) × Passes passes old places × (place_of places i ≡ place)
  pub all : (places : List ℤ) → Passes passes old places → (low ≤ℤ place_of places i) × (place_of places i ≤ℤ high)
  pub on : comes_before down place (low +ℤ pos (word % (int_gap low high + 1))) ≡ false
  pub none : (places : List ℤ) → Passes passes old places → comes_before down (place_of places i) (low +ℤ pos (word % (int_gap low high + 1))) ≡ false → comes_before down (place_of places i) place ≡ false
  pub new_box : new ≡ slice_set old i (place_only place)

-- The points of ranges that pass a test are told by places of a box, and each place of the box tells a point.
pub record TellsRanges (test : List ℤ → Bool) (scales : List Scale) (box : List Interval) (ranges : List Range) : Type 0 where
  pub count : length ranges ≡ length box
  pub points : (i : ℕ) → i < length box → HasPoints (slice_index_or ranges i no_range)
  pub slopes : (i : ℕ) → i < length box → (slice_index_or ranges i no_range).step ≡ (slice_index_or scales i (record { base = pos 0; slope = pos 0 })).slope
  pub within : (places : List ℤ) → IsInBox box places → IsPointOf ranges (values_at scales places)
  pub told : (values : List ℤ) → IsPointOf ranges values → IsTrue (test values) → (places : List ℤ) × IsInBox box places × (values_at scales places ≡ values)

-- So many variables are drawn: they have one place each in the box, and what is drawn inside is so of ranges that the box tells.
pub record AreDrawn (test : List ℤ → Bool) (scales : List Scale) (box : List Interval) (ranges : List Range) (words : List ℕ) (down : List Bool) (i : ℕ) : Type 0 where
  pub parts : List Range
  pub told : TellsRanges test scales box parts
  pub fixed : HaveOnePoint i parts
  pub same : inside_solution test ranges words down ≡ inside_solution test parts words down

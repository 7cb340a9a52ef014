-- Rows: a coefficient for each variable, and a constant last.
use Rattle.std.specs.Prelude.{◌≡◌, ◌*◌, ◌+◌, ◌/◌, ◌<◌, ◌^◌, ℕ, zero, suc, List, [], ◌∷◌, length, take, drop, ℤ, pos, ◌+ℤ◌, ◌*ℤ◌, ◌≤ℤ◌, unsigned_abs}
use Rattle.lt_bounds.specs.Ranges.{size_of}
use Rattle.lt_bounds.specs.declared.rows.Rows.{Rows}
use Rattle.lt_num.specs.declared.interval.Interval.{Interval}

-- the first rows of some cells, so many
abbrev pub rows_from : ℕ → ℕ → List ℤ → List (List ℤ)
rows_from width zero cells = []
rows_from width (suc more) cells = take width cells ∷ rows_from width more (drop width cells)

-- the rows that cells are divided into
abbrev pub rows_in : ℕ → List ℤ → List (List ℤ)
rows_in width cells = rows_from width (length cells / width) cells

-- the rows of a `Rows`
abbrev pub rows_of : Rows → List (List ℤ)
rows_of rows = rows_in rows.width rows.cells.items

-- what a row is at a point: each coefficient times its number, and the constant after them
abbrev pub row_at : List ℤ → List ℤ → ℤ
row_at [] point = pos 0
row_at (c ∷ cs) [] = c
row_at (a ∷ cs) (v ∷ vs) = (a *ℤ v) +ℤ row_at cs vs

-- a point satisfies all rows: none of them is over 0 there
abbrev pub SatisfyAll : List (List ℤ) → List ℤ → Type 0
SatisfyAll [] point = Unit {0}
SatisfyAll (row ∷ rows) point = (row_at row point ≤ℤ pos 0) × SatisfyAll rows point

-- how far a row reaches over some ranges: the sizes of its coefficients times those of the ranges, and the constant's
abbrev pub reach : List ℤ → List Interval → ℕ
reach [] ranges = 0
reach (c ∷ cs) [] = unsigned_abs c
reach (a ∷ cs) (r ∷ rs) = unsigned_abs a * size_of r + reach cs rs

-- no sum over a row passes 2^126 in size
abbrev pub ReachesAll : List (List ℤ) → List Interval → Type 0
ReachesAll [] ranges = Unit {0}
ReachesAll (row ∷ rows) ranges = (reach row ranges < 2 ^ 126) × ReachesAll rows ranges

-- whole rows, each with a coefficient for each range and a constant
pub record AreWholeRows (width : ℕ) (cells : List ℤ) (ranges : List Interval) : Type 0 where
  pub width_is : width ≡ suc (length ranges)
  pub count : ℕ
  pub cells_are : length cells ≡ count * width

-- The passes of tightening, as they are written: row by row, and in each row variable by variable.
use Rattle.std.specs.declared.option.Option.{Option}
use Rattle.std.specs.Prelude.{None, Some, int_lt, ℕ, zero, suc, Bool, false, if◌then◌else◌, List, [], ◌∷◌, length, slice_index_or, slice_set, ℤ, pos, negsuc, neg_ℤ, ◌+ℤ◌, ◌-ℤ◌, ◌*ℤ◌}
use Rattle.std.specs.Int.{int_min, int_max, int_div_euclid}
use Rattle.lt_bounds.specs.Ranges.{range_at}
use Rattle.lt_bounds.specs.Rows.{SatisfyAll}
use Rattle.lt_formula.specs.Box.{IsInBox}
use Rattle.lt_num.specs.declared.interval.Interval.{Interval}
use Rattle.lt_bounds.specs.declared.tightening.Tight.{Tight}
use Rattle.lt_bounds.specs.declared.tightening.Tight.TheVariants as answers

-- ranges after a step: `empty` where one would be without a number, with the ranges as they were before that step
pub data Outcome : Type 0 where
  empty : List Interval → Outcome
  narrowed : List Interval → Outcome

-- further steps, unless one would be without a number
abbrev pub and_then : Outcome → (List Interval → Outcome) → Outcome
and_then (empty ranges) next = empty ranges
and_then (narrowed ranges) next = next ranges

-- the least value of a term within a range
abbrev pub least_of : ℤ → Interval → ℤ
least_of (pos a) range = pos a *ℤ range.low
least_of (negsuc a) range = negsuc a *ℤ range.high

-- the least value of a row within ranges
abbrev pub least_sum : List ℤ → List Interval → ℤ
least_sum [] ranges = pos 0
least_sum (c ∷ cs) [] = c
least_sum (a ∷ cs) (r ∷ rs) = least_of a r +ℤ least_sum cs rs

-- the greatest value of a term within a range
abbrev pub greatest_of : ℤ → Interval → ℤ
greatest_of (pos a) range = pos a *ℤ range.high
greatest_of (negsuc a) range = negsuc a *ℤ range.low

-- The least value of the terms of a row but that of one variable.
abbrev pub others_least : List ℤ → List Interval → ℕ → ℤ
others_least row ranges i = least_sum row ranges -ℤ least_of (slice_index_or row i (pos 0)) (range_at ranges i)

-- The range that a term a * v leaves to its variable where the others are at least m: v is at most -m / a, rounded
-- down, for a positive a, and at least -m / a, rounded up, for a negative one. Euclid's quotient rounds so.
abbrev pub cut : ℤ → ℤ → Interval → Interval
cut (pos zero) m range = range
cut (pos (suc a)) m range = record { low = range.low; high = int_min range.high (int_div_euclid (neg_ℤ m) (pos (suc a))) }
cut (negsuc a) m range = record { low = int_max range.low (int_div_euclid (neg_ℤ m) (negsuc a)); high = range.high }

-- a range, where it has a number
abbrev pub where_some : Interval → Option Interval
where_some range = if int_lt range.high range.low then None else Some range

-- a row takes so many variables in order, from one on
abbrev pub variables_taken : List ℤ → ℕ → ℕ → List Interval → Outcome
variables_taken row i zero ranges = narrowed ranges
variables_taken row i (suc more) ranges =
    let range = cut (slice_index_or row i (pos 0)) (others_least row ranges i) (range_at ranges i) in
    if int_lt range.high range.low then empty ranges else variables_taken row (suc i) more (slice_set ranges i range)

-- a row has no coefficient but 0, and a constant over 0
abbrev pub is_broken : List ℤ → ℕ → Bool
is_broken [] n = false
is_broken (c ∷ cs) zero = int_lt (pos 0) c
is_broken (pos zero ∷ cs) (suc n) = is_broken cs n
is_broken (pos (suc a) ∷ cs) (suc n) = false
is_broken (negsuc a ∷ cs) (suc n) = false

-- a row is taken
unfoldable pub row_taken : List ℤ → List Interval → Outcome
row_taken row ranges = if is_broken row (length ranges) then empty ranges else variables_taken row 0 (length ranges) ranges

-- a pass takes the rows in order
abbrev pub rows_taken : List (List ℤ) → List Interval → Outcome
rows_taken [] ranges = narrowed ranges
rows_taken (row ∷ rows) ranges = and_then (row_taken row ranges) (rows_taken rows)

-- So many passes. One that changes nothing may be the last: those after it would change nothing either.
unfoldable pub passes : ℕ → List (List ℤ) → List Interval → Outcome
passes zero rows ranges = narrowed ranges
passes (suc more) rows ranges = and_then (rows_taken rows ranges) (passes more rows)

-- ranges tightened by rows: at most 8 passes
abbrev pub tightened : List (List ℤ) → List Interval → Outcome
tightened rows ranges = passes 8 rows ranges

-- the outcome that an answer tells, with the ranges after it
abbrev pub told : Tight → List Interval → Outcome
told answers.Empty ranges = empty ranges
told answers.Narrowed ranges = narrowed ranges

-- the point stays inside, and there is none where the outcome is empty
abbrev pub Keeps : List ℤ → Outcome → Type 0
Keeps point (empty ranges) = ⊥
Keeps point (narrowed ranges) = IsInBox ranges point

-- A point of the ranges that satisfies all rows stays inside, and so no outcome is empty where there is one.
abbrev pub NoPointIsLost : Type 0
NoPointIsLost = (rows : List (List ℤ)) (ranges : List Interval) (point : List ℤ) → IsInBox ranges point → SatisfyAll rows point → Keeps point (tightened rows ranges)

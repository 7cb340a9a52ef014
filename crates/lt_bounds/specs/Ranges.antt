-- Intervals of raw numbers, one for each variable.
use Rattle.std.specs.Prelude.{ℕ, List, [], ◌∷◌, max, pos, ◌≤ℤ◌, unsigned_abs, slice_index_or}
use Rattle.lt_num.specs.declared.interval.Interval.{Interval}

-- the range of a variable; where there is none, it has 0 alone
abbrev pub range_at : List Interval → ℕ → Interval
range_at ranges i = slice_index_or ranges i (record { low = pos 0; high = pos 0 })

-- each range has a number
abbrev pub AreSome : List Interval → Type 0
AreSome [] = Unit {0}
AreSome (r ∷ rs) = (r.low ≤ℤ r.high) × AreSome rs

-- each of the second ranges has a number, and lies in the first range at its place
abbrev pub IsNarrower : List Interval → List Interval → Type 0
IsNarrower [] [] = Unit {0}
IsNarrower (r ∷ rs) (s ∷ ss) = ((r.low ≤ℤ s.low) × (s.low ≤ℤ s.high) × (s.high ≤ℤ r.high)) × IsNarrower rs ss
IsNarrower [] (s ∷ ss) = ⊥
IsNarrower (r ∷ rs) [] = ⊥

-- the largest size that a number of a range has
abbrev pub size_of : Interval → ℕ
size_of range = max (unsigned_abs range.low) (unsigned_abs range.high)

-- Intervals of raw numbers.
use Rattle.std.specs.Prelude.{◌↔◌, ℕ, zero, suc, List, [], ◌∷◌, ℤ, pos, ◌+ℤ◌, ◌≤ℤ◌, ◌<ℤ◌, Contains, AllPairs}
use Rattle.std.specs.Int.{int_gap}
use Rattle.lt_num.specs.declared.interval.Interval.{Interval}

-- a raw number is one of an interval
abbrev pub IsWithin : Interval → ℤ → Type 0
IsWithin interval raw = (interval.low ≤ℤ raw) × (raw ≤ℤ interval.high)

-- so many numbers, this one first, and each one more than the one before
unfoldable pub counted_up : ℤ → ℕ → List ℤ
counted_up first zero = []
counted_up first (suc more) = first ∷ counted_up (first +ℤ pos 1) more

-- how many raw numbers an interval has
abbrev pub count_within : Interval → ℕ
count_within interval = int_gap interval.low (interval.high +ℤ pos 1)

-- the raw numbers of an interval, from low to high
abbrev pub raws_of : Interval → List ℤ
raws_of interval = counted_up interval.low (count_within interval)

-- The raw numbers of an interval are exactly those within it, in rising order.
abbrev pub RawsAreWithin : Type 0
RawsAreWithin = (interval : Interval) → ((raw : ℤ) → Contains (raws_of interval) raw ↔ IsWithin interval raw) × AllPairs (λ a b. a <ℤ b) (raws_of interval)

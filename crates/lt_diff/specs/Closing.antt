-- Cells that stated bounds leave, and those that say all that follows from them.
use Rattle.std.specs.Prelude.{◌≡◌, ◌≢◌, ℕ, ◌<◌, ℤ, pos, neg_ℤ, ◌+ℤ◌, ◌≤ℤ◌}
use Rattle.lt_diff.specs.Bounds.{AreLess, no_bound}
use Rattle.lt_diff.specs.Limits.{most_bound, most_sum}
use Rattle.lt_diff.specs.Walks.{HasWalk}

-- a bound, where it is stated, is at most so far from 0
abbrev pub IsWithin : ℕ → ℤ → Type 0
IsWithin most bound = bound ≢ no_bound → (neg_ℤ (pos most) ≤ℤ bound) × (bound ≤ℤ pos most)

-- each stated bound is so
abbrev pub AreWithin : ℕ → ℕ → (ℕ → ℕ → ℤ) → Type 0
AreWithin most size cell = (a b : ℕ) → a < size → b < size → IsWithin most (cell a b)

-- Cells come of bounds, each as small as one may be: none is greater than its bound, and each that is stated follows from a walk over
-- bounds.
pub record ComesOf (size : ℕ) (bounds cell : ℕ → ℕ → ℤ) : Type 0 where
  pub within : AreWithin most_bound size bounds
  pub less : AreLess size bounds cell
  pub follows : (a b : ℕ) → a < size → b < size → cell a b ≢ no_bound → HasWalk size bounds a b (cell a b)

-- What stating bounds leaves, and closing them without a contradiction: the cells come of bounds, each is within the largest that
-- follows from such, and variable 0 is at most 0 over itself.
pub record AreStated (size : ℕ) (cell : ℕ → ℕ → ℤ) : Type 0 where
  pub bounds : ℕ → ℕ → ℤ
  pub comes : ComesOf size bounds cell
  pub within : AreWithin most_sum size cell
  pub origin : cell 0 0 ≤ℤ pos 0

-- two bounds through this variable say no more than the bound of their ends
abbrev pub IsClosedAt : ℕ → (ℕ → ℕ → ℤ) → ℕ → Type 0
IsClosedAt size cell p =
    (a b : ℕ) → a < size → b < size → cell a p ≢ no_bound → cell p b ≢ no_bound → cell a b ≤ℤ (cell a p +ℤ cell p b)

-- The bounds say all that follows from them, and don't contradict each other.
pub record IsClosed (size : ℕ) (cell : ℕ → ℕ → ℤ) : Type 0 where
  pub at : (p : ℕ) → p < size → IsClosedAt size cell p
  pub origin : cell 0 0 ≡ pos 0
  pub within : AreWithin most_sum size cell

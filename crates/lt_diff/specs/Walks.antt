-- Walks from one variable to another, a bound a step.
use Rattle.std.specs.Prelude.{◌≢◌, ℕ, ◌<◌, List, [], ◌∷◌, ℤ, pos, ◌+ℤ◌, ◌≤ℤ◌, ◌<ℤ◌}
use Rattle.lt_diff.specs.Bounds.{no_bound}

-- the sum of the cells on the walk from one variable through others to a last one
abbrev pub walk_sum : (ℕ → ℕ → ℤ) → ℕ → List ℕ → ℕ → ℤ
walk_sum cell a [] b = cell a b
walk_sum cell a (p ∷ ps) b = cell a p +ℤ walk_sum cell p ps b

-- a bound is stated for each step of it
abbrev pub IsWalk : ℕ → (ℕ → ℕ → ℤ) → ℕ → List ℕ → ℕ → Type 0
IsWalk size cell a [] b = (a < size) × (b < size) × (cell a b ≢ no_bound)
IsWalk size cell a (p ∷ ps) b = (a < size) × (cell a p ≢ no_bound) × IsWalk size cell p ps b

-- some walk from a variable back to itself has a negative sum
abbrev pub HasNegativeCycle : ℕ → (ℕ → ℕ → ℤ) → Type 0
HasNegativeCycle size cell =
    (a : ℕ) × (ps : List ℕ) × IsWalk size cell a ps a × (walk_sum cell a ps a <ℤ pos 0)

-- Some walk from one variable to another has at most this sum.
pub record HasWalk (size : ℕ) (cell : ℕ → ℕ → ℤ) (a b : ℕ) (most : ℤ) : Type 0 where
  pub through : List ℕ
  pub is : IsWalk size cell a through b
  pub sum : walk_sum cell a through b ≤ℤ most

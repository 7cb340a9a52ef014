-- Laws of bounds and their solutions.
use Rattle.std.specs.Prelude.{◌≡◌, ℕ, ◌<◌, ℤ, pos, ◌-ℤ◌, ◌≤ℤ◌, ◌<ℤ◌, ◌↔◌}
use Rattle.lt_diff.specs.Bounds.{HaveNoBounds, IsBounded, IsSolution, no_bound}
use Rattle.lt_diff.specs.Walks.{HasNegativeCycle}

-- Where a cycle is negative there is no solution.
abbrev pub NegativeCycleUnsolved : Type 0
NegativeCycleUnsolved =
    (size : ℕ) (cell : ℕ → ℕ → ℤ) → HasNegativeCycle size cell → (value : ℕ → ℤ) → IsSolution size cell value → ⊥

-- Stating a bound that is below the mark of an unstated one adds its own and no other.
abbrev pub BoundAddsItsOwn : Type 0
BoundAddsItsOwn =
    (size a b : ℕ) (most : ℤ) (old new : ℕ → ℕ → ℤ) → a < size → b < size → most <ℤ no_bound → IsBounded size a b most old new
    → (value : ℕ → ℤ) → IsSolution size new value ↔ (IsSolution size old value × ((value a -ℤ value b) ≤ℤ most))

-- Where nothing is stated, all values with 0 at variable 0 are a solution.
abbrev pub NoBoundsAllowAll : Type 0
NoBoundsAllowAll =
    (size : ℕ) (cell : ℕ → ℕ → ℤ) → HaveNoBounds size cell → (value : ℕ → ℤ) → value 0 ≡ pos 0 → IsSolution size cell value

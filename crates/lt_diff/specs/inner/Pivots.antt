-- One pivot of a closure.
use Rattle.std.specs.Prelude.{◌≡◌, ◌≢◌, ℕ, ◌<◌, ◌⊎◌, ℤ, pos, ◌+ℤ◌, ◌≤ℤ◌, ◌<ℤ◌}
use Rattle.lt_diff.specs.Bounds.{no_bound}

-- no variable is to be under itself
abbrev pub IsFlat : ℕ → (ℕ → ℕ → ℤ) → Type 0
IsFlat size cell = (a : ℕ) → a < size → pos 0 ≤ℤ cell a a

-- some variable is to be under itself
abbrev pub HasNegative : ℕ → (ℕ → ℕ → ℤ) → Type 0
HasNegative size cell = (a : ℕ) × (a < size) × (cell a a <ℤ pos 0)

-- A cell once the two cells of its ends and a variable between them were added, where both are stated: it is at most what it was
-- and at most their sum, and it is one of the two.
abbrev pub IsRelaxed : ℤ → ℤ → ℤ → ℤ → Type 0
IsRelaxed old x y new =
    (new ≤ℤ old)
    × (x ≢ no_bound → y ≢ no_bound → new ≤ℤ (x +ℤ y))
    × ((new ≡ old) ⊎ ((x ≢ no_bound) × (y ≢ no_bound) × (new ≡ x +ℤ y) × (new <ℤ old)))

-- each cell is relaxed by way of this variable
abbrev pub IsPivoted : ℕ → ℕ → (ℕ → ℕ → ℤ) → (ℕ → ℕ → ℤ) → Type 0
IsPivoted size p old new = (a b : ℕ) → a < size → b < size → IsRelaxed (old a b) (old a p) (old p b) (new a b)

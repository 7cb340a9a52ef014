-- Bounds on the differences of variables: how much one may be over another.
use Rattle.std.specs.Prelude.{◌≡◌, ◌≢◌, ℕ, ◌+◌, ◌*◌, ◌<◌, List, get_or, ℤ, pos, ◌-ℤ◌, ◌≤ℤ◌, ◌↔◌, ◌⊎◌}
use Rattle.std.specs.Int.{int_min}

-- the cell of two variables for which no bound is stated
abbrev pub no_bound : ℤ
no_bound = pos 9223372036854775807

-- the cell of two variables, where there are so many of them
abbrev pub cell_of : ℕ → List ℤ → ℕ → ℕ → ℤ
cell_of size cells a b = get_or cells (a * size + b) (pos 0)

-- Values meet all bounds: variable 0 is the constant 0, and a variable minus another is at most their cell.
abbrev pub IsSolution : ℕ → (ℕ → ℕ → ℤ) → (ℕ → ℤ) → Type 0
IsSolution size cell value =
    (value 0 ≡ pos 0)
    × ((a b : ℕ) → a < size → b < size → cell a b ≢ no_bound → (value a -ℤ value b) ≤ℤ cell a b)

-- both have the same solutions
abbrev pub HasSameSolutions : ℕ → (ℕ → ℕ → ℤ) → (ℕ → ℕ → ℤ) → Type 0
HasSameSolutions size old new = (value : ℕ → ℤ) → IsSolution size new value ↔ IsSolution size old value

-- no bound is stated but that a variable minus itself is at most 0
abbrev pub HaveNoBounds : ℕ → (ℕ → ℕ → ℤ) → Type 0
HaveNoBounds size cell =
    ((a : ℕ) → a < size → cell a a ≡ pos 0)
    × ((a b : ℕ) → a < size → b < size → a ≢ b → cell a b ≡ no_bound)

-- The bound of one variable over another is this one, where it is less, and all others are as they were.
abbrev pub IsBounded : ℕ → ℕ → ℕ → ℤ → (ℕ → ℕ → ℤ) → (ℕ → ℕ → ℤ) → Type 0
IsBounded size a b most old new =
    (new a b ≡ int_min (old a b) most)
    × ((i j : ℕ) → j < size → (i ≢ a) ⊎ (j ≢ b) → new i j ≡ old i j)

-- each variable has a lower bound: one of variable 0 over it
abbrev pub HasLeasts : ℕ → (ℕ → ℕ → ℤ) → Type 0
HasLeasts size cell = (a : ℕ) → a < size → cell 0 a ≢ no_bound

-- what is stated stays so, with this bound or with a lower one
abbrev pub StaysStated : ℕ → (ℕ → ℕ → ℤ) → (ℕ → ℕ → ℤ) → Type 0
StaysStated size old new = (a b : ℕ) → a < size → b < size → old a b ≢ no_bound → new a b ≢ no_bound

-- no cell is greater than it was
abbrev pub AreLess : ℕ → (ℕ → ℕ → ℤ) → (ℕ → ℕ → ℤ) → Type 0
AreLess size old new = (a b : ℕ) → a < size → b < size → new a b ≤ℤ old a b

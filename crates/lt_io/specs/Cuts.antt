-- The pieces in which an object in memory gives or takes bytes.
use Rattle.std.specs.Prelude.{ℕ, List, [], ◌∷◌, min, max}

-- the most bytes of the next piece, where there is room for so many: those of its cut, which is 1 at least
abbrev pub most_of : List ℕ → ℕ → ℕ
most_of [] space = space
most_of (cut ∷ cuts) space = min (max cut 1) space

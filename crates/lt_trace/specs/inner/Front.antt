-- What stands behind a front of a text.
use Rattle.std.specs.Prelude.{ℕ, Bool, true, false, ◌==◌, List, [], ◌∷◌, if◌then◌else◌, None, Some}
use Rattle.std.specs.declared.option.Option.{Option}

-- what stands behind this front, if the text begins so
abbrev pub behind : List ℕ → List ℕ → Option (List ℕ)
behind text [] = Some text
behind [] (b ∷ front) = None
behind (a ∷ text) (b ∷ front) = if a == b then behind text front else None

-- whether nothing stands behind it
abbrev pub is_over : Option (List ℕ) → Bool
is_over None = false
is_over (Some []) = true
is_over (Some (b ∷ rest)) = false

-- whether a text is another one
abbrev pub is_same : List ℕ → List ℕ → Bool
is_same text other = is_over (behind text other)

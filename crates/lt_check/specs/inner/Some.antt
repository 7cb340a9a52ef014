-- Whether there is something.
use Rattle.std.specs.Prelude.{Bool, true, false, List, [], ◌∷◌}

-- whether a list has something
abbrev pub is_some_of : {A : Type 0} → List A → Bool
is_some_of [] = false
is_some_of (x ∷ xs) = true

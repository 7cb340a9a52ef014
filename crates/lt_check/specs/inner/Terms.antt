-- Sets of terms, as lists.
use Rattle.std.specs.Prelude.{ℕ, Bool, false, ◌||◌, List, [], ◌∷◌, ◌++◌, if◌then◌else◌}
use Rattle.lt_term.specs.Process.{Process}
use Rattle.lt_same_term.specs.Alike.{alike}

-- whether a term is there
abbrev pub has : List (Process ℕ) → Process ℕ → Bool
has [] p = false
has (q ∷ qs) p = alike p q || has qs p

-- a set with a term more
abbrev pub with_one : List (Process ℕ) → Process ℕ → List (Process ℕ)
with_one qs p = if has qs p then qs else qs ++ p ∷ []

-- a set with some terms more
abbrev pub with_each : List (Process ℕ) → List (Process ℕ) → List (Process ℕ)
with_each qs [] = qs
with_each qs (p ∷ ps) = with_each (with_one qs p) ps

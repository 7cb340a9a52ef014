-- How many atoms the conjuncts of a constraint have.
use Rattle.std.specs.Prelude.{ℕ, Bool, not, nat_lt, List, [], ◌∷◌, ◌++◌, length, max, if◌then◌else◌}
use Rattle.std.specs.List.{list_any}
use Rattle.lt_formula.specs.Expression.{Expression}
use Rattle.lt_formula.specs.Kinds.{Kinds}
use Rattle.lt_parts.specs.Outline.{atoms_in, conjuncts_of}
use Rattle.lt_parts.specs.Same.{is_same}
use Rattle.lt_space.specs.Meaning.{is_known}

-- the most atoms that a conjunct may have in a scenario that is run
abbrev pub most_allowed : ℕ
most_allowed = 16

-- an expression behind others, unless it is among them
abbrev pub with_expression : List Expression → Expression → List Expression
with_expression found e = if list_any (is_same e) found then found else found ++ e ∷ []

-- the expressions that pass a test behind others, each once
abbrev pub with_expressions : (Expression → Bool) → List Expression → List Expression →
    List Expression
with_expressions test found [] = found
with_expressions test found (e ∷ es) =
    with_expressions test (if test e then with_expression found e else found) es

-- the atoms of a conjunct, each once: those that are known, and behind them the others
abbrev pub atoms_of : Kinds → Expression → List Expression
atoms_of kinds e =
    with_expressions (λ a. not (is_known kinds a))
    (with_expressions (is_known kinds) [] (atoms_in kinds e)) (atoms_in kinds e)

-- the greatest number of atoms of one of these conjuncts
abbrev pub most_atoms_in : Kinds → List Expression → ℕ
most_atoms_in kinds [] = 0
most_atoms_in kinds (e ∷ es) = max (length (atoms_of kinds e)) (most_atoms_in kinds es)

-- the greatest number of atoms of one conjunct of a constraint
abbrev pub most_atoms : Kinds → Expression → ℕ
most_atoms kinds e = most_atoms_in kinds (conjuncts_of kinds e)

-- whether one of its conjuncts has more atoms than it may
abbrev pub is_crowded : Kinds → Expression → Bool
is_crowded kinds e = nat_lt most_allowed (most_atoms kinds e)

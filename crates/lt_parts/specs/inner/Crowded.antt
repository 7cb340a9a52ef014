-- Parts of choices, with expressions in place of numbers, and constraints that passed.
use Rattle.std.specs.Prelude.{◌≡◌, ℕ, Bool, true, false, List, slice_index_or}
use Rattle.lt_formula.specs.Expression.{Expression}
use Rattle.lt_formula.specs.Table.{spelled}
use Rattle.lt_formula.specs.View.{table_expressions, table_kinds}
use Rattle.lt_formula.specs.declared.table.Table.{Table}
use Rattle.lt_parts.specs.Atoms.{is_crowded}
use Rattle.lt_parts.specs.Part.{at}
use Rattle.lt_term.specs.Process.{Choices, choices_with_constraints}
use Rattle.lt_term.specs.View.{choices}
use Rattle.lt_term.specs.declared.term.Term.{Term}

-- the parts of a choice, over a table
abbrev pub choices_over : Table → List (ℕ × Term) → Choices Expression
choices_over t parts = choices_with_constraints (spelled (table_expressions t)) (choices parts)

-- no constraint with a mark has a conjunct of too many atoms
abbrev pub HavePassed : Table → List Bool → Type 0
HavePassed t passed = (c : ℕ) → slice_index_or passed c false ≡ true → is_crowded (table_kinds t) (at t c) ≡ false

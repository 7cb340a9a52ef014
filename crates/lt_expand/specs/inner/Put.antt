-- Terms whose expressions are numbers of a table that grows.
use Rattle.std.specs.Prelude.{◌≡◌, ◌≤◌, ◌+◌, ℕ, true, nat_lt, List, [], ◌∷◌, ◌++◌, length}
use Rattle.std.specs.List.{All, Contains, flat_map}
use Rattle.lt_formula.specs.Expression.{Expression}
use Rattle.lt_formula.specs.Table.{Keeps, spelled}
use Rattle.lt_formula.specs.View.{table_expressions, table_kinds}
use Rattle.lt_formula.specs.declared.table.Table.{Table}
use Rattle.lt_macros.specs.Expanded.{Exception, Expanded, Parts, no_part, part}
use Rattle.lt_macros.specs.Tree.{expanded, placed}
use Rattle.lt_macros.specs.declared.tree.Part.{Part}
use Rattle.lt_expand.specs.Scenes.{choices_of, process_of}
use Rattle.lt_term.specs.Named.{expressions_in_each, parts_in, with_parts}
use Rattle.lt_term.specs.Process.{Process, Choices, choices_with_constraints, with_constraints}
use Rattle.lt_term.specs.Within.{Tests, passes, each_passes}

-- Each expression of a table has kept its number, and the variables are the same.
pub record IsGrown (old new : Table) : Type 0 where
  pub keeps : Keeps (table_expressions old) (table_expressions new)
  pub kinds : table_kinds new ≡ table_kinds old

-- A table has no other expressions than it had and these, and no more new ones than there are of these.
pub record IsFilled (old new more : List Expression) : Type 0 where
  pub only : All (Contains (old ++ more)) new
  pub few : length new ≤ length old + length more

-- whether constraints are among so many, and exceptions too
abbrev pub among : ℕ → ℕ → Tests ℕ
among expressions exceptions = record { constraint = λ c. nat_lt c expressions; exception = λ z. nat_lt z exceptions; local = λ x. true; counter = λ i. true }

-- A term over a table with these expressions is this trace, where exceptions have this order, and its numbers are there.
pub record IsTerm (es : List Expression) (zs : List Exception) (x : Expanded) (p : Process ℕ) : Type 0 where
  pub spells : with_constraints (spelled es) p ≡ process_of zs x
  pub within : passes (among (length es) (length zs)) p ≡ true

-- So are terms to choose from.
pub record AreChoices (es : List Expression) (zs : List Exception) (ps : Parts) (cs : Choices ℕ) : Type 0 where
  pub spells : choices_with_constraints (spelled es) cs ≡ choices_of zs ps
  pub within : each_passes (among (length es) (length zs)) cs ≡ true

-- A trace is put as this term: the table has kept what it had, and has no more new expressions than the trace has.
pub record IsPut (old new : Table) (zs : List Exception) (x : Expanded) (p : Process ℕ) : Type 0 where
  pub term : IsTerm (table_expressions new) zs x p
  pub grown : IsGrown old new
  pub filled : IsFilled (table_expressions old) (table_expressions new) (parts_in (process_of zs x))

-- the expressions of alternatives and all their parts, where exceptions have this order
abbrev pub parts_in_each : List Exception → Parts → List Expression
parts_in_each zs ps = flat_map with_parts (expressions_in_each (choices_of zs ps))

-- alternatives of the code
abbrev pub parts_from : List Part → Parts
parts_from [] = no_part
parts_from (p ∷ ps) = part (placed p.weight) (expanded p.body.value) (parts_from ps)

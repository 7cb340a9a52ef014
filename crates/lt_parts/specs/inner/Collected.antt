-- Numbers that are collected.
use Rattle.std.specs.Prelude.{◌≡◌, Bool, not, ℕ, nat_lt, IsTrue, List, map, ◌++◌, if◌then◌else◌}
use Rattle.std.specs.List.{list_all}
use Rattle.lt_formula.specs.Expression.{Expression}
use Rattle.lt_formula.specs.View.{table_len}
use Rattle.lt_formula.specs.declared.table.Table.{Table}
use Rattle.lt_parts.specs.Part.{at, is_known_at}

-- whether numbers are those of a table
abbrev pub are_within : Table → List ℕ → Bool
are_within t ns = list_all (λ n. nat_lt n (table_len t)) ns

-- The numbers of these expressions were put behind others.
pub record Collects (t : Table) (these : List Expression) (old new : List ℕ) : Type 0 where
  pub within : IsTrue (are_within t old) → IsTrue (are_within t new)
  pub spell : map (at t) new ≡ map (at t) old ++ these

-- whether an expression is of a class: known, or not
abbrev pub is_of_class : Bool → Table → ℕ → Bool
is_of_class b t n = if b then is_known_at t n else not (is_known_at t n)

-- Flags of numbers.
use Rattle.std.specs.Prelude.{◌≡◌, ◌<◌, ◌≤◌, ◌^◌, ℕ, List, length, slice_index_or}
use Rattle.std.specs.List.{Contains}
use Rattle.lt_formula.specs.Expression.{Expression}
use Rattle.lt_formula.specs.View.{table_len}
use Rattle.lt_formula.specs.declared.table.Table.{Table}
use Rattle.lt_parts.specs.Part.{at}
use Rattle.lt_space.specs.Formula.{Formula, atom}
use Rattle.lt_space.specs.declared.formula.Atom.TheVariants.{Flag}

-- a formula is the flag of a number: with its place among these
abbrev pub IsFlagAt : List ℕ → ℕ → Formula → Type 0
IsFlagAt atoms n f = (i : ℕ) × (i < length atoms) × (slice_index_or atoms i 0 ≡ n) × (f ≡ atom (Flag i))

-- A number has a flag among these: it is one of them, and each of their places is one that a flag may have.
pub record HasFlag (atoms : List ℕ) (n : ℕ) : Type 0 where
  pub few : length atoms ≤ 2 ^ 32
  pub among : Contains atoms n

-- Each number of one of these expressions has a flag among these numbers.
pub record HaveFlags (t : Table) (atoms : List ℕ) (these : List Expression) : Type 0 where
  pub few : length atoms ≤ 2 ^ 32
  pub among : (n : ℕ) → n < table_len t → Contains these (at t n) → Contains atoms n

-- Parts, and the diagrams of their conjuncts.
use Rattle.std.specs.Prelude.{◌≡◌, ℕ, List, length, IsTrue, ℤ}
use Rattle.lt_formula.specs.Expression.{Expression}
use Rattle.lt_formula.specs.declared.table.Table.{Table}
use Rattle.lt_diagram.specs.Flags.{are_flags, says}
use Rattle.lt_parts.specs.Agreement.{filled}
use Rattle.lt_parts.specs.Part.{IsPart, Piece}
use Rattle.lt_space.specs.Formula.{Formula, holds}

-- The conjunct of a part is a formula of flags below the number of the part's atoms.
abbrev pub PartsAreFlags : Type 0
PartsAreFlags =
    (t : Table) (e : Expression) (p : Piece) → IsPart t e p → IsTrue (are_flags (length p.atoms) p.conjunct)

-- A formula of flags with a formula in the place of each holds of values exactly where it is true with the truths that these
-- have there.
abbrev pub FilledHolds : Type 0
FilledHolds =
    (decimals : ℕ) (values : List ℤ) (put : ℕ → Formula) (below : ℕ) (f : Formula) → IsTrue (are_flags below f)
    → holds decimals values (filled put f) ≡ says (λ i. holds decimals values (put i)) f

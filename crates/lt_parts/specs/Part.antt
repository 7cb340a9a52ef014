-- The parts of a constraint: its conjuncts, each with its atoms.
use Rattle.std.specs.Prelude.{◌≡◌, ◌<◌, ℕ, Bool, not, nat_eq, nat_lt, IsTrue, List, [], ◌∷◌, ◌++◌, length, map, max, slice_index_or, if◌then◌else◌}
use Rattle.std.specs.List.{list_all, list_any}
use Rattle.lt_formula.specs.Expression.{Expression}
use Rattle.lt_formula.specs.Table.{HasEachOnce, spelled}
use Rattle.lt_formula.specs.View.{table_expressions, table_kinds, table_len}
use Rattle.lt_formula.specs.declared.table.Table.{Table}
use Rattle.lt_parts.specs.Atoms.{most_atoms}
use Rattle.lt_parts.specs.Outline.{Outlines, atoms_in, conjuncts_of}
use Rattle.lt_space.specs.Formula.{Formula, atom}
use Rattle.lt_space.specs.Meaning.{is_known}
use Rattle.lt_space.specs.declared.formula.Atom.TheVariants.{Flag}

-- a conjunct, with the numbers of its atoms, of which so many are known
pub record Piece : Type 0 where
  pub conjunct : Formula
  pub atoms : List ℕ
  pub known : ℕ

-- the expression of a number
abbrev pub at : Table → ℕ → Expression
at t n = spelled (table_expressions t) n

-- whether it is known
abbrev pub is_known_at : Table → ℕ → Bool
is_known_at t n = is_known (table_kinds t) (at t n)

-- a number behind others, unless it is among them
abbrev pub with_number : List ℕ → ℕ → List ℕ
with_number found n = if list_any (nat_eq n) found then found else found ++ n ∷ []

-- the numbers that pass a test behind others, each once
abbrev pub with_numbers : (ℕ → Bool) → List ℕ → List ℕ → List ℕ
with_numbers test found [] = found
with_numbers test found (n ∷ ns) = with_numbers test (if test n then with_number found n else found) ns

-- each of the numbers that are known once, as they occur first
abbrev pub known_numbers : Table → List ℕ → List ℕ
known_numbers t ns = with_numbers (is_known_at t) [] ns

-- and behind them the others
abbrev pub arranged : Table → List ℕ → List ℕ
arranged t ns = with_numbers (λ n. not (is_known_at t n)) (known_numbers t ns) ns

-- These numbers are those of expressions, one after another.
pub record AreNumbers (t : Table) (ns : List ℕ) (these : List Expression) : Type 0 where
  pub within : IsTrue (list_all (λ n. nat_lt n (table_len t)) ns)
  pub spell : map (at t) ns ≡ these

-- a formula is the flag of an atom: with the place of the atom's number among these
abbrev pub IsFlagOf : Table → List ℕ → Expression → Formula → Type 0
IsFlagOf t atoms e f = (i : ℕ) × (n : ℕ) × (i < length atoms) × (slice_index_or atoms i 0 ≡ n) × (n < table_len t) × (at t n ≡ e) × (f ≡ atom (Flag i))

-- A piece is the part for a conjunct: its atoms are those that occur in it, each once, the known ones first, and it outlines
-- the conjunct with a flag for each atom.
pub record IsPart (t : Table) (e : Expression) (piece : Piece) : Type 0 where
  pub numbers : List ℕ
  pub occur : AreNumbers t numbers (atoms_in (table_kinds t) e)
  pub atoms : piece.atoms ≡ arranged t numbers
  pub known : piece.known ≡ length (known_numbers t numbers)
  pub outlines : Outlines (IsFlagOf t piece.atoms) (table_kinds t) e piece.conjunct

-- pieces are the parts for conjuncts, one after another
abbrev pub AreParts : Table → List Expression → List Piece → Type 0
AreParts t [] [] = Unit {0}
AreParts t [] (p ∷ ps) = ⊥
AreParts t (e ∷ es) [] = ⊥
AreParts t (e ∷ es) (p ∷ ps) = IsPart t e p × AreParts t es ps

-- the greatest number of atoms of one piece
abbrev pub most_atoms_of : List Piece → ℕ
most_atoms_of [] = 0
most_atoms_of (p ∷ ps) = max (length p.atoms) (most_atoms_of ps)

-- The greatest number of atoms of one part of a constraint is that of one conjunct, where the table has each expression once.
abbrev pub PartsHaveItsAtoms : Type 0
PartsHaveItsAtoms = (t : Table) (e : Expression) (pieces : List Piece) →
    HasEachOnce (table_expressions t) → AreParts t (conjuncts_of (table_kinds t) e) pieces →
    most_atoms_of pieces ≡ most_atoms (table_kinds t) e

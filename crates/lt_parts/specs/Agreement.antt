-- What the parts of constraints say with what a space tells of their atoms, and that it is what the space's formula says.
use Rattle.std.specs.Prelude.{◌≡◌, ℕ, Bool, List, [], ◌∷◌, ◌++◌, map, Option, None, Some, Ok, slice_index_or}
use Rattle.lt_formula.specs.Expression.{Expression}
use Rattle.lt_formula.specs.Kinds.{Kinds}
use Rattle.lt_formula.specs.Valuation.{Valuation}
use Rattle.lt_formula.specs.View.{table_kinds}
use Rattle.lt_formula.specs.declared.table.Table.{Table}
use Rattle.lt_parts.specs.Outline.{conjuncts_of}
use Rattle.lt_parts.specs.Part.{AreParts, Piece, at}
use Rattle.lt_space.specs.Absorbed.{absorbed, conjuncts}
use Rattle.lt_space.specs.Formula.{Formula, atom, choice, conjunction, disjunction, exclusive, negation, truth}
use Rattle.lt_space.specs.LoadedView.{told_atom}
use Rattle.lt_space.specs.Meaning.{formula_of_all, joined}
use Rattle.lt_space.specs.SpaceView.{TellsEvaluated, space_formula, space_told, space_wanted}
use Rattle.lt_space.specs.declared.formula.Atom.{Atom}
use Rattle.lt_space.specs.declared.formula.Atom.TheVariants.{Flag, Compare}
use Rattle.lt_space.specs.declared.space.Space.{Space}

-- what is put in the place of an atom
abbrev pub put_for : (ℕ → Formula) → Atom → Formula
put_for put (Flag i) = put i
put_for put (Compare form relation) = atom (Compare form relation)

-- a formula with something in the place of each flag
abbrev pub filled : (ℕ → Formula) → Formula → Formula
filled put (truth b) = truth b
filled put (atom a) = put_for put a
filled put (negation f) = negation (filled put f)
filled put (conjunction f g) = conjunction (filled put f) (filled put g)
filled put (disjunction f g) = disjunction (filled put f) (filled put g)
filled put (exclusive f g) = exclusive (filled put f) (filled put g)
filled put (choice f g h) = choice (filled put f) (filled put g) (filled put h)

-- what is told of an atom, or a truth where it was skipped
abbrev pub told_or : Option Formula → Bool → Formula
told_or (Some f) b = f
told_or None b = truth b

-- the conjunct of a piece, with what is told of each of its atoms, and these truths for those that were skipped
abbrev pub filled_piece : (ℕ → Option Formula) → (ℕ → Bool) → Piece → Formula
filled_piece told choose piece = filled (λ i. told_or (told_atom (told (slice_index_or piece.atoms i 0))) (choose i)) piece.conjunct

-- formulas are the conjuncts of pieces, one after another, with what is told of their atoms, and some truths for those that were
-- skipped
abbrev pub AreFilled : (ℕ → Option Formula) → List Piece → List Formula → Type 0
AreFilled told [] [] = Unit {0}
AreFilled told [] (f ∷ fs) = ⊥
AreFilled told (p ∷ ps) [] = ⊥
AreFilled told (p ∷ ps) (f ∷ fs) = ((choose : ℕ → Bool) × (f ≡ filled_piece told choose p)) × AreFilled told ps fs

-- the conjuncts of a list of constraints, in its order
abbrev pub conjuncts_of_all : Kinds → List Expression → List Expression
conjuncts_of_all kinds [] = []
conjuncts_of_all kinds (e ∷ es) = conjuncts_of kinds e ++ conjuncts_of_all kinds es

-- Where constraints were loaded, their parts say what the space's formula says: what is told of each atom is put in the place of
-- its flag, and either truth for one that was skipped. Joined by `and`, and with truths absorbed, this has the conjuncts that the
-- space's formula has with truths absorbed.
abbrev pub PartsAgree : Type 0
PartsAgree = (v : Valuation) (t : Table) (s : Space) (pieces : List Piece) (formulas : List Formula) → TellsEvaluated v t s
    → Ok (space_formula s) ≡ formula_of_all v (table_kinds t) (map (at t) (space_wanted s)) → AreParts t (conjuncts_of_all (table_kinds t) (map (at t) (space_wanted s))) pieces
    → AreFilled (space_told s) pieces formulas → conjuncts (absorbed (joined formulas)) ≡ conjuncts (absorbed (space_formula s))

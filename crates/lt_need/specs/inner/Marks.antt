-- Atoms of formulas, and marks.
use Rattle.std.specs.Prelude.{◌≡◌, ℕ, suc, Bool, true, false, List, [], ◌∷◌, slice_index_or}
use Rattle.std.specs.List.{list_any}
use Rattle.lt_space.specs.Formula.{Formula, atom, choice, conjunction, disjunction, exclusive, negation, truth}
use Rattle.lt_space.specs.declared.formula.Atom.{Atom}

-- the atom that a formula is, if it is one
abbrev pub own_atoms : Formula → List Atom
own_atoms (truth b) = []
own_atoms (atom a) = a ∷ []
own_atoms (negation f) = []
own_atoms (conjunction f g) = []
own_atoms (disjunction f g) = []
own_atoms (exclusive f g) = []
own_atoms (choice f g h) = []

-- the same atoms, but for how often and where each stands
abbrev pub HaveSame : List Atom → List Atom → Type 0
HaveSame xs ys = (test : Atom → Bool) → list_any test xs ≡ list_any test ys

-- no mark is set
abbrev pub AreUnmarked : List Bool → Type 0
AreUnmarked marks = (n : ℕ) → slice_index_or marks n false ≡ false

-- how many marks are set
abbrev pub count_marks : List Bool → ℕ
count_marks [] = 0
count_marks (true ∷ marks) = suc (count_marks marks)
count_marks (false ∷ marks) = count_marks marks

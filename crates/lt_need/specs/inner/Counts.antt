-- Different atoms of gates.
use Rattle.std.specs.Prelude.{◌<◌, ℕ, Bool, true, false, ◌&&◌, List, [], ◌∷◌, ◌++◌, nat_le, slice_range, All}
use Rattle.std.specs.List.{list_any}
use Rattle.lt_linear.specs.Form.{Term}
use Rattle.lt_space.specs.Circuit.{formula_at}
use Rattle.lt_space.specs.Formula.{Formula}
use Rattle.lt_space.specs.declared.circuit.Gate.{Gate}
use Rattle.lt_space.specs.declared.circuit.Gate.TheVariants as gate
use Rattle.lt_space.specs.declared.formula.Atom.{Atom}
use Rattle.lt_space.specs.declared.formula.Atom.TheVariants.{Compare, Flag}
use Rattle.lt_need.specs.Need.{same_atom}
use Rattle.lt_need.specs.inner.Marks.{own_atoms}

-- numbers of some of so many gates
abbrev pub AreGates : ℕ → List ℕ → Type 0
AreGates count ns = All (λ n. n < count) ns

-- whether a gate is an atom
abbrev pub is_atom : Gate → Bool
is_atom (gate.Truth b) = false
is_atom (gate.Flag i) = true
is_atom (gate.Compare relation first after constant) = true
is_atom (gate.Not a) = false
is_atom (gate.And a b) = false
is_atom (gate.Or a b) = false
is_atom (gate.Xor a b) = false
is_atom (gate.If a b c) = false

-- whether its terms, if it has any, are among so many
abbrev pub is_within : ℕ → Gate → Bool
is_within count (gate.Truth b) = true
is_within count (gate.Flag i) = true
is_within count (gate.Compare relation first after constant) =
    nat_le first after && nat_le after count
is_within count (gate.Not a) = true
is_within count (gate.And a b) = true
is_within count (gate.Or a b) = true
is_within count (gate.Xor a b) = true
is_within count (gate.If a b c) = true

-- the atom that a gate over these terms is, if it is one
abbrev pub own_of : List Term → Gate → List Atom
own_of terms (gate.Truth b) = []
own_of terms (gate.Flag i) = Flag i ∷ []
own_of terms (gate.Compare relation first after constant) =
    Compare (record { terms = slice_range terms first after; constant = constant }) relation ∷ []
own_of terms (gate.Not a) = []
own_of terms (gate.And a b) = []
own_of terms (gate.Or a b) = []
own_of terms (gate.Xor a b) = []
own_of terms (gate.If a b c) = []

-- whether the first of these atoms is one of those
abbrev pub is_among : List Atom → List Atom → Bool
is_among [] bs = false
is_among (a ∷ more) bs = list_any (same_atom a) bs

-- the atoms of gates with these numbers
abbrev pub found_atoms : List Formula → List ℕ → List Atom
found_atoms formulas [] = []
found_atoms formulas (n ∷ ns) = own_atoms (formula_at formulas n) ++ found_atoms formulas ns

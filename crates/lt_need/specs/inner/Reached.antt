-- Gates that are reached from a gate.
use Rattle.std.specs.Prelude.{◌≡◌, ◌<◌, ◌⊎◌, ℕ, Bool, true, false, List, [], ◌∷◌, ◌++◌, length, slice_index_or, if◌then◌else◌}
use Rattle.std.specs.List.{list_any}
use Rattle.lt_space.specs.Circuit.{formula_at}
use Rattle.lt_space.specs.Formula.{Formula}
use Rattle.lt_space.specs.declared.circuit.Gate.{Gate}
use Rattle.lt_space.specs.declared.circuit.Gate.TheVariants as gate
use Rattle.lt_space.specs.declared.formula.Atom.{Atom}
use Rattle.lt_need.specs.Need.{atoms_of}
use Rattle.lt_need.specs.declared.faces.Face.{Face}
use Rattle.lt_need.specs.declared.faces.Face.TheVariants.{Known, Plain, Denied, Twice}
use Rattle.lt_need.specs.declared.gathering.Parts.{Parts}
use Rattle.lt_need.specs.declared.gathering.Parts.TheVariants.{Nothing, One, Two, Three}
use Rattle.lt_need.specs.inner.Faces.{absorbed_at, face_at}
use Rattle.lt_need.specs.inner.Marks.{count_marks, own_atoms}

-- one of a list
abbrev pub IsIn : {A : Type 0} → List A → A → Type 0
IsIn [] a = ⊥
IsIn (x ∷ xs) a = (x ≡ a) ⊎ IsIn xs a

-- parts as a list
abbrev pub parts_of : Parts → List ℕ
parts_of Nothing = []
parts_of (One a) = a ∷ []
parts_of (Two a b) = a ∷ b ∷ []
parts_of (Three a b c) = a ∷ b ∷ c ∷ []

-- those parts of an `if` that it comes down to
abbrev pub choice_parts : Face → ℕ → ℕ → ℕ → List ℕ
choice_parts (Known b) condition first second = (if b then first else second) ∷ []
choice_parts (Plain g) condition first second = condition ∷ first ∷ second ∷ []
choice_parts (Denied g) condition first second = condition ∷ first ∷ second ∷ []
choice_parts (Twice g) condition first second = condition ∷ first ∷ second ∷ []

-- those parts of a gate
abbrev pub gate_parts : List Face → Gate → List ℕ
gate_parts faces (gate.Truth b) = []
gate_parts faces (gate.Flag i) = []
gate_parts faces (gate.Compare relation first after constant) = []
gate_parts faces (gate.Not a) = a ∷ []
gate_parts faces (gate.And a b) = a ∷ b ∷ []
gate_parts faces (gate.Or a b) = a ∷ b ∷ []
gate_parts faces (gate.Xor a b) = a ∷ b ∷ []
gate_parts faces (gate.If a b c) = choice_parts (face_at faces a) a b c

-- those of a gate that stands for no truth; one that does has none
abbrev pub own_parts : Face → List Face → Gate → List ℕ
own_parts (Known b) faces g = []
own_parts (Plain h) faces g = gate_parts faces g
own_parts (Denied h) faces g = gate_parts faces g
own_parts (Twice h) faces g = gate_parts faces g

-- the gates that are reached are those with a mark
pub record AreReached (marks : List Bool) (reached : List ℕ) : Type 0 where
  pub marked : (n : ℕ) → slice_index_or marks n false ≡ true → IsIn reached n
  pub count : count_marks marks ≡ length reached

-- more gates are reached: all of these, and no others
pub record Reaches (before after parts : List ℕ) : Type 0 where
  pub more : List ℕ
  pub whole : after ≡ before ++ more
  pub all : (n : ℕ) → IsIn parts n → IsIn after n
  pub only : (n : ℕ) → IsIn more n → IsIn parts n

-- a list with more behind it
abbrev pub IsLonger : List ℕ → List ℕ → Type 0
IsLonger before after = (more : List ℕ) × (after ≡ before ++ more)

-- whether the formula of a number has an atom that passes a test, once its truths are absorbed
abbrev pub has_atom : List Formula → (Atom → Bool) → ℕ → Bool
has_atom formulas test n = list_any test (atoms_of (absorbed_at formulas n))

-- An atom of a number, once its truths are absorbed, is its own, or one of a lower number that is
-- reached.
abbrev pub IsSpread : List Formula → List ℕ → ℕ → Type 0
IsSpread formulas reached n =
    (test : Atom → Bool) → has_atom formulas test n ≡ true
    → (list_any test (own_atoms (formula_at formulas n)) ≡ true)
    ⊎ ((m : ℕ) × (m < n) × IsIn reached m × (has_atom formulas test m ≡ true))

-- the numbers that are reached have the same atoms as before
abbrev pub HaveSameAtoms : List Formula → List ℕ → List ℕ → Type 0
HaveSameAtoms formulas before after =
    (test : Atom → Bool)
    → list_any (has_atom formulas test) after ≡ list_any (has_atom formulas test) before

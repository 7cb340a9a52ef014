-- Laws of choices, their paths and reduced diagrams.
use Rattle.std.specs.Prelude.{◌≡◌, ◌<◌, ◌+◌, ℕ, suc, Bool, true, false, List, [], ◌∷◌, length, if◌then◌else◌}
use Rattle.lt_diagram.specs.Choice.{Choice, Path, is_same, paths_within, truth_of, truths}
use Rattle.lt_diagram.specs.DiagramView.{branches_of, diagram_choice, number_choice}
use Rattle.lt_diagram.specs.declared.diagram.Diagram.{Diagram}

-- truths begin with these
abbrev pub BeginWith : List Bool → (ℕ → Bool) → Type 0
BeginWith fixed told = (i : ℕ) → i < length fixed → told i ≡ truths fixed i

-- whether truths agree with a path at each of its atoms
abbrev pub agree : (ℕ → Bool) → Path → Bool
agree told [] = true
agree told (s ∷ p) = if is_same (told s.0) s.1 then agree told p else false

-- with how many of these paths truths agree
abbrev pub agreeing : (ℕ → Bool) → List Path → ℕ
agreeing told [] = 0
agreeing told (p ∷ ps) = if agree told p then suc (agreeing told ps) else agreeing told ps

-- Of the paths to true within fixed truths, truths that begin with these agree with exactly one where they make the choice true,
-- and with none where they don't.
abbrev pub OnePathAgrees : Type 0
OnePathAgrees =
    (fixed : List Bool) (told : ℕ → Bool) (c : Choice) → BeginWith fixed told
    → agreeing told (paths_within fixed c) ≡ (if truth_of told c then 1 else 0)

-- a path is none of these
abbrev pub IsNoneOf : Path → List Path → Type 0
IsNoneOf p [] = Unit {0}
IsNoneOf p (q ∷ qs) = (¬ (p ≡ q)) × IsNoneOf p qs

-- each path stands there once
abbrev pub EachOnce : List Path → Type 0
EachOnce [] = Unit {0}
EachOnce (p ∷ ps) = IsNoneOf p ps × EachOnce ps

-- The paths to true within fixed truths differ.
abbrev pub PathsDiffer : Type 0
PathsDiffer = (fixed : List Bool) (c : Choice) → EachOnce (paths_within fixed c)

-- Two numbers of a diagram that say the same under all truths are one number.
abbrev pub SayUnlike : Type 0
SayUnlike =
    (d : Diagram) (r s : ℕ) → r < length (branches_of d) + 2 → s < length (branches_of d) + 2
    → ((told : ℕ → Bool) → truth_of told (number_choice d r) ≡ truth_of told (number_choice d s)) → r ≡ s

-- So the diagram of what is true under all truths is the number 1, and that of what is false under all is 0.
abbrev pub ConstantsAreNumbers : Type 0
ConstantsAreNumbers =
    (d : Diagram) (b : Bool) → ((told : ℕ → Bool) → truth_of told (diagram_choice d) ≡ b)
    → d.root ≡ (if b then 1 else 0)

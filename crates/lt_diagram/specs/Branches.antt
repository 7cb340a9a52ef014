-- What the numbers of a list of branches stand for, and when branches are ordered and reduced.
use Rattle.std.specs.Prelude.{◌≡◌, ℕ, ◌+◌, ◌-◌, ◌<◌, ◌≤◌, List, [], ◌∷◌, ◌++◌, length, slice_index_or}
use Rattle.lt_diagram.specs.Choice.{Choice, never, always, ask}
use Rattle.lt_diagram.specs.declared.branch.Branch.{Branch}

-- a branch by its place
abbrev pub branch_at : List Branch → ℕ → Branch
branch_at nodes i = slice_index_or nodes i (record { atom = 0; no = 0; yes = 0 })

-- the choice of a number among these
abbrev pub choice_among : List Choice → ℕ → Choice
choice_among choices r = slice_index_or choices r never

-- the choice of a branch, whose sides are among these
abbrev pub choice_of_branch : List Choice → Branch → Choice
choice_of_branch choices b = ask b.atom (choice_among choices b.no) (choice_among choices b.yes)

-- these choices, and behind them those of the branches
abbrev pub with_branches : List Choice → List Branch → List Choice
with_branches choices [] = choices
with_branches choices (b ∷ bs) = with_branches (choices ++ choice_of_branch choices b ∷ []) bs

-- the choice that a number stands for: 0 is false, 1 is true, and i + 2 is the branch i
abbrev pub choice_at : List Branch → ℕ → Choice
choice_at nodes r = choice_among (with_branches (never ∷ always ∷ []) nodes) r

-- a number's atom, if it has one, is not below this one
abbrev pub IsFrom : ℕ → List Branch → ℕ → Type 0
IsFrom least nodes r = 2 ≤ r → least ≤ (branch_at nodes (r - 2)).atom

-- A side of the branch of this place: it stands before that, and its atom, if it has one, is greater.
pub record IsSide (nodes : List Branch) (i r : ℕ) : Type 0 where
  pub before : r < i + 2
  pub greater : IsFrom ((branch_at nodes i).atom + 1) nodes r

-- A branch has two sides, and these are not the same.
pub record IsSound (nodes : List Branch) (i : ℕ) : Type 0 where
  pub no : IsSide nodes i (branch_at nodes i).no
  pub yes : IsSide nodes i (branch_at nodes i).yes
  pub unlike : ¬ ((branch_at nodes i).no ≡ (branch_at nodes i).yes)

-- each branch is sound
abbrev pub AreSound : List Branch → Type 0
AreSound nodes = (i : ℕ) → i < length nodes → IsSound nodes i

-- no two branches are equal
abbrev pub AreOnce : List Branch → Type 0
AreOnce nodes = (i j : ℕ) → i < length nodes → j < length nodes → branch_at nodes i ≡ branch_at nodes j → i ≡ j

-- the atoms of branches are below this one
abbrev pub AreBelow : ℕ → List Branch → Type 0
AreBelow most nodes = (i : ℕ) → i < length nodes → (branch_at nodes i).atom < most

-- Choices by the truths of atoms, and their paths.
use Rattle.std.specs.Prelude.{◌≡◌, ℕ, Bool, true, false, nat_lt, ◌+◌, List, [], ◌∷◌, ◌++◌, map, filter, length, slice_index_or, Option, None, Some, if◌then◌else◌}

-- a choice by the truths of atoms, unfolded
pub data Choice : Type 0 where
  never : Choice
  always : Choice
  -- by the truth of an atom: the first where it is false, the second where it is true
  ask : ℕ → Choice → Choice → Choice

-- what a choice says under these truths of the atoms
abbrev pub truth_of : (ℕ → Bool) → Choice → Bool
truth_of truth never = false
truth_of truth always = true
truth_of truth (ask a n y) = if truth a then truth_of truth y else truth_of truth n

-- the truths of a list; an atom that has none there is false
abbrev pub truths : List Bool → ℕ → Bool
truths atoms a = slice_index_or atoms a false

-- a path through a choice: each atom that is asked on it, with its truth there
abbrev pub Path : Type 0
Path = List (ℕ × Bool)

-- these paths, behind an atom with its truth
abbrev pub behind : ℕ → Bool → List Path → List Path
behind a b paths = map (λ p. (a, b) ∷ p) paths

-- the paths to true through a choice, in the order false before true at each atom
abbrev pub paths_of : Choice → List Path
paths_of never = []
paths_of always = [] ∷ []
paths_of (ask a n y) = behind a false (paths_of n) ++ behind a true (paths_of y)

-- whether two truths are the same
abbrev pub is_same : Bool → Bool → Bool
is_same true b = b
is_same false true = false
is_same false false = true

-- whether fixed truths, of the atoms from 0 on, let an atom have a truth
abbrev pub allows : List Bool → ℕ → Bool → Bool
allows fixed a b = if nat_lt a (length fixed) then is_same (truths fixed a) b else true

-- whether a path agrees with fixed truths
abbrev pub agrees_with : List Bool → Path → Bool
agrees_with fixed [] = true
agrees_with fixed (s ∷ p) = if allows fixed s.0 s.1 then agrees_with fixed p else false

-- the paths to true that agree with fixed truths, in their order
abbrev pub paths_within : List Bool → Choice → List Path
paths_within fixed c = filter (agrees_with fixed) (paths_of c)

-- the path that places say, the first of which is this atom's: each atom that has a truth there, with it
abbrev pub steps_of : ℕ → List (Option Bool) → Path
steps_of from [] = []
steps_of from (None ∷ places) = steps_of (from + 1) places
steps_of from (Some b ∷ places) = (from, b) ∷ steps_of (from + 1) places

-- of the paths that are left a new one is the first, where one is given; and else none is left
abbrev pub Gives : Bool → List Path → Path → Type 0
Gives true left new = (rest : List Path) × (left ≡ new ∷ rest)
Gives false left new = left ≡ []

-- An old path is one of these, and of those behind it the new one is the first, where one is given; and else none is behind it.
pub record GivesNext (given : Bool) (paths : List Path) (old new : Path) : Type 0 where
  pub before : List Path
  pub after : List Path
  pub stands : paths ≡ before ++ old ∷ after
  pub gives : Gives given after new

-- A path is one of these.
pub record IsOneOf (paths : List Path) (path : Path) : Type 0 where
  pub before : List Path
  pub after : List Path
  pub stands : paths ≡ before ++ path ∷ after

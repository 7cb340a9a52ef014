-- Paths to true from one choice on, by its parts.
use Rattle.std.specs.Prelude.{◌≡◌, ◌<◌, ℕ, Bool, true, false, IsTrue, List, [], ◌∷◌, ◌++◌, Option, None, Some, if◌then◌else◌}
use Rattle.lt_diagram.specs.Choice.{Choice, Path, allows, always, ask, behind, never}

-- paths behind an atom with a truth, if fixed truths let it have that
abbrev pub ways_behind : List Bool → ℕ → Bool → List Path → List Path
ways_behind fixed a b ways = if allows fixed a b then behind a b ways else []

-- the paths to true that agree with fixed truths
abbrev pub ways : List Bool → Choice → List Path
ways fixed never = []
ways fixed always = [] ∷ []
ways fixed (ask a n y) = ways_behind fixed a false (ways fixed n) ++ ways_behind fixed a true (ways fixed y)

-- one of two, by a truth
abbrev pub Chosen : Bool → Type 0 → Type 0 → Type 0
Chosen false N Y = N
Chosen true N Y = Y

-- a path is one of these
abbrev pub IsWay : List Bool → Choice → Path → Type 0
IsWay fixed never s = ⊥
IsWay fixed always s = s ≡ []
IsWay fixed (ask a n y) [] = ⊥
IsWay fixed (ask a n y) (t ∷ s) = (t.0 ≡ a) × IsTrue (allows fixed a t.1) × Chosen t.1 (IsWay fixed n s) (IsWay fixed y s)

-- those that follow it
abbrev pub ways_after : List Bool → Choice → Path → List Path
ways_after fixed never s = []
ways_after fixed always s = []
ways_after fixed (ask a n y) [] = []
ways_after fixed (ask a n y) (t ∷ s) =
    if t.1 then behind a true (ways_after fixed y s) else behind a false (ways_after fixed n s) ++ ways_behind fixed a true (ways fixed y)

-- a choice doesn't ask this atom, nor one below it
abbrev pub StartsAfter : ℕ → Choice → Type 0
StartsAfter least never = Unit {0}
StartsAfter least always = Unit {0}
StartsAfter least (ask a n y) = least < a

-- the choice that is a truth
abbrev pub decided : Bool → Choice
decided true = always
decided false = never

-- whether a place has the truth true
abbrev pub is_yes : Option Bool → Bool
is_yes None = false
is_yes (Some b) = b

-- Instants whose searches a budget affords.
use Rattle.std.specs.Prelude.{◌≡◌, ◌≤◌, ℕ, false, List, All}
use Rattle.lt_draw.specs.declared.directions.Draw as rule
use Rattle.lt_num.specs.declared.value.Value.{Value}
use Rattle.lt_term.specs.Configuration.{Configuration}
use Rattle.lt_term.specs.Evaluated.{go}
use Rattle.lt_term.specs.Scene.{Scene}
use Rattle.lt_instant.specs.Instant.{Leaf, looked_in, may_give_up}
use Rattle.lt_instant.specs.Solved.{need_of}

-- the search at a leaf, if it has one, has a need within a budget
abbrev pub IsLeafWithin : Scene → ℕ → Leaf → Type 0
IsLeafWithin s budget (go f ls next) = need_of s ls f ≤ budget
IsLeafWithin s budget other = Unit {0}

-- so has each leaf at which the draw of an instant arrives
abbrev pub IsAffordable : Scene → ℕ → rule.Draw → ℕ → Configuration → List Value → Type 0
IsAffordable s seed draw budget c inputs =
    All (λ m. IsLeafWithin s budget m.outlook) (looked_in s seed draw c inputs)

-- Such an instant may not be given up.
abbrev pub AffordableInstantsAreNotGivenUp : Type 0
AffordableInstantsAreNotGivenUp =
    (s : Scene) (seed : ℕ) (draw : rule.Draw) (budget : ℕ) (c : Configuration)
    (inputs : List Value) →
    IsAffordable s seed draw budget c inputs → (need : ℕ) → may_give_up s seed draw budget c inputs need ≡ false

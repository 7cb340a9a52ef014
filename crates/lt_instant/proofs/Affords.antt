-- Instants whose searches a budget affords may not be given up.
use Rattle.std.proofs.Common.{◌≡◌, ◌≤◌, ℕ, Bool, true, false, nat_eq, nat_lt, List, [], ◌∷◌, All, refl, arith}
use Rattle.std.specs.Prelude.{◌&&◌, ◌||◌}
use Rattle.std.proofs.lemmas.Bool.Decides.{nat_tests}
use Rattle.std.proofs.lemmas.List.Elements.{All-head, All-tail}
use Rattle.std.specs.List.{list_any}
use Rattle.lt_formula.specs.Expression.{Expression}
use Rattle.lt_space.specs.Formula.{Formula}
use Rattle.lt_term.specs.Evaluated.{vanish, nothing, raised, faulty, go}
use Rattle.lt_term.specs.Process.{Process}
use Rattle.lt_term.specs.Scene.{Scene}
use Rattle.lt_instant.specs.Affordable.{AffordableInstantsAreNotGivenUp, IsLeafWithin}
use Rattle.lt_instant.specs.Drawn.{Met}
use Rattle.lt_instant.specs.Instant.{Leaf, has_need, looked_in}
use Rattle.lt_instant.specs.Solved.{need_of}

-- a need within the budget is no need over it
pub other_need : (budget need n : ℕ) → need ≤ budget → nat_lt budget n ≡ true → nat_eq need n ≡ false
other_need budget need n h k = grind (arith, nat_tests)

pub if_over : (a b : Bool) → (a ≡ true → b ≡ false) → a && b ≡ false
if_over true b h = h refl
if_over false b h = refl

neither : (a b : Bool) → a ≡ false → b ≡ false → a || b ≡ false
neither false b h k = k
neither true b h k = absurd (cc h)

module _ (s : Scene) (budget n : ℕ) (over : nat_lt budget n ≡ true) where
  other_leaf : (o : Leaf) → IsLeafWithin s budget o → has_need s n o ≡ false
  other_leaf (go f ls next) within = other_need budget (need_of s ls f) n within over
  other_leaf vanish within = refl
  other_leaf nothing within = refl
  other_leaf (raised z) within = refl
  other_leaf (faulty f) within = refl

  none_needs : (ms : List (Met Formula (Process Expression))) → All (λ m. IsLeafWithin s budget m.outlook) ms → list_any (λ m. has_need s n m.outlook) ms ≡ false
  none_needs [] within = refl
  none_needs (m ∷ ms) within =
      let P : Met Formula (Process Expression) → Type 0 = λ x. IsLeafWithin s budget x.outlook in
      neither (has_need s n m.outlook) (list_any (λ x. has_need s n x.outlook) ms) (other_leaf m.outlook (All-head P m ms within)) (none_needs ms (All-tail P m ms within))

pub affordable_instants_are_not_given_up : AffordableInstantsAreNotGivenUp
affordable_instants_are_not_given_up s seed draw budget c inputs within n =
    if_over (nat_lt budget n) (list_any (λ m. has_need s n m.outlook) (looked_in s seed draw c inputs)) (λ over. none_needs s budget n over (looked_in s seed draw c inputs) within)

-- Choices of all conjuncts.
use Rattle.std.specs.Prelude.{◌≡◌, ◌<◌, ℕ, zero, suc, ◌+◌, ◌*◌, List, [], ◌∷◌}
use Rattle.lt_space.specs.Absorbed.{conjuncts}
use Rattle.lt_space.specs.Formula.{Formula}
use Rattle.lt_need.specs.Need.{choices_in, choices_of}
use Rattle.lt_need.specs.declared.conjuncts.Split.{Split}
use Rattle.lt_need.specs.declared.conjuncts.Split.TheVariants.{Both, Same, Whole}
use Rattle.lt_need.specs.inner.Faces.{absorbed_at}

-- where their number stops: 3 to the power of it is past the greatest need
abbrev pub most_choices : ℕ
most_choices = 81

-- those of a number
abbrev pub choices_at : List Formula → ℕ → ℕ
choices_at formulas n = choices_of (conjuncts (absorbed_at formulas n))

-- what a split says of the choices of a number: those of others below it, or its own
abbrev pub IsSplit : List Formula → ℕ → Split → Type 0
IsSplit formulas n (Same g) = (g < n) × (choices_at formulas n ≡ choices_at formulas g)
IsSplit formulas n (Both a b) =
    (a < n) × (b < n) × (choices_at formulas n ≡ choices_at formulas a + choices_at formulas b)
IsSplit formulas n Whole = choices_at formulas n ≡ choices_in (absorbed_at formulas n)

-- the count of each number, as often as it is weighed
abbrev pub weighed : (ℕ → ℕ) → List ℕ → ℕ
weighed count [] = 0
weighed count (weight ∷ weights) = weight * count 0 + weighed (λ n. count (suc n)) weights

-- a weight of 1 at a number, and none below it
abbrev pub weighed_last : ℕ → List ℕ
weighed_last zero = 1 ∷ []
weighed_last (suc n) = 0 ∷ weighed_last n

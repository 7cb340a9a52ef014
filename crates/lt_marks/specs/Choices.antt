-- The weights of terms to choose from.
use Rattle.std.specs.Prelude.{List, [], ◌∷◌}
use Rattle.lt_term.specs.Process.{Choices, no_choice, choice}
use Rattle.lt_term.specs.Tree.{Weight, expression}

-- their weights, in their order
abbrev pub weights_in : {C : Type 0} → Choices C → List (Weight C)
weights_in no_choice = []
weights_in (choice w t cs) = expression w ∷ weights_in cs

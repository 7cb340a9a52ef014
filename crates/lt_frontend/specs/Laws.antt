-- What holds of every text.
use Rattle.std.specs.Prelude.{◌≡◌, ℕ, List, Option, Result}
use Rattle.lt_term.specs.Scene.{Scene}
use Rattle.lt_frontend.specs.Prepared.{IsPrintedAnswer, IsScenarioAnswer}
use Rattle.lt_frontend.specs.declared.refusal.Refusal.{Refusal}

-- A text has an answer as a scenario, and no other one.
abbrev pub TextsHaveOneScenarioAnswer : Type 0
TextsHaveOneScenarioAnswer =
    (decimals : ℕ) (node : Option (List ℕ)) (text : List ℕ) →
    ((answer : Result Scene Refusal) × IsScenarioAnswer decimals node text answer)
    × ((answer other : Result Scene Refusal) → IsScenarioAnswer decimals node text answer → IsScenarioAnswer decimals node text other → answer ≡ other)

-- A text has an answer in print, and no other one.
abbrev pub TextsHaveOnePrintedAnswer : Type 0
TextsHaveOnePrintedAnswer =
    (text : List ℕ) →
    ((answer : Result (List ℕ) Refusal) × IsPrintedAnswer text answer)
    × ((answer other : Result (List ℕ) Refusal) → IsPrintedAnswer text answer → IsPrintedAnswer text other → answer ≡ other)

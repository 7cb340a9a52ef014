-- What a run shows is legal, whatever its seed and its rule of drawing are.
use Rattle.std.specs.Prelude.{◌≡◌, ℕ, List, [], ◌∷◌, ◌++◌, Option}
use Rattle.lt_draw.specs.declared.directions.Draw.{Draw}
use Rattle.lt_num.specs.declared.fault.Arith.{Arith}
use Rattle.lt_num.specs.declared.value.Value.{Value}
use Rattle.lt_formula.specs.Domain.{IsDomain}
use Rattle.lt_term.specs.Configuration.{Configuration, first_configuration}
use Rattle.lt_term.specs.Scene.{Scene, Variable}
use Rattle.lt_trace.specs.Told.{Shown}
use Rattle.lt_trace.specs.declared.recorded.RecordedEnd.TheVariants as recorded
use Rattle.lt_instant.specs.Instant.{deadlock, fault, instant_of, normal, raise, values}
use Rattle.lt_legal.specs.Follows.{Follows, Reached, inputs_behind}
use Rattle.lt_legal.specs.LegalRun.{MayEnd}

-- each variable has a range that its kind may have
abbrev pub HaveDomains : List Variable → Type 0
HaveDomains [] = Unit {0}
HaveDomains (v ∷ vs) = IsDomain v.kind v.range × HaveDomains vs

-- Where an instant has values, the step that shows them follows, and it leads to where the run
-- stands then. What the controller answers plays no part.
abbrev pub InstantsFollow : Type 0
InstantsFollow =
    (s : Scene) (seed : ℕ) (draw : Draw) (c next : Configuration)
    (inputs outputs answer : List Value) (locals : List (Option Value)) →
    HaveDomains s.outputs → HaveDomains s.locals →
    instant_of s seed draw c inputs ≡ values outputs locals next →
    Follows s c inputs (record { outputs = outputs; inputs = answer; locals = locals }) next

-- Where an instant ends a run, that may be its end.
pub record InstantEnds
    (s : Scene) (seed : ℕ) (draw : Draw) (c : Configuration) (inputs : List Value) : Type 0 where
  pub over : instant_of s seed draw c inputs ≡ normal → MayEnd s c inputs recorded.Normal
  pub raised : (z : ℕ) → instant_of s seed draw c inputs ≡ raise z →
      MayEnd s c inputs (recorded.Raise z)
  pub faulty : (x : Arith) → instant_of s seed draw c inputs ≡ fault x →
      MayEnd s c inputs (recorded.Fault x)
  pub stuck : instant_of s seed draw c inputs ≡ deadlock → MayEnd s c inputs recorded.Deadlock

abbrev pub InstantsEnd : Type 0
InstantsEnd =
    (s : Scene) (seed : ℕ) (draw : Draw) (c : Configuration) (inputs : List Value) →
    InstantEnds s seed draw c inputs

-- A run of some instants: in each the inputs are those of the step before, whatever the controller
-- answers.
pub data Ran (s : Scene) (seed : ℕ) (draw : Draw) : List Shown → Configuration → Type 0 where
  begun : Ran s seed draw [] (first_configuration s)
  went_on : (steps : List Shown) (outputs answer : List Value) (locals : List (Option Value))
      (c next : Configuration) →
      Ran s seed draw steps c →
      instant_of s seed draw c (inputs_behind s steps) ≡ values outputs locals next →
      Ran s seed draw
      (steps ++ record { outputs = outputs; inputs = answer; locals = locals } ∷ []) next

-- What a run shows reaches where it stands.
abbrev pub RunsReach : Type 0
RunsReach =
    (s : Scene) (seed : ℕ) (draw : Draw) (steps : List Shown) (c : Configuration) →
    HaveDomains s.outputs → HaveDomains s.locals → Ran s seed draw steps c → Reached s steps c

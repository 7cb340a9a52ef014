-- Values of the kinds of their variables.
use Rattle.std.specs.Prelude.{◌≡◌, List, [], ◌∷◌, None, Some}
use Rattle.std.specs.declared.option.Option.{Option}
use Rattle.lt_num.specs.Range.{HasPoints}
use Rattle.lt_num.specs.Value.{raw_of, value_of}
use Rattle.lt_num.specs.declared.value.Value.{Value}
use Rattle.lt_term.specs.Scene.{Scene, Variable}
use Rattle.lt_trace.specs.Told.{Shown}

-- values are of the kinds of their variables, one for each
abbrev pub AreKinded : List Variable → List Value → Type 0
AreKinded [] [] = Unit {0}
AreKinded (v ∷ vs) (x ∷ xs) = (value_of v.kind (raw_of x) ≡ x) × AreKinded vs xs
AreKinded _ _ = ⊥

abbrev pub IsKindedLocal : Variable → Option Value → Type 0
IsKindedLocal v None = Unit {0}
IsKindedLocal v (Some x) = value_of v.kind (raw_of x) ≡ x

abbrev pub AreKindedLocals : List Variable → List (Option Value) → Type 0
AreKindedLocals [] [] = Unit {0}
AreKindedLocals (v ∷ vs) (y ∷ ys) = IsKindedLocal v y × AreKindedLocals vs ys
AreKindedLocals _ _ = ⊥

-- their ranges have points
abbrev pub HaveRanges : List Variable → Type 0
HaveRanges [] = Unit {0}
HaveRanges (v ∷ vs) = HasPoints v.range × HaveRanges vs

-- what a step shows is of the kinds of a scenario's variables, one value for each; and there is one for each input
pub record IsKindedStep (s : Scene) (step : Shown) : Type 0 where
  pub outputs : AreKinded s.outputs step.outputs
  pub inputs : AreKinded s.inputs step.inputs
  pub locals : AreKindedLocals s.locals step.locals

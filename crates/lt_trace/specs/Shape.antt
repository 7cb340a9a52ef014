-- What the lines of a scenario's trace may show.
use Rattle.std.specs.Prelude.{ℕ, List, [], ◌∷◌, ◌++◌, Some, None}
use Rattle.std.specs.declared.option.Option.{Option}
use Rattle.lt_num.specs.declared.kind.Kind.{Kind}
use Rattle.lt_num.specs.declared.value.Value.{Value}
use Rattle.lt_rif.specs.ReadBack.{Holds, HoldAll, kinds_of}
use Rattle.lt_rif.specs.Trace.{DeclaredVariable, spaced, step_words}
use Rattle.lt_rif.specs.declared.slot.Slot.{Slot}
use Rattle.lt_trace.specs.Told.{Shown}

-- what the header declares: the scenario's outputs, inputs and locals
pub record Declarations : Type 0 where
  pub outputs : List DeclaredVariable
  pub inputs : List DeclaredVariable
  pub locals : List DeclaredVariable

-- the shape of a scenario's traces
pub record Shape : Type 0 where
  -- the decimals of a real number
  pub decimals : ℕ
  pub declared : Declarations
  -- slots for the values of a step
  pub outputs : List Slot
  pub inputs : List Slot
  pub locals : List Slot
  -- the names of exceptions
  pub exceptions : List (List ℕ)

-- a slot may hold a local; one out of scope has no value
abbrev pub HoldLocal : Slot → Option Value → Type 0
HoldLocal slot None = Unit {0}
HoldLocal slot (Some v) = Holds slot v

-- slots may hold locals, in turn
abbrev pub HoldLocals : List Slot → List (Option Value) → Type 0
HoldLocals [] [] = Unit {0}
HoldLocals (slot ∷ slots) (v ∷ values) = HoldLocal slot v × HoldLocals slots values
HoldLocals slots values = ⊥

-- slots may hold what a step shows
pub record IsShown (shape : Shape) (step : Shown) : Type 0 where
  pub outputs : HoldAll shape.outputs step.outputs
  pub inputs : HoldAll shape.inputs step.inputs
  pub locals : HoldLocals shape.locals step.locals

-- the kinds of all variables, in the order of a step
abbrev pub kinds_in : Shape → List Kind
kinds_in shape = kinds_of shape.outputs ++ (kinds_of shape.inputs ++ kinds_of shape.locals)

-- the line of a step's values, without its line feed
abbrev pub shown_text : Shape → Shown → List ℕ
shown_text shape step =
    spaced (step_words shape.decimals (kinds_in shape) step.outputs step.inputs (Some step.locals))

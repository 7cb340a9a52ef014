-- Which steps may follow one another, whatever was drawn.
use Rattle.std.specs.Prelude.{◌≡◌, ℕ, true, false, List, [], ◌∷◌, ◌++◌, map, None, Some, ℤ, pos}
use Rattle.std.specs.declared.option.Option.{Option}
use Rattle.lt_num.specs.Value.{raw_of}
use Rattle.lt_num.specs.declared.value.Value.{Value}
use Rattle.lt_formula.specs.Expression.{Expression}
use Rattle.lt_formula.specs.Solution.{IsPointOf}
use Rattle.lt_loop.specs.Scene.{first_value}
use Rattle.lt_space.specs.Formula.{Formula}
use Rattle.lt_term.specs.Configuration.{Configuration, first_configuration}
use Rattle.lt_term.specs.Evaluated.{go}
use Rattle.lt_term.specs.Process.{Process}
use Rattle.lt_term.specs.Scene.{Scene, Variable}
use Rattle.lt_term.specs.Tree.{Lasts}
use Rattle.lt_trace.specs.Told.{Shown}
use Rattle.lt_instant.specs.Instant.{Leaf, is_too_large, judged, next_configuration}
use Rattle.lt_instant.specs.Legal.{IsLegalAt, outlook_at}
use Rattle.lt_instant.specs.Solved.{holds_of, locals_by, outputs_by, ranges_at, scoped}

-- the raw number of a local: 0 where it is out of scope
abbrev pub local_raw : Option Value → ℤ
local_raw None = pos 0
local_raw (Some v) = raw_of v

-- the raw numbers of all that is drawn, as a step shows them
abbrev pub shown_raws : Shown → List ℤ
shown_raws step = map raw_of step.outputs ++ map local_raw step.locals

-- An instant of a configuration, where these are its inputs, may take this leaf: the evaluated tree
-- has it, and no live leaf comes before it by priority.
abbrev pub MayTake : Scene → Configuration → List Value → Leaf → Type 0
MayTake s c inputs o =
    (position : ℕ) × (outlook_at (judged s c inputs) position ≡ Some o)
    × IsLegalAt s (judged s c inputs) position

-- A step shows values of an instant in which a formula holds and these locals are in scope: their
-- raw numbers are points of the ranges at which it holds, the values are those of the raw numbers,
-- and exactly the locals in scope have one.
pub record Shows (s : Scene) (step : Shown) (formula : Formula) (lasts : Lasts) : Type 0 where
  pub points : IsPointOf (ranges_at s lasts) (shown_raws step)
  pub holds : holds_of s formula (shown_raws step) ≡ true
  pub outputs : outputs_by s (shown_raws step) ≡ step.outputs
  pub locals : scoped lasts 0 (locals_by s (shown_raws step)) ≡ step.locals

-- A step leads from one configuration to another, where these are the inputs of the instant: what
-- is offered isn't too large, and the step shows values of some leaf that may be taken. Neither a
-- seed nor a rule of drawing plays a part.
pub record Follows
    (s : Scene) (c : Configuration) (inputs : List Value) (step : Shown) (g : Configuration) :
    Type 0 where
  pub formula : Formula
  pub lasts : Lasts
  pub next : Process Expression
  pub small : is_too_large s c ≡ false
  pub leaf : MayTake s c inputs (go formula lasts next)
  pub shows : Shows s step formula lasts
  pub next_is : g ≡ next_configuration s c inputs lasts next (shown_raws step)

-- the value that an input has before the first instant: the declared one, or else false, or the one
-- of its range nearest to 0
abbrev pub value_before_all : Variable → Value
value_before_all v = first_value v.kind (record { low = v.range.low; high = v.range.high }) v.first

-- the inputs of the first instant
abbrev pub inputs_before_all : Scene → List Value
inputs_before_all s = map value_before_all s.inputs

-- the inputs behind some steps, where these are those before them: what the last step shows
abbrev pub inputs_after : List Value → List Shown → List Value
inputs_after inputs [] = inputs
inputs_after inputs (step ∷ steps) = inputs_after step.inputs steps

-- the inputs of the instant behind some steps of a run
abbrev pub inputs_behind : Scene → List Shown → List Value
inputs_behind s steps = inputs_after (inputs_before_all s) steps

-- A configuration is reached by steps, each of which follows.
pub data Reached (s : Scene) : List Shown → Configuration → Type 0 where
  start : Reached s [] (first_configuration s)
  further : (steps : List Shown) (step : Shown) (c g : Configuration) → Reached s steps c →
      Follows s c (inputs_behind s steps) step g → Reached s (steps ++ step ∷ []) g

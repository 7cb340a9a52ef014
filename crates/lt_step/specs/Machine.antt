-- A machine of instants.
use Rattle.std.specs.Prelude.{◌≡◌, ℕ, Bool, true, false, List, [], None, Some}
use Rattle.std.specs.declared.option.Option.{Option}
use Rattle.lt_draw.specs.declared.directions.Draw.{Draw}
use Rattle.lt_num.specs.declared.value.Value.{Value}
use Rattle.lt_term.specs.Configuration.{Configuration, Reaction, first_configuration}
use Rattle.lt_term.specs.Scene.{Scene}
use Rattle.lt_instant.specs.Affordable.{IsAffordable}
use Rattle.lt_instant.specs.Instant.{Instant, values, normal, raise, deadlock, fault, too_large, instant_of, may_give_up}
use Rattle.lt_step.specs.declared.machine.Outcome.{Outcome}
use Rattle.lt_step.specs.declared.machine.Outcome.TheVariants as outcome

-- how many steps a machine makes at most
abbrev pub most_steps : ℕ
most_steps = 1_000_000

-- how far a machine is
pub data Phase : Type 0 where
  -- the run is here, the locals had these values in the last instant, and it makes the next one
  running : Configuration → List (Option Value) → Phase
  -- the run has ended
  finished : Phase

-- the state of a machine
pub record State : Type 0 where
  pub scene : Scene
  -- the seed of its words, and the rule by which it draws
  pub seed : ℕ
  pub draw : Draw
  -- only a search whose need is over it may be given up
  pub budget : ℕ
  pub phase : Phase

-- a machine that has not stepped
abbrev pub started : Scene → ℕ → ℕ → Draw → State
started s seed budget draw = record { scene = s; seed = seed; draw = draw; budget = budget; phase = running (first_configuration s) [] }

-- what one step answers, and what it makes of the machine
pub record Step : Type 0 where
  pub outcome : Outcome
  pub state : State

-- the last step of a run, which answers this
abbrev pub ended : State → Outcome → Step
ended m o = record { outcome = o; state = record m { phase = finished } }

-- the step that makes this instant
abbrev pub answered : State → Instant → Step
answered m (values outputs locals next) = record { outcome = outcome.Values; state = record m { phase = running next locals } }
answered m normal = ended m outcome.Normal
answered m (raise z) = ended m (outcome.Raise z)
answered m deadlock = ended m outcome.Deadlock
answered m (fault f) = ended m (outcome.Fault f)
answered m too_large = ended m outcome.TooLarge

-- a step in this phase: the next instant, or nothing more
abbrev pub step_in : State → Phase → List Value → Step
step_in m (running c locals) inputs = answered m (instant_of m.scene m.seed m.draw c inputs)
step_in m finished inputs = ended m outcome.Ended

-- the step of a machine by the rules, in which the inputs have these values
abbrev pub step_of : State → List Value → Step
step_of m inputs = step_in m m.phase inputs

-- whether the next instant may be given up with this need
abbrev pub may_give_up_in : State → Phase → List Value → ℕ → Bool
may_give_up_in m (running c locals) inputs n = may_give_up m.scene m.seed m.draw m.budget c inputs n
may_give_up_in m finished inputs n = false

abbrev pub may_give_up_next : State → List Value → ℕ → Bool
may_give_up_next m inputs n = may_give_up_in m m.phase inputs n

-- each leaf at which the draw of the next instant arrives has a need within the budget
abbrev pub CanAffordIn : State → Phase → List Value → Type 0
CanAffordIn m (running c locals) inputs = IsAffordable m.scene m.seed m.draw m.budget c inputs
CanAffordIn m finished inputs = Unit {0}

abbrev pub CanAfford : State → List Value → Type 0
CanAfford m inputs = CanAffordIn m m.phase inputs

-- A step of a machine answers this, and leaves it so: it is the step by the rules, or the next instant was given up.
abbrev pub IsStep : State → List Value → Outcome → State → Type 0
IsStep m inputs (outcome.Budget n) new = (may_give_up_next m inputs n ≡ true) × (new ≡ record m { phase = finished })
IsStep m inputs o new = record { outcome = o; state = new } ≡ step_of m inputs

-- what holds of the configuration of a machine that is running
abbrev pub IfRunning : Phase → (Configuration → Type 0) → Type 0
IfRunning (running c locals) P = P c
IfRunning finished P = Unit {0}

-- the outputs of an instant, none where there was none
abbrev pub outputs_of : Option Reaction → List Value
outputs_of None = []
outputs_of (Some reaction) = reaction.outputs

-- the outputs of the last instant, none before the first one and after the end
abbrev pub outputs_in : Phase → List Value
outputs_in (running c locals) = outputs_of c.previous
outputs_in finished = []

-- the locals of the last instant, likewise; one out of its scope has no value
abbrev pub locals_in : Phase → List (Option Value)
locals_in (running c locals) = locals
locals_in finished = []

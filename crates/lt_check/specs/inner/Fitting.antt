-- What may be sought in a scenario.
use Rattle.std.specs.Prelude.{◌≡◌, IsTrue, length}
use Rattle.std.specs.List.{list_all}
use Rattle.lt_linear.specs.Form.{is_raw}
use Rattle.lt_instant.specs.Solved.{drawn_ranges}
use Rattle.lt_term.specs.SceneView.{scene}
use Rattle.lt_term.specs.declared.scenario.Scenario.{Scenario}
use Rattle.lt_check.specs.declared.sought.Sought.{Sought}
use Rattle.lt_check.specs.declared.sought.Sought.TheVariants.{Fault, Free, Normal, Raise, Step}
use Rattle.lt_check.specs.declared.step.ShownStep.{ShownStep}

-- a step has a raw number for each output and local, no larger than numbers may be
pub record IsShownIn (s : Scenario) (step : ShownStep) : Type 0 where
  pub raws : IsTrue (list_all is_raw step.raws.items)
  pub all : length step.raws.items ≡ length (drawn_ranges (scene s))

-- what is sought may be in a scenario
abbrev pub IsSoughtIn : Scenario → Sought → Type 0
IsSoughtIn s (Step step) = IsShownIn s step.now
IsSoughtIn s Normal = Unit {0}
IsSoughtIn s (Raise exception) = Unit {0}
IsSoughtIn s (Fault fault) = Unit {0}
IsSoughtIn s Free = Unit {0}

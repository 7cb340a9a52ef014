-- What is asked.
use Rattle.lt_term.specs.declared.scenario.Scenario.{Scenario}
use Rattle.lt_instant.specs.declared.draw_context.DrawContext.{DrawContext}
use Rattle.lt_check.specs.declared.judge.Question.{Question}
use Rattle.lt_check.specs.declared.step.ShownStep.{ShownStep}

-- what is known in the instant
abbrev pub context_of : Question → DrawContext
context_of q = q.context.now

-- the scenario
abbrev pub scenario_of : Question → Scenario
scenario_of q = q.context.now.scenario.now

-- the step
abbrev pub step_of : Question → ShownStep
step_of q = q.step.now

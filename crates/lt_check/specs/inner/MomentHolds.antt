-- Which constraints hold of a step between two steps of a trace.
use Rattle.std.specs.Prelude.{ℕ, Bool, [], ◌∷◌}
use Rattle.lt_term.specs.Tree.{Lasts}
use Rattle.lt_instant.specs.inner.DrawContextView.{meaning_of}
use Rattle.lt_check.specs.declared.moment.Moment.{Moment}
use Rattle.lt_check.specs.declared.step.ShownStep.{ShownStep}
use Rattle.lt_check.specs.inner.MomentView.{moment_scene, moment_worth}
use Rattle.lt_check.specs.inner.QuestionView.{answer_holds}

-- whether a constraint holds where these locals are in scope
abbrev pub moment_holds : Moment → ShownStep → Lasts → ℕ → Bool
moment_holds m step ls c =
    answer_holds (moment_scene m) step.raws.items
    ((moment_worth m).formula ls (meaning_of m.scenario.now.table c ∷ []))

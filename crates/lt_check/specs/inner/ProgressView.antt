-- How far a check is.
use Rattle.std.specs.Prelude.{◌≡◌, ◌+◌, ℕ, Bool, true, false, IsTrue, List, Some, is_some, map, take}
use Rattle.lt_formula.specs.Expression.{Expression}
use Rattle.lt_legal.specs.Follows.{inputs_behind, shown_raws}
use Rattle.lt_legal.specs.Verdict.{IsVerdict, ReachSomeBefore}
use Rattle.lt_legal.specs.declared.halt.Halt.{Halt}
use Rattle.lt_legal.specs.declared.halt.Halt.TheVariants as halt
use Rattle.lt_term.specs.Configuration.{Configuration}
use Rattle.lt_term.specs.Process.{Process, dead}
use Rattle.lt_term.specs.SceneView.{numbers_of}
use Rattle.lt_term.specs.Within.{Tests, passes}
use Rattle.lt_trace.specs.Told.{Shown, Told}
use Rattle.lt_trace.specs.declared.recorded.RecordedEnd.{RecordedEnd}
use Rattle.lt_instant.specs.RunStateView.{configuration_behind}
use Rattle.lt_instant.specs.inner.DrawContextView.{meaning_of}
use Rattle.lt_check.specs.declared.moment.Moment.{Moment}
use Rattle.lt_check.specs.declared.progress.Progress.{Progress}
use Rattle.lt_check.specs.declared.progress.Stop.{Stop}
use Rattle.lt_check.specs.declared.progress.Stop.TheVariants as stop
use Rattle.lt_check.specs.inner.Members.{Has}
use Rattle.lt_check.specs.inner.MomentView.{IsEndingHalt, IsFollowingHalt, IsMomentHalt, ends_at, moment_scene}
use Rattle.lt_check.specs.inner.Reached.{AreAllNexts, AreNexts, AreTerms}
use Rattle.lt_check.specs.declared.step.ShownStep.{ShownStep}
use Rattle.lt_check.specs.inner.ShownPoints.{possible}
use Rattle.lt_check.specs.inner.SearcherView.{IsSearcherOf}
use Rattle.lt_check.specs.inner.TermSet.{terms_of}
use Rattle.lt_check.specs.inner.Wanted.{for_step}

-- what numbers of expressions stand for, and which numbers there are
abbrev pub moment_meaning : Moment → ℕ → Expression
moment_meaning m = meaning_of m.scenario.now.table

abbrev pub moment_numbers : Moment → Tests ℕ
moment_numbers m = numbers_of m.scenario.now

-- the numbers of some terms are the scenario's
abbrev pub ArePassing : Moment → List (Process ℕ) → Type 0
ArePassing m ps = (p : Process ℕ) → Has ps p → IsTrue (passes (moment_numbers m) p)

-- where a run stands behind a step
abbrev pub stand_behind : Moment → Shown → Configuration
stand_behind m step = record {
  process = dead;
  step = m.past.step + 1;
  previous = Some (record { inputs = m.inputs.items; outputs = step.outputs });
}

-- these follow some terms by a step ..
abbrev pub FollowSome : Moment → Shown → List (Process ℕ) → List (Process ℕ) → Type 0
FollowSome m step ps qs = AreNexts (moment_scene m) (moment_meaning m) (moment_numbers m) m.inputs.items step (configuration_behind m.past) (stand_behind m step) ps qs

-- .. and no others do
abbrev pub FollowAll : Moment → Shown → List (Process ℕ) → List (Process ℕ) → Type 0
FollowAll m step ps qs = AreAllNexts (moment_scene m) (moment_meaning m) (moment_numbers m) m.inputs.items step (configuration_behind m.past) (stand_behind m step) ps qs

-- a check can go on
pub record IsSound (p : Progress) : Type 0 where
  pub searches : IsSearcherOf p.moment.scenario.now p.searcher
  pub passing : ArePassing p.moment (terms_of p.terms.keys)

-- a check of a trace with this budget is behind so many steps
pub record IsBehind (t : Told) (budget k : ℕ) (p : Progress) : Type 0 where
  pub step : p.moment.past.step ≡ k + 1
  pub budget_is : p.moment.budget ≡ budget
  pub inputs : p.moment.inputs.items ≡ inputs_behind (moment_scene p.moment) (take k t.steps)
  pub terms : AreTerms (moment_scene p.moment) (moment_meaning p.moment) (moment_numbers p.moment) (take k t.steps) (configuration_behind p.moment.past) (terms_of p.terms.keys)
  pub before : ReachSomeBefore (moment_scene p.moment) t.steps (k + 1)

-- it ends with a verdict
abbrev pub IsStop : Moment → ℕ → Told → Stop → Type 0
IsStop m budget t stop.Memory = Unit {0}
IsStop m budget t (stop.Said verdict) = IsVerdict (moment_scene m) budget t verdict

-- some term of these halts a look for leaves that follow by a step
abbrev pub AreHaltedBy : Moment → ShownStep → List (Process ℕ) → Halt → Type 0
AreHaltedBy m step ps halt.Memory = Unit {0}
AreHaltedBy m step ps (halt.Over need) = (p : Process ℕ) × Has ps p × IsFollowingHalt m step p (halt.Over need)

abbrev pub IsStepHalt : Moment → Shown → List (Process ℕ) → Halt → Type 0
IsStepHalt m step ps halt.Memory = Unit {0}
IsStepHalt m step ps (halt.Over need) =
    (possible (moment_scene m) step ≡ true) ×
    ((p : Process ℕ) × Has ps p × IsMomentHalt m p (for_step (moment_scene m) (shown_raws step) (map is_some step.locals)) (halt.Over need))

-- whether some term of these may end
abbrev pub AreEnded : Moment → List (Process ℕ) → RecordedEnd → Bool → Type 0
AreEnded m ps e true = (p : Process ℕ) × Has ps p × (ends_at m p e ≡ true)
AreEnded m ps e false = (p : Process ℕ) → Has ps p → ends_at m p e ≡ false

-- some term of these halts a look at the end
abbrev pub IsEndHalt : Moment → List (Process ℕ) → RecordedEnd → Halt → Type 0
IsEndHalt m ps e halt.Memory = Unit {0}
IsEndHalt m ps e (halt.Over need) = (p : Process ℕ) × Has ps p × IsEndingHalt m p e (halt.Over need)

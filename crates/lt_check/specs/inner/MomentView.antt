-- What is known between two steps of a trace.
use Rattle.std.specs.Prelude.{◌≡◌, ℕ, nat_lt, Bool, true, false, not, List, [], if◌then◌else◌}
use Rattle.lt_formula.specs.Expression.{Expression}
use Rattle.lt_space.specs.Formula.{Formula}
use Rattle.lt_term.specs.Configuration.{Configuration}
use Rattle.lt_term.specs.Evaluated.{Worth}
use Rattle.lt_term.specs.Limits.{most_tree_nodes}
use Rattle.lt_term.specs.Offers.{TermTree, offers_of}
use Rattle.lt_term.specs.Process.{Process, with_constraints}
use Rattle.lt_term.specs.Scene.{Scene}
use Rattle.lt_term.specs.SceneView.{scene}
use Rattle.lt_term.specs.Tree.{flattened, size}
use Rattle.lt_term.specs.View.{kinds_of}
use Rattle.lt_trace.specs.declared.recorded.RecordedEnd.{RecordedEnd}
use Rattle.lt_trace.specs.declared.recorded.RecordedEnd.TheVariants as recorded
use Rattle.lt_legal.specs.declared.halt.Halt.{Halt}
use Rattle.lt_legal.specs.declared.halt.Halt.TheVariants as halt
use Rattle.lt_instant.specs.Instant.{worth_in}
use Rattle.lt_instant.specs.RunStateView.{configuration_behind}
use Rattle.lt_instant.specs.inner.DrawContextView.{meaning_of}
use Rattle.lt_check.specs.declared.moment.Moment.{Moment}
use Rattle.lt_check.specs.declared.step.ShownStep.{ShownStep}
use Rattle.lt_check.specs.inner.Finding.{IsHaltIn, TreeMayGiveUp, found_in, told_by}
use Rattle.lt_check.specs.inner.Followers.{nexts_by}
use Rattle.lt_check.specs.inner.Searches.{is_alive}
use Rattle.lt_check.specs.inner.Some.{is_some_of}
use Rattle.lt_check.specs.inner.Terms.{with_each}
use Rattle.lt_check.specs.inner.Wanted.{Wanted, for_fault, for_normal, for_raise, for_step}

-- the scenario, and what is known of the next instant
abbrev pub moment_scene : Moment → Scene
moment_scene m = scene m.scenario.now

abbrev pub moment_worth : Moment → Worth Expression Formula
moment_worth m = worth_in (moment_scene m) (configuration_behind m.past) m.inputs.items

-- where a run stands in which this is still to be done
abbrev pub standing : Moment → Process ℕ → Configuration
standing m p = record (configuration_behind m.past) { process = with_constraints (meaning_of m.scenario.now.table) p }

-- what a term offers: with numbers, and with expressions in their place
abbrev pub tree_at : Moment → Process ℕ → TermTree ℕ
tree_at m p = offers_of (kinds_of m.scenario.now.locals.items) p

abbrev pub meant_tree_at : Moment → Process ℕ → TermTree Expression
meant_tree_at m p = offers_of (kinds_of m.scenario.now.locals.items) (with_constraints (meaning_of m.scenario.now.table) p)

-- whether it is too large
abbrev pub is_large : Moment → Process ℕ → Bool
is_large m p = nat_lt most_tree_nodes (size (tree_at m p))

-- the terms that follow a term by a step
abbrev pub followers : Moment → ShownStep → Process ℕ → List (Process ℕ)
followers m step p =
    if is_large m p then [] else
    nexts_by step.locals.items (flattened (tree_at m p))
    (found_in (moment_scene m) (moment_worth m) (for_step (moment_scene m) step.raws.items step.marks.items) (meant_tree_at m p))

-- a set of terms has those that follow a term, too
abbrev pub IsFollowedBy : Moment → ShownStep → Process ℕ → List (Process ℕ) → List (Process ℕ) → Type 0
IsFollowedBy m step p old new = new ≡ with_each old (followers m step p)

-- what halts a look at a term for leaves
abbrev pub IsMomentHalt : Moment → Process ℕ → Wanted → Halt → Type 0
IsMomentHalt m p w halt.Memory = Unit {0}
IsMomentHalt m p w (halt.Over need) =
    (is_large m p ≡ false) × IsHaltIn (moment_scene m) (moment_worth m) m.budget (meant_tree_at m p) w (halt.Over need)

abbrev pub IsFollowingHalt : Moment → ShownStep → Process ℕ → Halt → Type 0
IsFollowingHalt m step p halt = IsMomentHalt m p (for_step (moment_scene m) step.raws.items step.marks.items) halt

-- whether some leaf that is wanted may be taken
abbrev pub finds_some : Moment → Process ℕ → Wanted → Bool
finds_some m p w = is_some_of (found_in (moment_scene m) (moment_worth m) w (meant_tree_at m p))

-- whether a run may end where it isn't too large what is offered
abbrev pub small_ends : Moment → Process ℕ → RecordedEnd → Bool
small_ends m p recorded.Normal = finds_some m p for_normal
small_ends m p (recorded.Raise z) = finds_some m p (for_raise (moment_scene m) z)
small_ends m p (recorded.Fault f) = finds_some m p (for_fault f)
small_ends m p recorded.Deadlock = not (told_by (moment_worth m) (is_alive (moment_scene m)) (meant_tree_at m p) 0)
small_ends m p recorded.Cut = true

-- whether a run may end
abbrev pub ends_at : Moment → Process ℕ → RecordedEnd → Bool
ends_at m p recorded.Cut = true
ends_at m p e = if is_large m p then false else small_ends m p e

-- what halts a look at the end
abbrev pub IsEndingHalt : Moment → Process ℕ → RecordedEnd → Halt → Type 0
IsEndingHalt m p recorded.Normal halt = IsMomentHalt m p for_normal halt
IsEndingHalt m p (recorded.Raise z) halt = IsMomentHalt m p (for_raise (moment_scene m) z) halt
IsEndingHalt m p (recorded.Fault f) halt = IsMomentHalt m p (for_fault f) halt
IsEndingHalt m p recorded.Deadlock halt.Memory = Unit {0}
IsEndingHalt m p recorded.Deadlock (halt.Over need) =
    (is_large m p ≡ false) × TreeMayGiveUp (moment_scene m) (moment_worth m) m.budget (meant_tree_at m p) 0 need
IsEndingHalt m p recorded.Cut halt.Memory = Unit {0}
IsEndingHalt m p recorded.Cut (halt.Over need) = ⊥

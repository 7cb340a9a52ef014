-- How far a search for instants is.
use Rattle.std.specs.Prelude.{◌≡◌, ◌+◌, ◌<◌, ◌++◌, ℕ, All, Bool, true, false, IsTrue, List, [], ◌∷◌, None, Some, map}
use Rattle.std.specs.declared.option.Option.{Option}
use Rattle.std.specs.List.{list_all, list_any}
use Rattle.lt_term.specs.Mapped.{node_passes}
use Rattle.lt_term.specs.Offers.{TermLeaf, TermTree}
use Rattle.lt_term.specs.SceneView.{numbers_of}
use Rattle.lt_term.specs.Tree.{flattened}
use Rattle.lt_term.specs.Unfolded.{going}
use Rattle.lt_term.specs.UnfoldingView.{Grows, IsWithin, instant_in, instants_in, tree_of}
use Rattle.lt_term.specs.declared.root.Later.{Later}
use Rattle.lt_term.specs.declared.unfolding.Unfolding.{Unfolding}
use Rattle.lt_instant.specs.declared.draw_context.DrawContext.{DrawContext}
use Rattle.lt_check.specs.declared.finder.Finder.{Finder}
use Rattle.lt_check.specs.declared.finder.Task.{Task}
use Rattle.lt_check.specs.declared.finder.Task.TheVariants as task
use Rattle.lt_check.specs.declared.step.ShownStep.{ShownStep}
use Rattle.lt_check.specs.inner.MemoView.{Tells}
use Rattle.lt_check.specs.inner.QuestionView.{constraint_holds, kinds_in, lives_in, step_leaves}
use Rattle.lt_check.specs.inner.Visited.{Todo, all_done, all_work, check, right, todo_work, tree_work, visit}

-- the tree of what is not unfolded yet
abbrev pub tree_in : DrawContext → Unfolding → Later → TermTree ℕ
tree_in m u l = tree_of (kinds_in m) u l

-- all numbers of a tree are the scenario's
abbrev pub NumbersPass : DrawContext → TermTree ℕ → Type 0
NumbersPass m t = IsTrue (list_all (node_passes (numbers_of m.scenario.now)) (flattened t))

-- what is not unfolded yet can be
pub record IsFit (m : DrawContext) (u : Unfolding) (l : Later) : Type 0 where
  pub within : IsWithin u l
  pub passes : NumbersPass m (tree_in m u l)

-- what is still to be done
abbrev pub todo_of : DrawContext → Unfolding → Task → Todo (TermTree ℕ)
todo_of m u (task.Visit tree) = visit (tree_in m u tree)
todo_of m u (task.Right left r n) = right (tree_in m u left) (tree_in m u r) n
todo_of m u (task.Check left n) = check (tree_in m u left) n

-- it can be done
abbrev pub TaskIsFit : DrawContext → Unfolding → Task → Type 0
TaskIsFit m u (task.Visit tree) = IsFit m u tree
TaskIsFit m u (task.Right left r n) = IsFit m u left × IsFit m u r
TaskIsFit m u (task.Check left n) = IsFit m u left

-- the leaves of instants by number
abbrev pub leaves_in : DrawContext → Unfolding → List ℕ → List (TermLeaf ℕ)
leaves_in m u ns = map (λ n. going (instant_in (kinds_in m) u n)) ns

-- A search can go on.
pub record IsFinding (m : DrawContext) (step : ShownStep) (f : Finder) : Type 0 where
  pub tasks : All (TaskIsFit m f.unfolded) f.tasks.items
  pub found : All (λ n. n < instants_in f.unfolded) f.found.items
  pub tells : Tells (constraint_holds m step) f.judge.memo

-- what is still to be done, the last of it first
abbrev pub todos_of : DrawContext → Finder → List (Todo (TermTree ℕ))
todos_of m f = map (todo_of m f.unfolded) f.tasks.items

-- what is found so far
abbrev pub found_of : DrawContext → Finder → List (TermLeaf ℕ)
found_of m f = leaves_in m f.unfolded f.found.items

-- what will be found, by what is still to be done and what is found so far
abbrev pub found_behind : DrawContext → ShownStep → List (Todo (TermTree ℕ)) → List (TermLeaf ℕ)
    → List (TermLeaf ℕ)
found_behind m step todos found = all_done (lives_in m) (step_leaves m step) todos found

-- how much work is left
abbrev pub work_left : DrawContext → Finder → ℕ
work_left m f = all_work (todo_work tree_work) (todos_of m f)

-- The search goes on behind a task: what will be found is the same, and less is left to be done.
pub record GoesOn (m : DrawContext) (step : ShownStep) (old new : Finder) (todo : Todo (TermTree ℕ))
    : Type 0 where
  pub ready : IsFinding m step new
  pub finds : found_behind m step (todos_of m new) (found_of m new) ≡
      found_behind m step (todos_of m old ++ todo ∷ []) (found_of m old)
  pub falls : work_left m new < work_left m old + todo_work tree_work todo

-- it does, or it was given up
abbrev pub GoesOnIf : DrawContext → ShownStep → Finder → Finder → Todo (TermTree ℕ) → Bool → Type 0
GoesOnIf m step old new todo done = done ≡ true → GoesOn m step old new todo

-- the trees that may live
abbrev pub waiting_in : DrawContext → Finder → List (TermTree ℕ)
waiting_in m f = map (tree_in m f.unfolded) f.waiting.items

-- these trees stand for another one, of which they are parts
pub record IsSplit (m : DrawContext) (t : TermTree ℕ) (below : List (TermTree ℕ)) : Type 0 where
  pub lives : list_any (lives_in m) below ≡ lives_in m t
  pub falls : all_work tree_work below < tree_work t

-- A tree lives; or none of it does but what the trees below it do, which wait; or it isn't known.
abbrev pub IsLifeOf : DrawContext → TermTree ℕ → Finder → Finder → Option Bool → Type 0
IsLifeOf m t old new None = Unit {0}
IsLifeOf m t old new (Some true) = lives_in m t ≡ true
IsLifeOf m t old new (Some false) = (below : List (TermTree ℕ)) × IsSplit m t below ×
    (waiting_in m new ≡ waiting_in m old ++ below) × All (IsFit m new.unfolded) new.waiting.items

-- what is found and what is to be done are as they were
pub record Stays (old new : Finder) : Type 0 where
  pub tasks : new.tasks.items ≡ old.tasks.items
  pub found : new.found.items ≡ old.found.items
  pub memo : new.judge.memo ≡ old.judge.memo
  pub grows : Grows old.unfolded new.unfolded

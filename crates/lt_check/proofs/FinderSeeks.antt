-- A search for instants, task by task, to its end.
use Rattle.std.proofs.Common.{◌≡◌, ◌∙◌, ◌<◌, ℕ, ◌+◌, List, [], ◌∷◌, ◌++◌, map, ap, arith, subst, sym}
use Rattle.std.specs.Prelude.{All}
use Rattle.std.proofs.lemmas.List.{map-append}
use Rattle.lt_term.specs.Offers.{TermLeaf, TermTree}
use Rattle.lt_term.specs.UnfoldingView.{instants_in}
use Rattle.lt_term.specs.declared.root.Later.{Later}
use Rattle.lt_instant.specs.declared.draw_context.DrawContext.{DrawContext}
use Rattle.lt_check.specs.declared.finder.Finder.{Finder}
use Rattle.lt_check.specs.declared.finder.Task.{Task}
use Rattle.lt_check.specs.declared.finder.Task.TheVariants as task
use Rattle.lt_check.specs.declared.step.ShownStep.{ShownStep}
use Rattle.lt_check.specs.inner.FinderView.{IsFinding, IsFit, TaskIsFit, found_behind, found_of, leaves_in, todo_of, todos_of, tree_in, work_left}
use Rattle.lt_check.specs.inner.MemoView.{Tells}
use Rattle.lt_check.specs.inner.QuestionView.{constraint_holds, step_leaves}
use Rattle.lt_check.specs.inner.Visited.{all_work, todo_work, tree_work}
use Rattle.lt_check.proofs.Finders.{front, last, only_one}
use Rattle.lt_check.proofs.VisitedParts.{work_append}

module _ (m : DrawContext) (step : ShownStep) where
  -- how far a search is: what will be found is all that is to be found
  pub record Seeks (now : Finder) (all : List (TermLeaf ℕ)) : Type 0 where
    pub ready : IsFinding m step now
    pub finds : found_behind m step (todos_of m now) (found_of m now) ≡ all

  -- before its first task
  pub seeks_first : (now : Finder) (tree : Later) (whole : TermTree ℕ) → now.tasks.items ≡ task.Visit tree ∷ [] → now.found.items ≡ [] → Tells (constraint_holds m step) now.judge.memo → IsFit m now.unfolded tree → tree_in m now.unfolded tree ≡ whole → Seeks now (step_leaves m step whole)
  seeks_first now tree whole ts f tells fit is = record {
    ready = record {
      tasks = subst (All (TaskIsFit m now.unfolded)) (sym ts) (only_one (TaskIsFit m now.unfolded) (task.Visit tree) fit);
      found = subst (All (λ n. n < instants_in now.unfolded)) (sym f) (λ k d l. absurd (omega (arith, l)));
      tells = tells;
    };
    finds = (λ i. found_behind m step (map (todo_of m now.unfolded) (ts i)) (leaves_in m now.unfolded (f i))) ∙ ap (step_leaves m step) is;
  }

  module _ (now : Finder) (all : List (TermLeaf ℕ)) (s : Seeks now all) (popped : List Task) (task : Task) (e : now.tasks.items ≡ popped ++ task ∷ []) where
    todos_are : todos_of m now ≡ map (todo_of m now.unfolded) popped ++ todo_of m now.unfolded task ∷ []
    todos_are = ap (map (todo_of m now.unfolded)) e ∙ map-append (todo_of m now.unfolded) popped (task ∷ [])

    pub tasks_left : All (TaskIsFit m now.unfolded) popped
    tasks_left = front (TaskIsFit m now.unfolded) popped now.tasks.items task e s.ready.tasks

    pub task_fits : TaskIsFit m now.unfolded task
    task_fits = last (TaskIsFit m now.unfolded) popped now.tasks.items task e s.ready.tasks

    pub seeks_on : (new : Finder) → IsFinding m step new → found_behind m step (todos_of m new) (found_of m new) ≡ found_behind m step (map (todo_of m now.unfolded) popped ++ todo_of m now.unfolded task ∷ []) (found_of m now) → Seeks new all
    seeks_on new ready finds = record { ready = ready; finds = finds ∙ ap (λ ts. found_behind m step ts (found_of m now)) (sym todos_are) ∙ s.finds }

    pub seeks_less : (new : Finder) → work_left m new < all_work (todo_work tree_work) (map (todo_of m now.unfolded) popped) + todo_work tree_work (todo_of m now.unfolded task) → work_left m new < work_left m now
    seeks_less new less =
        let w = ap (all_work (todo_work tree_work)) todos_are ∙ work_append (todo_work tree_work) (map (todo_of m now.unfolded) popped) (todo_of m now.unfolded task ∷ []) in
        omega (arith, w, less)

  -- where nothing is to be done any more
  pub seeks_ended : (now : Finder) (all : List (TermLeaf ℕ)) → Seeks now all → now.tasks.items ≡ [] → found_of m now ≡ all
  seeks_ended now all s e = ap (λ (ts : List Task). found_behind m step (map (todo_of m now.unfolded) ts) (found_of m now)) (sym e) ∙ s.finds

-- A search for instants, a step at a time.
use Rattle.std.proofs.Common.{◌≡◌, ◌∙◌, ◌<◌, ℕ, zero, suc, ◌+◌, List, [], ◌∷◌, ◌++◌, map, take, ap, arith, refl, subst, sym}
use Rattle.std.specs.Prelude.{All}
use Rattle.std.proofs.lemmas.List.{map-append}
use Rattle.std.proofs.lemmas.List.Elements.{All-append}
use Rattle.lt_term.specs.Mapped.{node_passes}
use Rattle.lt_term.specs.Offers.{TermLeaf, TermTree}
use Rattle.lt_term.specs.SceneView.{numbers_of}
use Rattle.lt_term.specs.UnfoldingView.{Grows, IsWithin, instant_in, instants_in}
use Rattle.lt_term.specs.Unfolded.{going}
use Rattle.lt_term.specs.declared.root.Later.{Later}
use Rattle.lt_term.specs.declared.unfolding.Unfolding.{Unfolding}
use Rattle.lt_instant.specs.declared.draw_context.DrawContext.{DrawContext}
use Rattle.lt_check.specs.declared.finder.Finder.{Finder}
use Rattle.lt_check.specs.declared.finder.Task.{Task}
use Rattle.lt_check.specs.declared.step.ShownStep.{ShownStep}
use Rattle.lt_check.specs.inner.FinderView.{GoesOn, IsFinding, IsFit, TaskIsFit, found_behind, found_of, leaves_in, todo_of, todos_of, tree_in, work_left}
use Rattle.lt_check.specs.inner.MemoView.{Tells}
use Rattle.lt_check.specs.inner.QuestionView.{constraint_holds, is_step, kinds_in, lives_in, number_sight, number_worth}
use Rattle.lt_check.specs.inner.TaskView.{visit_task}
use Rattle.lt_check.specs.inner.Visited.{Todo, all_work, todo_work, tree_work, visit}
use Rattle.lt_check.proofs.Finders.{found_kept, leaves_kept, tasks_kept, todos_kept}
use Rattle.lt_check.proofs.VisitedParts.{EachPasses}
use Rattle.lt_check.proofs.VisitedSteps.{Goes}

-- a task is done in a search
module _ (m : DrawContext) (step : ShownStep) (old new : Finder) (was : IsFinding m step old) (g : Grows old.unfolded new.unfolded) (tells : Tells (constraint_holds m step) new.judge.memo) where
  abbrev pub Goes_to : List (Todo (TermTree ℕ)) → List (TermLeaf ℕ) → Todo (TermTree ℕ) → Type 0
  Goes_to todos found todo = Goes (number_worth m) (number_sight m (is_step m step)) (lives_in m) (todos_of m old) todos (found_of m old) found todo

  same_todos : new.tasks.items ≡ old.tasks.items → todos_of m new ≡ todos_of m old
  same_todos t = ap (map (todo_of m new.unfolded)) t ∙ todos_kept m old.unfolded new.unfolded g old.tasks.items was.tasks

  same_found : new.found.items ≡ old.found.items → found_of m new ≡ found_of m old
  same_found f = ap (leaves_in m new.unfolded) f ∙ leaves_kept m old.unfolded new.unfolded g old.found.items was.found

  goes : (todos : List (Todo (TermTree ℕ))) (found : List (TermLeaf ℕ)) (todo : Todo (TermTree ℕ)) → IsFinding m step new → todos_of m new ≡ todos → found_of m new ≡ found → Goes_to todos found todo → GoesOn m step old new todo
  goes todos found todo ready t f s = record {
    ready = ready;
    finds = (λ i. found_behind m step (t i) (f i)) ∙ s.finds;
    falls = subst (λ ts. all_work (todo_work tree_work) ts < work_left m old + todo_work tree_work todo) (sym t) s.falls;
  }

  -- more is to be done
  pub with_more : (more : List Task) (todo : Todo (TermTree ℕ)) → new.tasks.items ≡ old.tasks.items ++ more → All (TaskIsFit m new.unfolded) more → new.found.items ≡ old.found.items
      → Goes_to (todos_of m old ++ map (todo_of m new.unfolded) more) (found_of m old) todo → GoesOn m step old new todo
  with_more more todo t fit f s =
      goes (todos_of m old ++ map (todo_of m new.unfolded) more) (found_of m old) todo
      (record {
        tasks = subst (All (TaskIsFit m new.unfolded)) (sym t) (All-append (TaskIsFit m new.unfolded) old.tasks.items more (tasks_kept m old.unfolded new.unfolded g old.tasks.items was.tasks) fit);
        found = subst (All (λ n. n < instants_in new.unfolded)) (sym f) (found_kept m old.unfolded new.unfolded g old.found.items was.found);
        tells = tells;
      })
      (ap (map (todo_of m new.unfolded)) t ∙ map-append (todo_of m new.unfolded) old.tasks.items more ∙ ap (λ ts. ts ++ map (todo_of m new.unfolded) more) (todos_kept m old.unfolded new.unfolded g old.tasks.items was.tasks))
      (same_found f) s

  -- other instants are found
  pub with_found : (ns : List ℕ) (todo : Todo (TermTree ℕ)) → new.tasks.items ≡ old.tasks.items → new.found.items ≡ ns → All (λ n. n < instants_in new.unfolded) ns
      → Goes_to (todos_of m old) (leaves_in m new.unfolded ns) todo → GoesOn m step old new todo
  with_found ns todo t f w s =
      goes (todos_of m old) (leaves_in m new.unfolded ns) todo
      (record {
        tasks = subst (All (TaskIsFit m new.unfolded)) (sym t) (tasks_kept m old.unfolded new.unfolded g old.tasks.items was.tasks);
        found = subst (All (λ n. n < instants_in new.unfolded)) (sym f) w;
        tells = tells;
      })
      (same_todos t) (ap (leaves_in m new.unfolded) f) s

  -- nothing changes but what is unfolded
  pub still_ready : new.tasks.items ≡ old.tasks.items → new.found.items ≡ old.found.items → IsFinding m step new
  still_ready t f = record {
    tasks = subst (All (TaskIsFit m new.unfolded)) (sym t) (tasks_kept m old.unfolded new.unfolded g old.tasks.items was.tasks);
    found = subst (All (λ n. n < instants_in new.unfolded)) (sym f) (found_kept m old.unfolded new.unfolded g old.found.items was.found);
    tells = tells;
  }

  pub with_same : (todo : Todo (TermTree ℕ)) → new.tasks.items ≡ old.tasks.items → new.found.items ≡ old.found.items → Goes_to (todos_of m old) (found_of m old) todo → GoesOn m step old new todo
  with_same todo t f s = goes (todos_of m old) (found_of m old) todo (still_ready t f) (same_todos t) (same_found f) s

  -- what goes on from there goes on from here
  pub goes_further : (last : Finder) (todo here : Todo (TermTree ℕ)) → new.tasks.items ≡ old.tasks.items → new.found.items ≡ old.found.items → todo ≡ here → GoesOn m step new last todo → GoesOn m step old last here
  goes_further last todo here t f e s = record {
    ready = s.ready;
    finds = s.finds ∙ (λ i. found_behind m step (same_todos t i ++ e i ∷ []) (same_found f i));
    falls = subst (λ x. work_left m last < all_work (todo_work tree_work) (todos_of m old) + todo_work tree_work x) e (subst (λ ts. work_left m last < all_work (todo_work tree_work) ts + todo_work tree_work todo) (same_todos t) s.falls);
  }

-- ---- trees that wait

-- they can be unfolded, where they are there and their numbers are the scenario's
pub each_fit : (m : DrawContext) (u : Unfolding) (ls : List Later) (ts : List (TermTree ℕ)) → map (tree_in m u) ls ≡ ts → All (IsWithin u) ls → EachPasses (node_passes (numbers_of m.scenario.now)) ts → All (IsFit m u) ls
each_fit m u ls ts e w p = fit_of ls w (subst (EachPasses (node_passes (numbers_of m.scenario.now))) (sym e) p)
  where
    fit_of : (ls : List Later) → All (IsWithin u) ls → EachPasses (node_passes (numbers_of m.scenario.now)) (map (tree_in m u) ls) → All (IsFit m u) ls
    fit_of [] w p k d l = absurd (omega (arith, l))
    fit_of (x ∷ xs) w p zero d l = record { within = w 0 d (omega arith); passes = p.0 }
    fit_of (x ∷ xs) w p (suc k) d l = fit_of xs (λ j f n. w (suc j) f (omega (arith, n))) p.1 k d (omega (arith, l))

pub visits_fit : (m : DrawContext) (u : Unfolding) (ls : List Later) → All (IsFit m u) ls → All (TaskIsFit m u) (map visit_task ls)
visits_fit m u [] h k d l = absurd (omega (arith, l))
visits_fit m u (x ∷ xs) h zero d l = h 0 x (omega arith)
visits_fit m u (x ∷ xs) h (suc k) d l = visits_fit m u xs (λ j f n. h (suc j) f (omega (arith, n))) k d (omega (arith, l))

pub visits_todo : (m : DrawContext) (u : Unfolding) (ls : List Later) → map (todo_of m u) (map visit_task ls) ≡ map visit (map (tree_in m u) ls)
visits_todo m u [] = refl
visits_todo m u (x ∷ xs) = ap (λ ts. visit (tree_in m u x) ∷ ts) (visits_todo m u xs)

pub taken_leaves : (m : DrawContext) (u : Unfolding) (n : ℕ) (ns : List ℕ) → leaves_in m u (take n ns) ≡ take n (leaves_in m u ns)
taken_leaves m u zero ns = refl
taken_leaves m u (suc n) [] = refl
taken_leaves m u (suc n) (x ∷ xs) = ap (λ ls. going (instant_in (kinds_in m) u x) ∷ ls) (taken_leaves m u n xs)

pub all_taken : {A : Type 0} (P : A → Type 0) (n : ℕ) (xs : List A) → All P xs → All P (take n xs)
all_taken P zero xs h k d l = absurd (omega (arith, l))
all_taken P (suc n) [] h k d l = absurd (omega (arith, l))
all_taken P (suc n) (x ∷ xs) h zero d l = h 0 d (omega arith)
all_taken P (suc n) (x ∷ xs) h (suc k) d l = all_taken P n xs (λ j e i. h (suc j) e (omega (arith, i))) k d (omega (arith, l))

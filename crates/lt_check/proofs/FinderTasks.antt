-- The tasks of a search for instants.
use Rattle.std.proofs.Common.{◌≡◌, ◌∙◌, ◌<◌, ◌≤◌, ℕ, Bool, true, false, IsTrue, List, [], ◌∷◌, ◌++◌, Ok, Err, length, map, take, ap, append-nil, arith, refl, subst, sym}
use Rattle.std.specs.Prelude.{All, if◌then◌else◌, nat_lt}
use Rattle.std.specs.List.{list_all}
use Rattle.std.specs.declared.result.Result.{Result}
use Rattle.std.proofs.lemmas.List.{length-map, map-append, take_all}
use Rattle.std.proofs.lemmas.List.Elements.{All-append}
use Rattle.lt_num.specs.declared.fault.Arith.{Arith}
use Rattle.lt_marks_laws.specs.Valued.{worths}
use Rattle.lt_formula.specs.View.{table_len}
use Rattle.lt_term.specs.Mapped.{node_passes, weight_passes}
use Rattle.lt_term.specs.Offers.{TermLeaf, TermTree}
use Rattle.lt_term.specs.Process.{Process}
use Rattle.lt_term.specs.SceneView.{numbers_of}
use Rattle.lt_term.specs.Tree as t
use Rattle.lt_term.specs.Tree.{weights_of}
use Rattle.lt_term.specs.Unfolded.{going}
use Rattle.lt_term.specs.UnfoldedView.{branches_of}
use Rattle.lt_term.specs.UnfoldingView.{Grows, IsWithin, instant_in, instants_in, parts_of, root_of, rules_of, scope_of}
use Rattle.lt_term.specs.declared.root.Later.{Later}
use Rattle.lt_term.specs.declared.unfolding.Unfolding.{Unfolding}
use Rattle.lt_term.specs.declared.root.Offer.{Offer}
use Rattle.lt_term.specs.declared.root.Offer.TheVariants as offer
use Rattle.lt_term.specs.declared.root.Root.TheVariants as root
use Rattle.lt_term.proofs.Public.{left_of, right_of, weights-each_under}
use Rattle.lt_instant.specs.declared.draw_context.DrawContext.{DrawContext}
use Rattle.lt_instant.specs.inner.DrawContextView.{weigher_of}
use Rattle.lt_check.specs.declared.choice.Choice.{Choice}
use Rattle.lt_check.specs.declared.finder.Finder.{Finder}
use Rattle.lt_check.specs.declared.finder.Task.TheVariants as task
use Rattle.lt_check.specs.declared.step.ShownStep.{ShownStep}
use Rattle.lt_check.specs.inner.ChoiceTree.{choice_tree}
use Rattle.lt_check.specs.inner.FinderView.{GoesOn, IsFinding, IsFit, NumbersPass, TaskIsFit, found_of, leaves_in, todos_of, tree_in}
use Rattle.lt_check.specs.inner.MemoView.{Tells}
use Rattle.lt_check.specs.inner.QuestionView.{constraint_holds, is_step, kinds_in, leaf_in, lives_in, number_sight, number_worth}
use Rattle.lt_check.specs.inner.TaskView.{visit_task}
use Rattle.lt_check.specs.inner.Visited.{check, let_go, positive_parts, right, visit}
use Rattle.lt_check.proofs.Finders.{fit_kept, leaves_kept, only_one, tree_kept}
use Rattle.lt_check.proofs.FinderSteps.{all_taken, each_fit, taken_leaves, visits_fit, visits_todo, with_found, with_more, with_same}
use Rattle.lt_check.proofs.VisitedParts.{below_pass, choice_pass, leaf_pass, left_pass, parts_pass, right_pass}
use Rattle.lt_check.proofs.VisitedSteps.{check_goes, choice_goes, fault_goes, leaf_goes, left_goes, order_goes, right_goes, unchecked_goes}
use Rattle.lt_check.proofs.Finders.{found_kept}

-- the weights of a choice are worth what those of its parts are
pub weights_are : (m : DrawContext) (u : Unfolding) (c : Choice) (r : Result (List ℕ) Arith) → worths (weigher_of m) (scope_of u c.rules) (weights_of (branches_of (kinds_in m) c.parts)) ≡ r
    → worths (number_worth m).weight (scope_of u c.rules) (weights_of (parts_of (kinds_in m) u c.parts c.rules)) ≡ r
weights_are m u c r e = ap (worths (weigher_of m) (scope_of u c.rules)) (weights-each_under (kinds_in m) (rules_of (kinds_in m) u c.rules) (branches_of (kinds_in m) c.parts)) ∙ e

two : {A : Type 0} (P : A → Type 0) (x y : A) → P x → P y → All P (x ∷ y ∷ [])
two P x y p q = All-append P (x ∷ []) (y ∷ []) (only_one P x p) (only_one P y q)

module _ (m : DrawContext) (step : ShownStep) (old new : Finder) (was : IsFinding m step old) (g : Grows old.unfolded new.unfolded) (tells : Tells (constraint_holds m step) new.judge.memo) where
  abbrev sight : t.Leaf ℕ (Process ℕ) → Bool
  sight l = (number_sight m (is_step m step)).passes l

  found_long : length (found_of m old) ≡ length old.found.items
  found_long = length-map old.found.items (λ n. going (instant_in (kinds_in m) old.unfolded n))

  -- a leaf that doesn't pass
  pub leaf_not : (l : TermLeaf ℕ) → new.tasks.items ≡ old.tasks.items → new.found.items ≡ old.found.items → false ≡ sight l → GoesOn m step old new (visit (t.leaf l))
  leaf_not l ts f none =
      with_same m step old new was g tells (visit (t.leaf l)) ts f
      (leaf_goes (number_worth m) (number_sight m (is_step m step)) (lives_in m) (todos_of m old) (found_of m old) l (found_of m old) (sym (append-nil (found_of m old)) ∙ ap (λ b. found_of m old ++ (if b then l ∷ [] else [])) none))

  -- and one that does
  pub leaf_taken : (i : ℕ) → i < instants_in old.unfolded → new.tasks.items ≡ old.tasks.items → new.found.items ≡ old.found.items ++ i ∷ [] → true ≡ sight (going (instant_in (kinds_in m) old.unfolded i)) → GoesOn m step old new (visit (t.leaf (going (instant_in (kinds_in m) old.unfolded i))))
  leaf_taken i w ts f one =
      let l = going (instant_in (kinds_in m) old.unfolded i) in
      let leaf_of : ℕ → TermLeaf ℕ = λ n. going (instant_in (kinds_in m) new.unfolded n) in
      let all = All-append (λ n. n < instants_in old.unfolded) old.found.items (i ∷ []) was.found (only_one (λ n. n < instants_in old.unfolded) i w) in
      with_found m step old new was g tells (old.found.items ++ i ∷ []) (visit (t.leaf l)) ts f (found_kept m old.unfolded new.unfolded g (old.found.items ++ i ∷ []) all)
      (leaf_goes (number_worth m) (number_sight m (is_step m step)) (lives_in m) (todos_of m old) (found_of m old) l (leaves_in m new.unfolded (old.found.items ++ i ∷ []))
      (leaves_kept m old.unfolded new.unfolded g (old.found.items ++ i ∷ []) all ∙ map-append (λ n. going (instant_in (kinds_in m) old.unfolded n)) old.found.items (i ∷ []) ∙ ap (λ b. found_of m old ++ (if b then l ∷ [] else [])) one))

  -- an order
  pub order_waits : (a b : Later) (n : ℕ) (u : TermTree ℕ) → n ≡ length old.found.items → t.ordered (tree_in m new.unfolded a) (tree_in m new.unfolded b) ≡ u → NumbersPass m u → IsWithin new.unfolded a → IsWithin new.unfolded b
      → new.tasks.items ≡ old.tasks.items ++ task.Right a b n ∷ task.Visit a ∷ [] → new.found.items ≡ old.found.items → GoesOn m step old new (visit u)
  order_waits a b n u long is passes v w ts f =
      let test = node_passes (numbers_of m.scenario.now) in
      let all : NumbersPass m (t.ordered (tree_in m new.unfolded a) (tree_in m new.unfolded b)) = subst (NumbersPass m) (sym is) passes in
      let left : IsFit m new.unfolded a = record { within = v; passes = left_pass test (tree_in m new.unfolded a) (tree_in m new.unfolded b) all } in
      let other : IsFit m new.unfolded b = record { within = w; passes = right_pass test (tree_in m new.unfolded a) (tree_in m new.unfolded b) all } in
      subst (λ x. GoesOn m step old new (visit x)) is
      (with_more m step old new was g tells (task.Right a b n ∷ task.Visit a ∷ []) (visit (t.ordered (tree_in m new.unfolded a) (tree_in m new.unfolded b))) ts (two (TaskIsFit m new.unfolded) (task.Right a b n) (task.Visit a) (left, other) left) f
      (order_goes (number_worth m) (number_sight m (is_step m step)) (lives_in m) (todos_of m old) (found_of m old) (tree_in m new.unfolded a) (tree_in m new.unfolded b) n _ (long ∙ sym found_long) refl))

  -- a choice with a fault in a weight
  pub choice_spoilt : (c : Choice) (x : Arith) → worths (weigher_of m) (scope_of old.unfolded c.rules) (weights_of (branches_of (kinds_in m) c.parts)) ≡ Err x → new.tasks.items ≡ old.tasks.items → new.found.items ≡ old.found.items → GoesOn m step old new (visit (choice_tree m old.unfolded c))
  choice_spoilt c x e ts f =
      with_same m step old new was g tells (visit (choice_tree m old.unfolded c)) ts f
      (fault_goes (number_worth m) (number_sight m (is_step m step)) (lives_in m) (todos_of m old) (found_of m old) (scope_of old.unfolded c.rules) (parts_of (kinds_in m) old.unfolded c.parts c.rules) x (weights_are m old.unfolded c (Err x) e))

  -- and another one
  pub choice_waits : (c : Choice) (vs : List ℕ) (parts : List Later) → worths (weigher_of m) (scope_of old.unfolded c.rules) (weights_of (branches_of (kinds_in m) c.parts)) ≡ Ok vs → NumbersPass m (choice_tree m old.unfolded c)
      → map (tree_in m new.unfolded) parts ≡ positive_parts (parts_of (kinds_in m) old.unfolded c.parts c.rules) vs → All (IsWithin new.unfolded) parts
      → new.tasks.items ≡ old.tasks.items ++ map visit_task parts → new.found.items ≡ old.found.items → GoesOn m step old new (visit (choice_tree m old.unfolded c))
  choice_waits c vs parts e passes are w ts f =
      let bs = parts_of (kinds_in m) old.unfolded c.parts c.rules in
      let ls = scope_of old.unfolded c.rules in
      let test = node_passes (numbers_of m.scenario.now) in
      let fit = each_fit m new.unfolded parts (positive_parts bs vs) are w (parts_pass test bs vs (below_pass test ls bs passes)) in
      with_more m step old new was g tells (map visit_task parts) (visit (choice_tree m old.unfolded c)) ts (visits_fit m new.unfolded parts fit) f
      (choice_goes (number_worth m) (number_sight m (is_step m step)) (lives_in m) (todos_of m old) (found_of m old) ls bs vs _ (weights_are m old.unfolded c (Ok vs) e)
      (ap (λ xs. todos_of m old ++ xs) (visits_todo m new.unfolded parts ∙ ap (map visit) are)))

  -- the right tree of an order, where nothing was found in the left one
  pub right_waits : (a b : Later) (n : ℕ) → IsFit m old.unfolded a → IsFit m old.unfolded b → length old.found.items ≤ n → new.tasks.items ≡ old.tasks.items ++ task.Check a n ∷ task.Visit b ∷ [] → new.found.items ≡ old.found.items → GoesOn m step old new (right (tree_in m old.unfolded a) (tree_in m old.unfolded b) n)
  right_waits a b n fa fb few ts f =
      with_more m step old new was g tells (task.Check a n ∷ task.Visit b ∷ []) (right (tree_in m old.unfolded a) (tree_in m old.unfolded b) n) ts (two (TaskIsFit m new.unfolded) (task.Check a n) (task.Visit b) (fit_kept m old.unfolded new.unfolded g a fa) (fit_kept m old.unfolded new.unfolded g b fb)) f
      (right_goes (number_worth m) (number_sight m (is_step m step)) (lives_in m) (todos_of m old) (found_of m old) (tree_in m old.unfolded a) (tree_in m old.unfolded b) n _ (let l = found_long in omega (arith, l, few))
      (λ i. todos_of m old ++ check (tree_kept m old.unfolded new.unfolded g a fa i) n ∷ visit (tree_kept m old.unfolded new.unfolded g b fb i) ∷ []))

  -- and where something was
  pub right_not : (a b : Later) (n : ℕ) → n < length old.found.items → new.tasks.items ≡ old.tasks.items → new.found.items ≡ old.found.items → GoesOn m step old new (right (tree_in m old.unfolded a) (tree_in m old.unfolded b) n)
  right_not a b n many ts f =
      with_same m step old new was g tells (right (tree_in m old.unfolded a) (tree_in m old.unfolded b) n) ts f
      (left_goes (number_worth m) (number_sight m (is_step m step)) (lives_in m) (todos_of m old) (found_of m old) (tree_in m old.unfolded a) (tree_in m old.unfolded b) n (let l = found_long in omega (arith, l, many)))

  -- whether the left tree lives is known
  pub checked : (a : Later) (n : ℕ) (l : Bool) → l ≡ lives_in m (tree_in m old.unfolded a) → new.tasks.items ≡ old.tasks.items → new.found.items ≡ let_go l n old.found.items → GoesOn m step old new (check (tree_in m old.unfolded a) n)
  checked a n true is ts f =
      with_found m step old new was g tells (take n old.found.items) (check (tree_in m old.unfolded a) n) ts f (found_kept m old.unfolded new.unfolded g (take n old.found.items) (all_taken (λ k. k < instants_in old.unfolded) n old.found.items was.found))
      (check_goes (number_worth m) (number_sight m (is_step m step)) (lives_in m) (todos_of m old) (found_of m old) (tree_in m old.unfolded a) n _ true is
      (leaves_kept m old.unfolded new.unfolded g (take n old.found.items) (all_taken (λ k. k < instants_in old.unfolded) n old.found.items was.found) ∙ taken_leaves m old.unfolded n old.found.items))
  checked a n false is ts f =
      with_same m step old new was g tells (check (tree_in m old.unfolded a) n) ts f
      (check_goes (number_worth m) (number_sight m (is_step m step)) (lives_in m) (todos_of m old) (found_of m old) (tree_in m old.unfolded a) n (found_of m old) false is refl)

  -- it needn't be
  pub unchecked : (a : Later) (n : ℕ) → length old.found.items ≤ n → new.tasks.items ≡ old.tasks.items → new.found.items ≡ old.found.items → GoesOn m step old new (check (tree_in m old.unfolded a) n)
  unchecked a n few ts f =
      with_same m step old new was g tells (check (tree_in m old.unfolded a) n) ts f
      (unchecked_goes (number_worth m) (number_sight m (is_step m step)) (lives_in m) (todos_of m old) (found_of m old) (tree_in m old.unfolded a) n (take_all n (found_of m old) (let l = found_long in omega (arith, l, few))))

-- ---- roots

-- a leaf of what is unfolded is the one of its root
pub leaf_same : (m : DrawContext) (u : Unfolding) (o : Offer) → root_of (kinds_in m) u (root.Leaf o) ≡ t.leaf (leaf_in m u o)
leaf_same m u offer.Nothing = refl
leaf_same m u offer.Vanish = refl
leaf_same m u (offer.Raise z) = refl
leaf_same m u (offer.Go i) = refl

-- the constraints of an instant are the scenario's
pub constraints_pass : (m : DrawContext) (u : Unfolding) (i : ℕ) → NumbersPass m (t.leaf (going (instant_in (kinds_in m) u i))) → IsTrue (list_all (λ c. nat_lt c (table_len m.scenario.now.table)) (instant_in (kinds_in m) u i).constraints)
constraints_pass m u i h =
    let l = going (instant_in (kinds_in m) u i) in
    left_of _ _ (leaf_pass (node_passes (numbers_of m.scenario.now)) l h)

-- and so are the weights of a choice
pub weights_pass : (m : DrawContext) (u : Unfolding) (c : Choice) → NumbersPass m (choice_tree m u c) → IsTrue (list_all (weight_passes (numbers_of m.scenario.now)) (weights_of (branches_of (kinds_in m) c.parts)))
weights_pass m u c h =
    subst (λ ws. IsTrue (list_all (weight_passes (numbers_of m.scenario.now)) ws)) (weights-each_under (kinds_in m) (rules_of (kinds_in m) u c.rules) (branches_of (kinds_in m) c.parts))
    (right_of _ _ (choice_pass (node_passes (numbers_of m.scenario.now)) (scope_of u c.rules) (parts_of (kinds_in m) u c.parts c.rules) h))

-- what is no instant is no step
pub not_going : (m : DrawContext) (step : ShownStep) (u : Unfolding) (o : Offer) → ((i : ℕ) → o ≡ offer.Go i → ⊥) → false ≡ (number_sight m (is_step m step)).passes (leaf_in m u o)
not_going m step u offer.Nothing h = refl
not_going m step u offer.Vanish h = refl
not_going m step u (offer.Raise z) h = refl
not_going m step u (offer.Go i) h = absurd (h i refl)

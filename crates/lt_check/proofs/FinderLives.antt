-- Whether trees that wait live, a tree at a time.
use Rattle.std.proofs.Common.{◌≡◌, ◌∙◌, ◌<◌, ℕ, suc, Bool, true, false, List, [], ◌∷◌, ◌++◌, None, Ok, Err, Some, map, ap, append-nil, arith, refl, subst, sym}
use Rattle.std.specs.Prelude.{◌||◌, All, IfSome}
use Rattle.std.specs.List.{list_any}
use Rattle.std.specs.declared.option.Option.{Option}
use Rattle.std.proofs.lemmas.List.{map-append}
use Rattle.std.proofs.lemmas.List.Elements.{All-append}
use Rattle.std.proofs.lemmas.List.Folds.{list_any-append}
use Rattle.lt_num.specs.declared.fault.Arith.{Arith}
use Rattle.lt_marks_laws.specs.Valued.{worths}
use Rattle.lt_term.specs.Mapped.{node_passes}
use Rattle.lt_term.specs.Offers.{TermLeaf, TermTree}
use Rattle.lt_term.specs.SceneView.{numbers_of}
use Rattle.lt_term.specs.Tree as t
use Rattle.lt_term.specs.Tree.{weights_of}
use Rattle.lt_term.specs.Unfolded.{TermBranches}
use Rattle.lt_term.specs.UnfoldedView.{branches_of}
use Rattle.lt_term.specs.UnfoldingView.{Grows, IsWithin, parts_of, scope_of}
use Rattle.lt_term.specs.declared.root.Later.{Later}
use Rattle.lt_term.specs.declared.unfolding.Unfolding.{Unfolding}
use Rattle.lt_term.proofs.Public.{grows_twice}
use Rattle.lt_instant.specs.declared.draw_context.DrawContext.{DrawContext}
use Rattle.lt_instant.specs.inner.DrawContextView.{scene_of, weigher_of}
use Rattle.lt_check.specs.declared.choice.Choice.{Choice}
use Rattle.lt_check.specs.declared.finder.Finder.{Finder}
use Rattle.lt_check.specs.inner.ChoiceTree.{choice_tree}
use Rattle.lt_check.specs.inner.FinderView.{IsFit, IsLifeOf, IsSplit, NumbersPass, Stays, tree_in, waiting_in}
use Rattle.lt_check.specs.inner.QuestionView.{kinds_in, lives_in, number_sight, number_worth, outlook_in}
use Rattle.lt_check.specs.inner.Searches.{is_alive}
use Rattle.lt_check.specs.inner.Visited.{all_work, positive_parts, tree_work}
use Rattle.lt_check.proofs.Finders.{fits_kept, front, last, only_one, trees_kept}
use Rattle.lt_check.proofs.FinderSteps.{each_fit}
use Rattle.lt_check.proofs.FinderTasks.{weights_are}
use Rattle.lt_check.proofs.VisitedParts.{EachPasses, below_pass, choice_lives, fault_lives, left_pass, order_lives, parts_less, parts_live, parts_pass, right_pass, work_append}

or_turn : (a b : Bool) → (b || (a || false)) ≡ (a || b)
or_turn true true = refl
or_turn true false = refl
or_turn false true = refl
or_turn false false = refl

or_none : (a : Bool) → (a || false) ≡ a
or_none true = refl
or_none false = refl

or_true : (a : Bool) → (a || true) ≡ true
or_true true = refl
or_true false = refl

module _ (m : DrawContext) where
  -- ---- trees and the ones below them

  leaf_split : (l : TermLeaf ℕ) → false ≡ lives_in m (t.leaf l) → IsSplit m (t.leaf l) []
  leaf_split l e = record { lives = e; falls = omega arith }

  order_split : (a b : TermTree ℕ) → IsSplit m (t.ordered a b) (b ∷ a ∷ [])
  order_split a b = record {
    lives = or_turn (lives_in m a) (lives_in m b) ∙ sym (order_lives (number_worth m) (number_sight m (is_alive (scene_of m))) refl a b);
    falls = omega arith;
  }

  choice_split : (ls : t.Lasts) (bs : TermBranches ℕ) (vs : List ℕ) → worths (number_worth m).weight ls (weights_of bs) ≡ Ok vs → IsSplit m (t.weighted ls bs) (positive_parts bs vs)
  choice_split ls bs vs e =
      let sight = number_sight m (is_alive (scene_of m)) in
      record {
        lives = parts_live (number_worth m) sight bs vs ∙ sym (choice_lives (number_worth m) sight ls bs vs e);
        falls = let l = parts_less bs vs in omega (arith, l);
      }

  -- a choice with a fault in a weight lives
  pub spoilt_lives : (u : Unfolding) (c : Choice) (x : Arith) → worths (weigher_of m) (scope_of u c.rules) (weights_of (branches_of (kinds_in m) c.parts)) ≡ Err x → lives_in m (choice_tree m u c) ≡ true
  spoilt_lives u c x e =
      fault_lives (number_worth m) (number_sight m (is_alive (scene_of m))) (scope_of u c.rules) (parts_of (kinds_in m) u c.parts c.rules) x (weights_are m u c (Err x) e)

  each_append : (xs ys : List (TermTree ℕ)) → EachPasses (node_passes (numbers_of m.scenario.now)) xs → EachPasses (node_passes (numbers_of m.scenario.now)) ys → EachPasses (node_passes (numbers_of m.scenario.now)) (xs ++ ys)
  each_append [] ys h k = k
  each_append (x ∷ xs) ys h k = (h.0, each_append xs ys h.1 k)

  of_fits : (u : Unfolding) (ls : List Later) → All (IsFit m u) ls → EachPasses (node_passes (numbers_of m.scenario.now)) (map (tree_in m u) ls)
  of_fits u [] h = tt
  of_fits u (l ∷ ls) h = ((h 0 l (omega arith)).passes, of_fits u ls (λ k d n. h (suc k) d (omega (arith, n))))

  -- ---- what is said of a tree

  module _ (old new : Finder) (g : Grows old.unfolded new.unfolded) (fit : All (IsFit m old.unfolded) old.waiting.items) where
    pub leaf_life : (l : TermLeaf ℕ) (answer : Option Bool) → new.waiting.items ≡ old.waiting.items → IfSome answer (λ b. b ≡ is_alive (scene_of m) (outlook_in m l)) → IsLifeOf m (t.leaf l) old new answer
    leaf_life l None w h = tt
    leaf_life l (Some true) w h = sym h
    leaf_life l (Some false) w h =
        ([], leaf_split l h, ap (map (tree_in m new.unfolded)) w ∙ trees_kept m old.unfolded new.unfolded g old.waiting.items fit ∙ sym (append-nil (waiting_in m old)), subst (All (IsFit m new.unfolded)) (sym w) (fits_kept m old.unfolded new.unfolded g old.waiting.items fit))

    pub order_life : (a b : Later) → IsWithin new.unfolded a → IsWithin new.unfolded b → NumbersPass m (t.ordered (tree_in m new.unfolded a) (tree_in m new.unfolded b)) → new.waiting.items ≡ old.waiting.items ++ b ∷ a ∷ []
        → IsLifeOf m (t.ordered (tree_in m new.unfolded a) (tree_in m new.unfolded b)) old new (Some false)
    order_life a b v w passes e =
        let u = new.unfolded in
        let test = node_passes (numbers_of m.scenario.now) in
        let fa : IsFit m u a = record { within = v; passes = left_pass test (tree_in m u a) (tree_in m u b) passes } in
        let fb : IsFit m u b = record { within = w; passes = right_pass test (tree_in m u a) (tree_in m u b) passes } in
        let both = All-append (IsFit m u) (b ∷ []) (a ∷ []) (only_one (IsFit m u) b fb) (only_one (IsFit m u) a fa) in (
          tree_in m u b ∷ tree_in m u a ∷ [],
          order_split (tree_in m u a) (tree_in m u b),
          ap (map (tree_in m u)) e ∙ map-append (tree_in m u) old.waiting.items (b ∷ a ∷ []) ∙ ap (λ ts. ts ++ tree_in m u b ∷ tree_in m u a ∷ []) (trees_kept m old.unfolded u g old.waiting.items fit),
          subst (All (IsFit m u)) (sym e) (All-append (IsFit m u) old.waiting.items (b ∷ a ∷ []) (fits_kept m old.unfolded u g old.waiting.items fit) both),
        )

    pub choice_life : (c : Choice) (vs : List ℕ) → worths (weigher_of m) (scope_of old.unfolded c.rules) (weights_of (branches_of (kinds_in m) c.parts)) ≡ Ok vs → NumbersPass m (choice_tree m old.unfolded c)
        → map (tree_in m new.unfolded) new.waiting.items ≡ waiting_in m old ++ positive_parts (parts_of (kinds_in m) old.unfolded c.parts c.rules) vs → All (IsWithin new.unfolded) new.waiting.items
        → IsLifeOf m (choice_tree m old.unfolded c) old new (Some false)
    choice_life c vs e passes are w =
        let bs = parts_of (kinds_in m) old.unfolded c.parts c.rules in
        let ls = scope_of old.unfolded c.rules in
        let test = node_passes (numbers_of m.scenario.now) in (
          positive_parts bs vs,
          choice_split ls bs vs (weights_are m old.unfolded c (Ok vs) e),
          are,
          each_fit m new.unfolded new.waiting.items (waiting_in m old ++ positive_parts bs vs) are w
              (each_append (waiting_in m old) (positive_parts bs vs) (of_fits old.unfolded old.waiting.items fit) (parts_pass test bs vs (below_pass test ls bs passes))),
        )

  -- what is said of a tree once more is unfolded is said of it before
  pub life_from : (old new : Finder) (u : Unfolding) → Grows old.unfolded u → All (IsFit m old.unfolded) old.waiting.items → {x y : TermTree ℕ} → x ≡ y → (a : Option Bool) → IsLifeOf m x (record old { unfolded = u }) new a → IsLifeOf m y old new a
  life_from old new u g fit is None h = tt
  life_from old new u g fit is (Some true) h = ap (lives_in m) (sym is) ∙ h
  life_from old new u g fit is (Some false) h =
      (h.0, subst (λ (x : TermTree ℕ). IsSplit m x h.0) is h.1, h.2 ∙ ap (λ ts. ts ++ h.0) (trees_kept m old.unfolded u g old.waiting.items fit), h.3)

  pub stays_from : (old new : Finder) (u : Unfolding) → Grows old.unfolded u → Stays (record old { unfolded = u }) new → Stays old new
  stays_from old new u g s = record { tasks = s.tasks; found = s.found; memo = s.memo; grows = grows_twice old.unfolded u new.unfolded g s.grows }

  -- what stays twice stays
  pub stays_on : (old now new : Finder) → Stays old now → new.tasks.items ≡ now.tasks.items → new.found.items ≡ now.found.items → new.judge.memo ≡ now.judge.memo → Grows now.unfolded new.unfolded → Stays old new
  stays_on old now new s ts f memo g = record { tasks = ts ∙ s.tasks; found = f ∙ s.found; memo = memo ∙ s.memo; grows = grows_twice old.unfolded now.unfolded new.unfolded s.grows g }

  -- ---- a look for a live leaf, a tree at a time

  -- how far it is: what waits lives if the tree does
  pub record Waits (old now : Finder) (tree : TermTree ℕ) : Type 0 where
    pub stays : Stays old now
    pub fit : All (IsFit m now.unfolded) now.waiting.items
    pub lives : list_any (lives_in m) (waiting_in m now) ≡ lives_in m tree

  -- before the first one
  pub waits_first : (old now : Finder) (tree : Later) → Stays old now → now.waiting.items ≡ tree ∷ [] → IsFit m now.unfolded tree → Waits old now (tree_in m now.unfolded tree)
  waits_first old now tree stays e fit = record {
    stays = stays;
    fit = subst (All (IsFit m now.unfolded)) (sym e) (only_one (IsFit m now.unfolded) tree fit);
    lives = ap (λ (ls : List Later). list_any (lives_in m) (map (tree_in m now.unfolded) ls)) e ∙ or_none (lives_in m (tree_in m now.unfolded tree));
  }

  module _ (old now : Finder) (tree : TermTree ℕ) (w : Waits old now tree) (popped : List Later) (later : Later) (e : now.waiting.items ≡ popped ++ later ∷ []) where
    trees_are : waiting_in m now ≡ map (tree_in m now.unfolded) popped ++ tree_in m now.unfolded later ∷ []
    trees_are = ap (map (tree_in m now.unfolded)) e ∙ map-append (tree_in m now.unfolded) popped (later ∷ [])

    any_is : (list_any (lives_in m) (map (tree_in m now.unfolded) popped) || (lives_in m (tree_in m now.unfolded later) || false)) ≡ lives_in m tree
    any_is =
        sym (list_any-append (lives_in m) (map (tree_in m now.unfolded) popped) (tree_in m now.unfolded later ∷ []))
        ∙ ap (list_any (lives_in m)) (sym trees_are) ∙ w.lives

    pub waits_left : All (IsFit m now.unfolded) popped
    waits_left = front (IsFit m now.unfolded) popped now.waiting.items later e w.fit

    pub later_fits : IsFit m now.unfolded later
    later_fits = last (IsFit m now.unfolded) popped now.waiting.items later e w.fit

    -- a tree that lives
    pub one_lives : lives_in m (tree_in m now.unfolded later) ≡ true → true ≡ lives_in m tree
    one_lives h =
        sym (or_true (list_any (lives_in m) (map (tree_in m now.unfolded) popped)))
        ∙ sym (ap (λ b. list_any (lives_in m) (map (tree_in m now.unfolded) popped) || (b || false)) h)
        ∙ any_is

    -- one that doesn't, but for those below it
    module _ (new : Finder) (below : List (TermTree ℕ)) (split : IsSplit m (tree_in m now.unfolded later) below) (are : waiting_in m new ≡ map (tree_in m now.unfolded) popped ++ below) where
      pub waits_on : All (IsFit m new.unfolded) new.waiting.items → new.tasks.items ≡ now.tasks.items → new.found.items ≡ now.found.items → new.judge.memo ≡ now.judge.memo → Grows now.unfolded new.unfolded → Waits old new tree
      waits_on fit ts f memo g = record {
        stays = record { tasks = ts ∙ w.stays.tasks; found = f ∙ w.stays.found; memo = memo ∙ w.stays.memo; grows = grows_twice old.unfolded now.unfolded new.unfolded w.stays.grows g };
        fit = fit;
        lives =
            ap (list_any (lives_in m)) are
            ∙ list_any-append (lives_in m) (map (tree_in m now.unfolded) popped) below
            ∙ ap (λ b. list_any (lives_in m) (map (tree_in m now.unfolded) popped) || b) (split.lives ∙ sym (or_none (lives_in m (tree_in m now.unfolded later))))
            ∙ any_is;
      }

      pub waits_less : all_work tree_work (waiting_in m new) < all_work tree_work (waiting_in m now)
      waits_less =
          let a = ap (all_work tree_work) are ∙ work_append tree_work (map (tree_in m now.unfolded) popped) below in
          let b = ap (all_work tree_work) trees_are ∙ work_append tree_work (map (tree_in m now.unfolded) popped) (tree_in m now.unfolded later ∷ []) in
          let f = split.falls in
          omega (arith, a, b, f)

  -- where nothing waits any more
  pub none_lives : (old now : Finder) (tree : TermTree ℕ) → Waits old now tree → now.waiting.items ≡ [] → false ≡ lives_in m tree
  none_lives old now tree w e = ap (λ (ls : List Later). list_any (lives_in m) (map (tree_in m now.unfolded) ls)) (sym e) ∙ w.lives

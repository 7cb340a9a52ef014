-- What is known between two steps, as the definitions see it.
use Rattle.std.proofs.Common.{◌≡◌, ◌<◌, ◌^◌, ℕ, zero, suc, Bool, true, false, ◌&&◌, IsTrue, List, [], ◌∷◌, inl, inr, length, map, None, Some, Option, if◌then◌else◌, refl, ap, sym, ◌∙◌, subst, arith}
use Rattle.std.specs.Prelude.{is_some, nat_lt, slice_get}
use Rattle.std.specs.List.{list_all}
use Rattle.std.proofs.lemmas.Bool.Decides.{nat_tests}
use Rattle.std.proofs.lemmas.List.{length-map}
use Rattle.lt_formula.proofs.Tables.{length-entries}
use Rattle.lt_formula.specs.Expression.{Expression}
use Rattle.lt_formula.specs.Table.{HasEachOnce}
use Rattle.lt_formula.specs.View.{table_expressions, table_len}
use Rattle.lt_legal.specs.Follows.{Follows, shown_raws}
use Rattle.lt_num.specs.Range.{TestTellsPoints}
use Rattle.lt_num.specs.declared.value.Value.{Value}
use Rattle.lt_term.proofs.Passing.{nodes_pass}
use Rattle.lt_term.proofs.Public.{left_of, nodes_natural, right_of}
use Rattle.lt_term.specs.Advanced.{advanced, advanced_each}
use Rattle.lt_term.specs.Configuration.{Configuration, kinds_of_all}
use Rattle.lt_term.specs.Limits.{most_tree_nodes}
use Rattle.lt_term.specs.Mapped.{lasts_pass, node_passes, node_with_constraints}
use Rattle.lt_term.specs.Offers.{TermTree, offers_of}
use Rattle.lt_term.specs.Process.{Process, Choices, eps, dead, con, raise, seq, loop, count, any, pri, par, assert, exist, catch, try, no_choice, choice, with_constraints}
use Rattle.lt_term.specs.SceneView.{numbers_of, variable}
use Rattle.lt_term.specs.Tree as t
use Rattle.lt_term.specs.Tree.{Node, flattened, go, leaf_node, ordered_node, size, weighted_node}
use Rattle.lt_term.specs.View.{kinds_of}
use Rattle.lt_term.specs.Within.{Tests, each_passes, passes}
use Rattle.lt_term.specs.declared.scenario.Scenario.{Scenario}
use Rattle.lt_term.specs.declared.variable.Var.{Var}
use Rattle.lt_trace.specs.Told.{Shown}
use Rattle.lt_instant.specs.Instant.{is_too_large}
use Rattle.lt_instant.specs.RunStateView.{configuration_behind}
use Rattle.lt_instant.specs.Solved.{values_of}
use Rattle.lt_instant.specs.inner.DrawContextView.{meaning_of}
use Rattle.lt_check.specs.declared.moment.Moment.{Moment}
use Rattle.lt_check.specs.declared.step.ShownStep.{ShownStep}
use Rattle.lt_check.specs.inner.Finding.{found_in}
use Rattle.lt_check.specs.inner.Followers.{next_by, nexts_by}
use Rattle.lt_check.specs.inner.Kinded.{HaveRanges, IsKindedStep}
use Rattle.lt_check.specs.inner.Members.{Has}
use Rattle.lt_check.specs.inner.MomentView.{followers, is_large, meant_tree_at, moment_scene, moment_worth, tree_at}
use Rattle.lt_check.specs.inner.ProgressView.{moment_meaning, moment_numbers, stand_behind}
use Rattle.lt_check.specs.inner.Reached.{standing_in}
use Rattle.lt_check.specs.inner.ShownPoints.{local_values, possible}
use Rattle.lt_check.specs.inner.Wanted.{for_step}
use Rattle.lt_check.proofs.Followers.{follows_next, next_follows}
use Rattle.lt_check.proofs.Lists.{from_flat}
use Rattle.lt_check.proofs.Scenes.{kinds-view}
use Rattle.lt_check.proofs.Semantics.{Laws}

-- ---- terms after an instant

both_pass : (a b c d : Bool) → a ≡ b → c ≡ d → (a && c) ≡ (b && d)
both_pass a b c d e h = λ i. e i && h i

-- they have the numbers that they had
module _ {C : Type 0} (tests : Tests C) (vs : List (ℕ × Value)) where
  mutual
    pub advanced_passes : (p : Process C) → passes tests (advanced vs p) ≡ passes tests p
    advanced_passes eps = refl
    advanced_passes dead = refl
    advanced_passes (con c) = refl
    advanced_passes (raise z) = refl
    advanced_passes (seq a b) = both_pass _ _ _ _ (advanced_passes a) (advanced_passes b)
    advanced_passes (loop a) = advanced_passes a
    advanced_passes (count i done a) = ap (λ b. tests.counter i && b) (advanced_passes a)
    advanced_passes (any cs) = each_advanced cs
    advanced_passes (pri a b) = both_pass _ _ _ _ (advanced_passes a) (advanced_passes b)
    advanced_passes (par a b) = both_pass _ _ _ _ (advanced_passes a) (advanced_passes b)
    advanced_passes (assert c a) = ap (λ b. tests.constraint c && b) (advanced_passes a)
    advanced_passes (exist l v a) = ap (λ b. tests.local l && b) (advanced_passes a)
    advanced_passes (catch z a b) = ap (λ x. tests.exception z && x) (both_pass _ _ _ _ (advanced_passes a) (advanced_passes b))
    advanced_passes (try a b) = both_pass _ _ _ _ (advanced_passes a) (advanced_passes b)

    each_advanced : (cs : Choices C) → each_passes tests (advanced_each vs cs) ≡ each_passes tests cs
    each_advanced no_choice = refl
    each_advanced (choice w a cs) = ap (λ b. tests.constraint w && b) (both_pass _ _ _ _ (advanced_passes a) (each_advanced cs))

-- what holds of all nodes holds of the one of a number
node_at : (q : Node ℕ (Process ℕ) → Bool) (ns : List (Node ℕ (Process ℕ))) (k : ℕ) (x : Node ℕ (Process ℕ)) → IsTrue (list_all q ns) → slice_get ns k ≡ Some x → IsTrue (q x)
node_at q [] k x h e = absurd (cc)
node_at q (n ∷ ns) zero x h e = let same : n ≡ x = cc in subst (λ y. IsTrue (q y)) same (left_of (q n) (list_all q ns) h)
node_at q (n ∷ ns) (suc k) x h e = node_at q ns k x (right_of (q n) (list_all q ns) h) e

module _ (tests : Tests ℕ) (locals : List Value) (ns : List (Node ℕ (Process ℕ))) (pass : IsTrue (list_all (node_passes tests) ns)) where
  -- what comes after an instant has its numbers
  next_passes : (k : ℕ) (x : Option (Node ℕ (Process ℕ))) → slice_get ns k ≡ x → (q : Process ℕ) → Has (next_by locals x) q → IsTrue (passes tests q)
  next_passes k (Some (leaf_node (go cs ls n))) e q (inl h) =
      let all : IsTrue (list_all tests.constraint cs && (lasts_pass tests ls && passes tests n)) = node_at (node_passes tests) ns k (leaf_node (go cs ls n)) pass e in
      let rest = right_of (list_all tests.constraint cs) (lasts_pass tests ls && passes tests n) all in
      subst (λ r. IsTrue (passes tests r)) h (subst (λ b. IsTrue b) (sym (advanced_passes tests (values_of ls locals) n)) (right_of (lasts_pass tests ls) (passes tests n) rest))
  next_passes k (Some (leaf_node (go cs ls n))) e q (inr h) = absurd h
  next_passes k (Some (leaf_node t.vanish)) e q h = absurd h
  next_passes k (Some (leaf_node t.nothing)) e q h = absurd h
  next_passes k (Some (leaf_node (t.raised z))) e q h = absurd h
  next_passes k (Some ordered_node) e q h = absurd h
  next_passes k (Some (weighted_node ls ws)) e q h = absurd h
  next_passes k None e q h = absurd h

  pub nexts_pass : (ks : List ℕ) (q : Process ℕ) → Has (nexts_by locals ns ks) q → IsTrue (passes tests q)
  nexts_pass ks q h =
      let r = from_flat (λ k. next_by locals (slice_get ns k)) ks q h in
      next_passes r.of (slice_get ns r.of) refl q r.is

-- ---- scenarios

below : (n k : ℕ) → IsTrue (nat_lt n k) → n < k
below n k l = grind (arith, nat_tests, l)

-- the ranges of variables have points
pub have_ranges : (vs : List Var) → HaveRanges (map variable vs)
have_ranges [] = tt
have_ranges (v ∷ vs) = (v.sound.points, have_ranges vs)

-- expressions of a table are told by their numbers
pub numbers_tell : (sc : Scenario) → HasEachOnce (table_expressions sc.table) → (c d : ℕ) → IsTrue ((numbers_of sc).constraint c) → IsTrue ((numbers_of sc).constraint d) → meaning_of sc.table c ≡ meaning_of sc.table d → c ≡ d
numbers_tell sc once c d h k e = once c d (within c h) (within d k) e
  where
    within : (n : ℕ) → IsTrue (nat_lt n (table_len sc.table)) → n < length (table_expressions sc.table)
    within n l = let long = length-entries sc.table.nodes.entries in let less = below n (table_len sc.table) l in omega (arith, long, less)

-- ---- trees

module _ (m : Moment) (p : Process ℕ) where
  pub meant_is : meant_tree_at m p ≡ offers_of (kinds_of_all (moment_scene m).locals) (with_constraints (moment_meaning m) p)
  meant_is = ap (λ ks. offers_of ks (with_constraints (moment_meaning m) p)) (kinds-view m.scenario.now.locals.items)

  pub sizes_are : size (tree_at m p) ≡ size (meant_tree_at m p)
  sizes_are =
      let kinds = kinds_of m.scenario.now.locals.items in
      sym (length-map (flattened (tree_at m p)) (node_with_constraints (moment_meaning m))) ∙ ap length (nodes_natural (moment_meaning m) kinds p)

  pub large_is : is_large m p ≡ is_too_large (moment_scene m) (standing_in (moment_meaning m) (configuration_behind m.past) p)
  large_is = ap (nat_lt most_tree_nodes) (sizes_are ∙ ap size meant_is)

  pub few_meant : is_large m p ≡ false → length (flattened (meant_tree_at m p)) < 2 ^ 32
  few_meant h =
      let small = under (size (tree_at m p)) h in
      omega (arith, small, sizes_are)
    where
      under : (n : ℕ) → nat_lt most_tree_nodes n ≡ false → n < 2 ^ 32
      under n h = grind (arith, nat_tests, h)

-- ---- a step that is sought

module _ (m : Moment) (shown : ShownStep) (step : Shown) (raws : shown.raws.items ≡ shown_raws step) (marks : shown.marks.items ≡ map is_some step.locals) (locals : shown.locals.items ≡ local_values (moment_scene m).locals step.locals) (p : Process ℕ) where
  -- what is found for it, by the variables of the scene
  abbrev nexts_here : List (Process ℕ)
  nexts_here =
      nexts_by (local_values (moment_scene m).locals step.locals) (flattened (offers_of (kinds_of_all (moment_scene m).locals) p))
      (found_in (moment_scene m) (moment_worth m) (for_step (moment_scene m) (shown_raws step) (map is_some step.locals)) (offers_of (kinds_of_all (moment_scene m).locals) (with_constraints (moment_meaning m) p)))

  nexts_are : is_large m p ≡ false → followers m shown p ≡ nexts_here
  nexts_are h =
      let s = moment_scene m in
      let kinds = kinds-view m.scenario.now.locals.items in
      let all : List (Process ℕ) = nexts_by shown.locals.items (flattened (tree_at m p)) (found_in s (moment_worth m) (for_step s shown.raws.items shown.marks.items) (meant_tree_at m p)) in
      ap (λ b. if b then [] else all) h
      ∙ (λ i. nexts_by (locals i) (flattened (offers_of (kinds i) p)) (found_in s (moment_worth m) (for_step s (raws i) (marks i)) (offers_of (kinds i) (with_constraints (moment_meaning m) p))))

module _ (laws : Laws) (test : TestTellsPoints) (m : Moment) (shown : ShownStep) (step : Shown) (raws : shown.raws.items ≡ shown_raws step) (marks : shown.marks.items ≡ map is_some step.locals) (locals : shown.locals.items ≡ local_values (moment_scene m).locals step.locals) (kinded : IsKindedStep (moment_scene m) step) (can : possible (moment_scene m) step ≡ true) where
  -- where a run stands
  abbrev stands : Process ℕ → Configuration
  stands p = standing_in (moment_meaning m) (configuration_behind m.past) p

  abbrev stands_behind : Process ℕ → Configuration
  stands_behind q = standing_in (moment_meaning m) (stand_behind m step) q

  few_here : (p : Process ℕ) → is_large m p ≡ false → length (flattened (offers_of (kinds_of_all (moment_scene m).locals) (with_constraints (moment_meaning m) p))) < 2 ^ 32
  few_here p h = subst (λ (u : TermTree Expression). length (flattened u) < 2 ^ 32) (meant_is m p) (few_meant m p h)

  pub follower_follows : (p q : Process ℕ) → Has (followers m shown p) q → Follows (moment_scene m) (stands p) m.inputs.items step (stands_behind q)
  follower_follows p q h = by_size (is_large m p) refl
    where
      by_size : (b : Bool) → is_large m p ≡ b → Follows (moment_scene m) (stands p) m.inputs.items step (stands_behind q)
      by_size true e = absurd (let k : ⊥ = rw e at h in k)
      by_size false e =
          next_follows laws test (moment_scene m) (moment_meaning m) (configuration_behind m.past) m.inputs.items p step kinded.outputs kinded.locals (have_ranges m.scenario.now.outputs.items) (have_ranges m.scenario.now.locals.items) can (few_here p e) (sym (large_is m p) ∙ e) q
          (subst (λ (qs : List (Process ℕ)). Has qs q) (nexts_are m shown step raws marks locals p e) h)

  pub follows_follower : (p : Process ℕ) (g : Configuration) → Follows (moment_scene m) (stands p) m.inputs.items step g → (q : Process ℕ) × Has (followers m shown p) q × (g ≡ stands_behind q)
  follows_follower p g h =
      let e : is_large m p ≡ false = large_is m p ∙ h.small in
      let r = follows_next laws test (moment_scene m) (moment_meaning m) (configuration_behind m.past) m.inputs.items p step kinded.outputs kinded.locals (have_ranges m.scenario.now.outputs.items) (have_ranges m.scenario.now.locals.items) can (few_here p e) g h in
      (r.0, subst (λ (qs : List (Process ℕ)). Has qs r.0) (sym (nexts_are m shown step raws marks locals p e)) r.1, r.2)

-- what follows has the scenario's numbers
pub follower_passes : (m : Moment) (shown : ShownStep) (p q : Process ℕ) → IsTrue (passes (moment_numbers m) p) → Has (followers m shown p) q → IsTrue (passes (moment_numbers m) q)
follower_passes m shown p q pass h = by_size (is_large m p) refl
  where
    by_size : (b : Bool) → is_large m p ≡ b → IsTrue (passes (moment_numbers m) q)
    by_size true e = absurd (let k : ⊥ = rw e at h in k)
    by_size false e =
        let k = rw e at h in
        nexts_pass (moment_numbers m) shown.locals.items (flattened (tree_at m p)) (nodes_pass (moment_numbers m) (kinds_of m.scenario.now.locals.items) p pass)
        (found_in (moment_scene m) (moment_worth m) (for_step (moment_scene m) shown.raws.items shown.marks.items) (meant_tree_at m p)) q k

-- What a look tells of the moment in which it is made.
use Rattle.std.proofs.Common.{◌≡◌, ◌∙◌, ◌<◌, ◌^◌, ℕ, Err, IfErr, IsErrAnd, IsTrue, Ok, Result, true, false, List, [], ap, if◌then◌else◌, length, map, subst, sym}
use Rattle.std.proofs.Math.Path.{transport}
use Rattle.std.proofs.lemmas.List.{length-map}
use Rattle.std.specs.List.{list_all}
use Rattle.lt_term.specs.Mapped.{node_passes, node_with_constraints}
use Rattle.lt_term.specs.Process.{Process}
use Rattle.lt_term.specs.Tree.{Node, flattened}
use Rattle.lt_term.specs.View.{process}
use Rattle.lt_term.specs.SceneView.{numbers_of, scene}
use Rattle.lt_term.specs.TreeView.{tree_node}
use Rattle.lt_term.specs.declared.scenario.Scenario.{Scenario}
use Rattle.lt_term.specs.declared.term.Term.{Term}
use Rattle.lt_term.specs.declared.tree.TreeNode.{TreeNode}
use Rattle.lt_legal.specs.declared.halt.Halt.{Halt}
use Rattle.lt_legal.specs.declared.halt.Halt.TheVariants as halt
use Rattle.lt_instant.specs.Instant.{worth_in}
use Rattle.lt_instant.specs.RunStateView.{configuration_behind}
use Rattle.lt_instant.specs.declared.draw_context.DrawContext.{DrawContext}
use Rattle.lt_instant.specs.inner.DrawContextView.{meaning_of, scene_of}
use Rattle.lt_check.specs.declared.looking.Look.{Look}
use Rattle.lt_check.specs.declared.moment.Moment.{Moment}
use Rattle.lt_check.specs.declared.step.ShownStep.{ShownStep}
use Rattle.lt_check.specs.inner.AskingView.{AreNodesOf, MayGiveUpOf}
use Rattle.lt_check.specs.inner.Finding.{IsHaltIn, TreeMayGiveUp, found_in, told_by}
use Rattle.lt_check.specs.inner.Followers.{nexts_by}
use Rattle.lt_check.specs.inner.LookView.{IsFindingHalt, look_lives, look_tree, look_worth}
use Rattle.lt_check.specs.inner.MomentView.{IsFollowedBy, IsMomentHalt, is_large, meant_tree_at, moment_scene, moment_worth, tree_at}
use Rattle.lt_check.specs.inner.Offered.{offered_by}
use Rattle.lt_check.specs.inner.Searches.{is_alive}
use Rattle.lt_check.specs.inner.Terms.{with_each}
use Rattle.lt_check.specs.inner.Wanted.{Wanted, for_step}
use Rattle.lt_check.proofs.FollowingNexts.{are_few}

-- nodes of what a term offers in a scenario are those of a look in it
pub nodes_of : (s : Scenario) (m : DrawContext) (term : Term) (nodes : List TreeNode) → m.scenario.now ≡ s → IsTrue (list_all (node_passes (numbers_of s)) (map tree_node nodes))
    → map (node_with_constraints (meaning_of s.table)) (map tree_node nodes) ≡ flattened (offered_by s term) → length nodes < 2 ^ 32 → AreNodesOf m term nodes
nodes_of s m term nodes e p o few = record {
  passes = subst (λ t. IsTrue (list_all (node_passes (numbers_of t)) (map tree_node nodes))) (sym e) p;
  offers = subst (λ t. map (node_with_constraints (meaning_of t.table)) (map tree_node nodes) ≡ flattened (offered_by t term)) (sym e) o;
  few = few;
}

-- they are few where they aren't too many
pub few_nodes : (m : Moment) (p : Process ℕ) (nodes : List TreeNode) → map tree_node nodes ≡ flattened (tree_at m p) → is_large m p ≡ false → length nodes < 2 ^ 32
few_nodes m p nodes e small = subst (λ n. n < 2 ^ 32) (sym (ap length e) ∙ length-map nodes tree_node) (are_few (length (flattened (tree_at m p))) small)

-- what halts a call halts the caller
pub passed_on : {A : Type 0} (r : Result A Halt) (halted : Halt) (P : Halt → Type 0) → IsErrAnd r (λ h. h ≡ halted) → P halted → IfErr r P
passed_on (Ok x) halted P is h = absurd is
passed_on (Err other) halted P is h = subst P (sym is) h

-- a look at a term in a moment
pub record IsLookAt (m : Moment) (term : Term) (look : Look) : Type 0 where
  pub scenario : look.context.scenario.now ≡ m.scenario.now
  pub past : look.context.past.now ≡ m.past
  pub inputs : look.context.inputs.now ≡ m.inputs.items
  pub budget : look.context.budget ≡ m.budget
  pub term_is : look.term.now ≡ term

module _ (m : Moment) (term : Term) (look : Look) (at : IsLookAt m term look) where
  pub scene_is : scene_of look.context ≡ moment_scene m
  scene_is = ap scene at.scenario

  pub worth_is : look_worth look ≡ moment_worth m
  worth_is = λ i. worth_in (scene (at.scenario i)) (configuration_behind (at.past i)) (at.inputs i)

  pub tree_is : look_tree look ≡ meant_tree_at m (process term)
  tree_is = λ i. offered_by (at.scenario i) (at.term_is i)

  -- the leaves that are found
  pub found_is : (v w : Wanted) → v ≡ w → found_in (scene_of look.context) (look_worth look) v (look_tree look) ≡ found_in (moment_scene m) (moment_worth m) w (meant_tree_at m (process term))
  found_is v w e = λ i. found_in (scene_is i) (worth_is i) (e i) (tree_is i)

  -- what halts a look for them
  pub halt_is : (v w : Wanted) → v ≡ w → is_large m (process term) ≡ false → (halted : Halt) → IsFindingHalt look v halted → IsMomentHalt m (process term) w halted
  halt_is v w e small halt.Memory h = tt
  halt_is v w e small (halt.Over need) h = (small, transport (λ i. IsHaltIn (scene_is i) (worth_is i) (at.budget i) (tree_is i) (e i) (halt.Over need)) h)

  -- whether a live leaf can be reached
  pub live_is : look_lives look ≡ told_by (moment_worth m) (is_alive (moment_scene m)) (meant_tree_at m (process term)) 0
  live_is = λ i. told_by (worth_is i) (is_alive (scene_is i)) (tree_is i) 0

  -- what a question of that may need
  pub need_is : (need : ℕ) → MayGiveUpOf look.context look.term.now 0 need → TreeMayGiveUp (moment_scene m) (moment_worth m) m.budget (meant_tree_at m (process term)) 0 need
  need_is need h = transport (λ i. TreeMayGiveUp (scene_is i) (worth_is i) (at.budget i) (tree_is i) 0 need) h

  -- what follows, by the leaves that are found
  pub small_followed : (step : ShownStep) (old new : List (Process ℕ)) (nodes : List (Node ℕ (Process ℕ))) (leaves : List ℕ) → is_large m (process term) ≡ false
      → nodes ≡ flattened (tree_at m (process term))
      → leaves ≡ found_in (scene_of look.context) (look_worth look) (for_step (scene_of look.context) step.raws.items step.marks.items) (look_tree look)
      → new ≡ with_each old (nexts_by step.locals.items nodes leaves) → IsFollowedBy m step (process term) old new
  small_followed step old new nodes leaves small n l e =
      let p = process term in
      let w : Wanted = for_step (moment_scene m) step.raws.items step.marks.items in
      let found = l ∙ found_is (for_step (scene_of look.context) step.raws.items step.marks.items) w (λ i. for_step (scene_is i) step.raws.items step.marks.items) in
      let nexts : List (Process ℕ) = nexts_by step.locals.items (flattened (tree_at m p)) (found_in (moment_scene m) (moment_worth m) w (meant_tree_at m p)) in
      e
      ∙ (λ i. with_each old (nexts_by step.locals.items (n i) (found i)))
      ∙ sym (ap (λ large. with_each old (if large then [] else nexts)) small)

-- nothing follows where too much is offered
pub large_followed : (m : Moment) (step : ShownStep) (p : Process ℕ) (old : List (Process ℕ)) → is_large m p ≡ true → IsFollowedBy m step p old old
large_followed m step p old large =
    let nexts : List (Process ℕ) = nexts_by step.locals.items (flattened (tree_at m p)) (found_in (moment_scene m) (moment_worth m) (for_step (moment_scene m) step.raws.items step.marks.items) (meant_tree_at m p)) in
    sym (ap (λ b. with_each old (if b then [] else nexts)) large)

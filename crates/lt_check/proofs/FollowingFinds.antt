-- What is found in a moment is what follows.
use Rattle.std.proofs.Common.{◌≡◌, ◌∙◌, ◌<◌, ◌^◌, ◌+◌, ℕ, false, Some, List, [], ◌∷◌, ◌++◌, ap, append-nil, get_or, if◌then◌else◌, length, map, subst, sym, take}
use Rattle.std.specs.List.{flat_map}
use Rattle.std.proofs.lemmas.Grind.{flat_map-append}
use Rattle.std.proofs.lemmas.List.{map-append, take_more}
use Rattle.lt_num.specs.declared.value.Value.{Value}
use Rattle.lt_term.specs.Offers.{TermLeaf, offers_of}
use Rattle.lt_term.specs.Process.{Process, with_constraints}
use Rattle.lt_term.specs.SceneView.{scene}
use Rattle.lt_term.specs.Tree.{flattened, leaf_node}
use Rattle.lt_term.specs.Unfolded.{going}
use Rattle.lt_term.specs.UnfoldingView.{instant_in}
use Rattle.lt_term.specs.View.{kinds_of}
use Rattle.lt_term.specs.declared.scenario.Scenario.{Scenario}
use Rattle.lt_term.specs.declared.unfolding.Unfolding.{Unfolding}
use Rattle.lt_instant.specs.Instant.{worth_in}
use Rattle.lt_instant.specs.RunStateView.{configuration_behind}
use Rattle.lt_instant.specs.declared.draw_context.DrawContext.{DrawContext}
use Rattle.lt_instant.specs.inner.DrawContextView.{meaning_of, worth_of}
use Rattle.lt_check.specs.declared.moment.Moment.{Moment}
use Rattle.lt_check.specs.declared.step.ShownStep.{ShownStep}
use Rattle.lt_check.specs.inner.FinderView.{leaves_in}
use Rattle.lt_check.specs.inner.Finding.{found_in}
use Rattle.lt_check.specs.inner.Followers.{next_by, nexts_by}
use Rattle.lt_check.specs.inner.MomentHolds.{moment_holds}
use Rattle.lt_check.specs.inner.MomentView.{IsFollowedBy, is_large, meant_tree_at, moment_scene, moment_worth, tree_at}
use Rattle.lt_check.specs.inner.QuestionView.{answer_holds, constraint_holds, kinds_in, step_leaves}
use Rattle.lt_check.specs.inner.Terms.{with_each}
use Rattle.lt_check.specs.inner.Wanted.{for_step}
use Rattle.lt_check.proofs.FollowingNexts.{are_few}
use Rattle.lt_check.proofs.FoundNexts.{found_nexts}
use Rattle.lt_check.proofs.Sets.{each_each}

-- what comes after a leaf
abbrev pub next_of : List Value → TermLeaf ℕ → List (Process ℕ)
next_of locals l = next_by locals (Some (leaf_node l))

-- the terms that come after one instant more
pub leaf_more : (m : DrawContext) (u : Unfolding) (locals : List Value) (old : List (Process ℕ)) (ns : List ℕ) (i : ℕ) (now new : List (Process ℕ)) → i < length ns → now ≡ with_each old (flat_map (next_of locals) (leaves_in m u (take i ns)))
    → new ≡ with_each now (next_of locals (going (instant_in (kinds_in m) u (get_or ns i 0)))) → new ≡ with_each old (flat_map (next_of locals) (leaves_in m u (take (i + 1) ns)))
leaf_more m u locals old ns i now new l so e =
    let leaf_of : ℕ → TermLeaf ℕ = λ n. going (instant_in (kinds_in m) u n) in
    let leaf : TermLeaf ℕ = leaf_of (get_or ns i 0) in
    let before : List (TermLeaf ℕ) = leaves_in m u (take i ns) in
    e
    ∙ ap (λ ts. with_each ts (next_of locals leaf)) so
    ∙ each_each old (flat_map (next_of locals) before) (next_of locals leaf)
    ∙ ap (with_each old) (ap (λ ts. flat_map (next_of locals) before ++ ts) (sym (append-nil (next_of locals leaf))) ∙ sym (flat_map-append (next_of locals) before (leaf ∷ [])))
    ∙ ap (λ (ls : List (TermLeaf ℕ)). with_each old (flat_map (next_of locals) ls)) (sym (map-append leaf_of (take i ns) (get_or ns i 0 ∷ [])) ∙ ap (map leaf_of) (sym (take_more ns i 0 l)))

-- a context of a moment
module _ (m : Moment) (x : DrawContext) (scenario : x.scenario.now ≡ m.scenario.now) (past : x.past.now ≡ m.past) (inputs : x.inputs.now ≡ m.inputs.items) where
  worth_is : worth_of x ≡ moment_worth m
  worth_is = λ i. worth_in (scene (scenario i)) (configuration_behind (past i)) (inputs i)

  -- the same constraints hold
  pub holds_is : (step : ShownStep) → constraint_holds x step ≡ moment_holds m step
  holds_is step = λ i ls c. answer_holds (scene (scenario i)) step.raws.items ((worth_is i).formula ls (meaning_of (scenario i).table c ∷ []))

  -- what comes after all that is found follows
  pub finds_followed : (step : ShownStep) (p : Process ℕ) (old new : List (Process ℕ)) (found : List (TermLeaf ℕ)) → is_large m p ≡ false → found ≡ step_leaves x step (offers_of (kinds_in x) p) → new ≡ with_each old (flat_map (next_of step.locals.items) found) → IsFollowedBy m step p old new
  finds_followed step p old new found small f e =
      let locals = step.locals.items in
      let few : length (flattened (offers_of (kinds_in x) p)) < 2 ^ 32 = subst (λ (s : Scenario). length (flattened (offers_of (kinds_of s.locals.items) p)) < 2 ^ 32) (sym scenario) (are_few (length (flattened (tree_at m p))) small) in
      let nexts : List (Process ℕ) = nexts_by locals (flattened (tree_at m p)) (found_in (moment_scene m) (moment_worth m) (for_step (moment_scene m) step.raws.items step.marks.items) (meant_tree_at m p)) in
      e
      ∙ ap (λ ls. with_each old (flat_map (next_of locals) ls)) f
      ∙ ap (with_each old) (found_nexts x p few step locals)
      ∙ (λ i. with_each old (nexts_by locals (flattened (offers_of (kinds_of (scenario i).locals.items) p)) (found_in (scene (scenario i)) (worth_is i) (for_step (scene (scenario i)) step.raws.items step.marks.items) (offers_of (kinds_of (scenario i).locals.items) (with_constraints (meaning_of (scenario i).table) p)))))
      ∙ sym (ap (λ large. with_each old (if large then [] else nexts)) small)

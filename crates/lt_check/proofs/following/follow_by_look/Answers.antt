use Rattle.std.proofs.Common.{◌≡◌, ◌∙◌, ap, arith, false, get_or, map, slice_get, take}
use Rattle.std.proofs.lemmas.List.{take_all}
use Rattle.lt_term.specs.Scene.{Scene}
use Rattle.lt_term.specs.TreeView.{tree_node}
use Rattle.lt_term.specs.View.{process}
use Rattle.lt_term.specs.declared.tree.Tree.{Tree}
use Rattle.lt_instant.specs.inner.DrawContextView.{scene_of}
use Rattle.lt_check.specs.declared.looking.Look.{Look}
use Rattle.lt_check.specs.inner.Followers.{next_by}
use Rattle.lt_check.specs.inner.MomentView.{IsFollowingHalt, is_large, moment_scene}
use Rattle.lt_check.specs.inner.TermSet.{terms_of}
use Rattle.lt_check.specs.inner.Terms.{with_each}
use Rattle.lt_check.specs.inner.Wanted.{for_step}
use Rattle.lt_check.proofs.FollowingLooks.{IsLookAt, halt_is, passed_on, scene_is, small_followed}
use Rattle.lt_check.proofs.FollowingNexts.{next_more}
use Rattle.lt_check.proofs.following.follow_by_look.Goals as goal

pub returns-in_err-leaves-clause-halts : goal.returns-in_err-leaves-clause-halts
returns-in_err-leaves-clause-halts c =
    let m = c.args.moment.now in
    let term = c.args.term.now in
    let step = c.args.step.now in
    let look : Look = c.in_ok-look.look in
    let told = c.in_ok-look.ensures in
    let small : is_large m (process term) ≡ false = c.requires.small in
    let at : IsLookAt m term look = record { scenario = told.scenario; past = told.past; inputs = told.inputs; budget = told.budget; term_is = told.term } in
    let failed = c.in_err-leaves in
    let test = λ (s : Scene). for_step s step.raws.items step.marks.items in
    let halts = halt_is m term look at (test (scene_of look.context)) (test (moment_scene m)) (ap test (scene_is m term look at)) small failed.field-0.0 failed.ensures.halts in
    passed_on c.from_residual-in_err-leaves.result failed.field-0.0 (IsFollowingHalt m step (process term)) c.from_residual-in_err-leaves.ensures.1 halts

pub loop-leaf-preserved : goal.loop-leaf-preserved
loop-leaf-preserved c =
    let items = c.deref-leaf-items.result.now in
    let at = c.loop-leaf.leaf-index in
    let terms = terms_of c.loop-leaf.terms.keys in
    next_more c.args.step.now.locals.items (map tree_node c.find.new.self.tree.nodes.items) (terms_of c.args.following.terms.keys) items at terms (terms_of c.put_next_of_leaf.new.terms.keys) c.loop-leaf-test.true c.loop-leaf.invariant
    (c.in_ok-put_next_of_leaf.ensures ∙ (λ i. with_each terms (next_by (c.deref-in-loop-leaf.ensures.value i) (slice_get (map tree_node (c.deref.ensures.value i)) (get_or items at 0)))))

pub returns-clause-follows : goal.returns-clause-follows
returns-clause-follows c =
    let m = c.args.moment.now in
    let term = c.args.term.now in
    let look : Look = c.in_ok-look.look in
    let told = c.in_ok-look.ensures in
    let small : is_large m (process term) ≡ false = c.requires.small in
    let at : IsLookAt m term look = record { scenario = told.scenario; past = told.past; inputs = told.inputs; budget = told.budget; term_is = told.term } in
    let items = c.deref-leaf-items.result.now in
    let nodes = ap (λ (t : Tree). map tree_node t.nodes.items) c.in_ok-leaves.ensures.tree ∙ told.nodes in
    let leaves = take_all c.loop-leaf.leaf-index items (omega (arith, c.loop-leaf-test.false)) ∙ c.deref-leaf-items.ensures.value ∙ c.in_ok-leaves.ensures.finds in
    small_followed m term look at c.args.step.now (terms_of c.args.following.terms.keys) (terms_of c.loop-leaf.terms.keys) (map tree_node c.find.new.self.tree.nodes.items) (take c.loop-leaf.leaf-index items) small nodes leaves c.loop-leaf.invariant

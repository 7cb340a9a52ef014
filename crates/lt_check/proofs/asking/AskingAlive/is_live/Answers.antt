use Rattle.std.proofs.Common.{◌∙◌, ◌<◌, ◌≤◌, false, true, arith, length, sym}
use Rattle.std.proofs.lemmas.Result.{err_from_is_err_and}
use Rattle.lt_instant.specs.inner.DrawContextView.{scene_of}
use Rattle.lt_check.specs.inner.AskingView.{is_leaf_alive}
use Rattle.lt_check.specs.inner.Searches.{is_alive}
use Rattle.lt_check.proofs.Alive.{any_here, any_next, any_none}
use Rattle.lt_check.proofs.AskingNodes.{beyond, halts_by, lives_by, lives_free}
use Rattle.lt_check.proofs.asking.AskingAlive.is_live.Goals as goal

pub returns-then-number-len-clause-told : goal.returns-then-number-len-clause-told
returns-then-number-len-clause-told c =
    let a = c.args.self.now in
    let past : length a.tree.now.nodes.items ≤ c.args.number = omega (arith, c.len.ensures, a.tree.now.nodes.ok.0, c.if-number-len.true) in
    beyond a.context.now a.term.now a.tree.now.nodes.items c.requires (is_alive (scene_of a.context.now)) c.args.number past

pub returns-then-branch-clause-told : goal.returns-then-branch-clause-told
returns-then-branch-clause-told c =
    let a = c.args.self.now in
    let within : c.args.number < length a.tree.now.nodes.items = omega (arith, c.len.ensures, a.tree.now.nodes.ok.0, c.if-number-len.false) in
    lives_free a.context.now a.term.now a.tree.now.nodes.items c.requires c.args.number within (sym c.if-branch.true ∙ c.in_ok-is_free.ensures.is)

pub returns-in_err-is_leaf_live-clause-halts : goal.returns-in_err-is_leaf_live-clause-halts
returns-in_err-is_leaf_live-clause-halts c =
    let a = c.args.self.now in
    let within : c.args.number < length a.tree.now.nodes.items = omega (arith, c.len.ensures, a.tree.now.nodes.ok.0, c.if-number-len.false) in
    let none = sym c.if-branch.false ∙ c.in_ok-is_free.ensures.is in
    let instants = c.deref-instant-items.ensures.value ∙ c.in_ok-instants.ensures.instants in
    let p = err_from_is_err_and c.from_residual-in_err-is_leaf_live.result c.from_residual-in_err-is_leaf_live.ensures.1 in
    rw (p.1, p.2)
    (halts_by a.context.now a.term.now a.tree.now.nodes.items c.requires c.args.number within c.in_err-is_leaf_live.field-0.0 c.deref-instant-items.result.now c.loop-instant.instant-index 0 none instants c.loop-instant-test.true c.in_err-is_leaf_live.ensures.halts)

pub returns-then-branch-2-clause-told : goal.returns-then-branch-2-clause-told
returns-then-branch-2-clause-told c =
    let a = c.args.self.now in
    let within : c.args.number < length a.tree.now.nodes.items = omega (arith, c.len.ensures, a.tree.now.nodes.ok.0, c.if-number-len.false) in
    let none = sym c.if-branch.false ∙ c.in_ok-is_free.ensures.is in
    let instants = c.deref-instant-items.ensures.value ∙ c.in_ok-instants.ensures.instants in
    lives_by a.context.now a.term.now a.tree.now.nodes.items c.requires c.args.number within true c.deref-instant-items.result.now none instants
    (c.loop-instant.invariant.left
    ∙ any_here (is_leaf_alive a) c.deref-instant-items.result.now c.loop-instant.instant-index 0 c.loop-instant-test.true (sym c.in_ok-is_leaf_live.ensures.told ∙ c.if-branch-2.true))

pub loop-instant-preserved : goal.loop-instant-preserved
loop-instant-preserved c =
    let a = c.args.self.now in
    record {
      left =
          c.loop-instant.invariant.left
          ∙ any_next (is_leaf_alive a) c.deref-instant-items.result.now c.loop-instant.instant-index 0 c.loop-instant-test.true (sym c.in_ok-is_leaf_live.ensures.told ∙ c.if-branch-2.false);
      searcher = c.in_ok-is_leaf_live.ensures.searcher;
    }

pub returns-clause-told : goal.returns-clause-told
returns-clause-told c =
    let a = c.args.self.now in
    let within : c.args.number < length a.tree.now.nodes.items = omega (arith, c.len.ensures, a.tree.now.nodes.ok.0, c.if-number-len.false) in
    let none = sym c.if-branch.false ∙ c.in_ok-is_free.ensures.is in
    let instants = c.deref-instant-items.ensures.value ∙ c.in_ok-instants.ensures.instants in
    lives_by a.context.now a.term.now a.tree.now.nodes.items c.requires c.args.number within false c.deref-instant-items.result.now none instants
    (c.loop-instant.invariant.left ∙ any_none (is_leaf_alive a) c.deref-instant-items.result.now c.loop-instant.instant-index 0 c.loop-instant-test.false)

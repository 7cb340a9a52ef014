use Rattle.std.proofs.Common.{rules, ap, sym, ◌∙◌, subst}
use Rattle.lt_term.specs.declared.term.Term.TheFolds
use Rattle.lt_term.specs.Counted.{IsCounted}
use Rattle.lt_term.specs.Offers.{in_assert, in_catch, in_par, in_seq, offers_of}
use Rattle.lt_term.specs.Process.{Process, try}
use Rattle.lt_term.specs.Tree.{flattened, with_leaves}
use Rattle.lt_term.specs.TreeView.{tree_node, tree_nodes}
use Rattle.lt_term.specs.View.{kinds_of, process}
use Rattle.lt_term.proofs.Trees.{any_counted, any_put, count_put, exist_put, loop_put, par_go, replaced_put, try_put}
use Rattle.lt_term.proofs.offering.+emit.Goals as goal

pub emit-emit_parts-requires : goal.emit-emit_parts-requires
emit-emit_parts-requires t c =
    let P = λ (u : Process _). IsCounted u in
    (search (rules, TheFolds.the_lemmas), any_counted c.in-Any.parts (subst P (ap process c.in-Any.is) c.requires))

pub emit-returns-in_ok-nodes-in-Seq : goal.emit-returns-in_ok-nodes-in-Seq
emit-returns-in_ok-nodes-in-Seq t c =
    let k = kinds_of c.args.locals.now in
    let b = process c.in-Seq.second.value in
    replaced_put k _ (in_seq b (offers_of k b)) (process c.args.term.now) (process c.in-Seq.first.value) _ _ _ (ap (λ u. offers_of k (process u)) c.in-Seq.is)
    (c.in_ok-nodes-in-Seq.ensures ∙ ap (λ u. flattened (offers_of k (process u))) c.deref.ensures) c.put_seq.ensures

pub emit-returns-in_ok-put_choice-in-Any : goal.emit-returns-in_ok-put_choice-in-Any
emit-returns-in_ok-put_choice-in-Any t c = any_put (kinds_of c.args.locals.now) _ c.in-Any.parts _ _ _ _ (ap process c.in-Any.is) c.in_ok-put_choice-in-Any.ensures c.emit_parts.ensures

pub emit-returns-in_ok-first_nodes-in-Par : goal.emit-returns-in_ok-first_nodes-in-Par
emit-returns-in_ok-first_nodes-in-Par t c =
    let k = kinds_of c.args.locals.now in
    let b = process c.deref-in-Par-2.result.now in
    replaced_put k _ (in_par (offers_of k b)) (process c.args.term.now) (process c.in-Par.first.value) _ _ _
    (ap (λ u. offers_of k (process u)) c.in-Par.is ∙ ap (λ u. with_leaves (in_par (offers_of k (process u))) (offers_of k (process c.in-Par.first.value))) (sym c.deref-in-Par-2.ensures))
    (c.in_ok-first_nodes-in-Par.ensures ∙ ap (λ u. flattened (offers_of k (process u))) c.deref-in-Par.ensures) c.put_par.ensures

pub emit-returns-in_ok-nodes-in-Assert : goal.emit-returns-in_ok-nodes-in-Assert
emit-returns-in_ok-nodes-in-Assert t c =
    let k = kinds_of c.args.locals.now in
    replaced_put k _ (in_assert c.in-Assert.constraint) (process c.args.term.now) (process c.in-Assert.body.value) _ _ _ (ap (λ u. offers_of k (process u)) c.in-Assert.is)
    (c.in_ok-nodes-in-Assert.ensures ∙ ap (λ u. flattened (offers_of k (process u))) c.deref-in-Assert.ensures) c.put_assert.ensures

pub emit-returns-in_ok-nodes-in-Exist : goal.emit-returns-in_ok-nodes-in-Exist
emit-returns-in_ok-nodes-in-Exist t c =
    let k = kinds_of c.args.locals.now in
    exist_put k _ c.start_of-start.result c.in-Exist.local c.in-Exist.last (process c.args.term.now) (process c.in-Exist.body.value) _ _ _ (ap process c.in-Exist.is) c.start_of-start.ensures
    (c.in_ok-nodes-in-Exist.ensures ∙ ap (λ u. flattened (offers_of k (process u))) c.deref-in-Exist.ensures) c.put_exist.ensures

pub emit-returns-in_ok-nodes-in-Catch : goal.emit-returns-in_ok-nodes-in-Catch
emit-returns-in_ok-nodes-in-Catch t c =
    let k = kinds_of c.args.locals.now in
    let h = process c.in-Catch.otherwise.value in
    replaced_put k _ (in_catch c.in-Catch.exception h (offers_of k h)) (process c.args.term.now) (process c.in-Catch.body.value) _ _ _ (ap (λ u. offers_of k (process u)) c.in-Catch.is)
    (c.in_ok-nodes-in-Catch.ensures ∙ ap (λ u. flattened (offers_of k (process u))) c.deref-in-Catch.ensures) c.put_catch.ensures

pub emit-returns-in_ok-nodes-in-Loop : goal.emit-returns-in_ok-nodes-in-Loop
emit-returns-in_ok-nodes-in-Loop t c =
    let body = ap process c.deref-in-Loop.ensures in
    loop_put _ _ _ _ _ _ _ (ap process c.in-Loop.is) (c.in_ok-nodes-in-Loop.ensures ∙ ap (λ u. flattened (offers_of (kinds_of c.args.locals.now) u)) body) c.put_loop.ensures

pub emit-returns-in_ok-nodes-in-Count : goal.emit-returns-in_ok-nodes-in-Count
emit-returns-in_ok-nodes-in-Count t c =
    let body = ap process c.deref-in-Count.ensures in
    count_put _ _ _ _ _ _ _ _ _ (ap process c.in-Count.is) (c.in_ok-nodes-in-Count.ensures ∙ ap (λ u. flattened (offers_of (kinds_of c.args.locals.now) u)) body) c.put_counted.ensures

pub emit-returns-in_ok-put_try-in-Try : goal.emit-returns-in_ok-put_try-in-Try
emit-returns-in_ok-put_try-in-Try t c =
    try_put _ _ _ _ _ _ _ _ _ _ _ (ap process c.in-Try.is ∙ ap (λ u. try (process u) (process c.in-Try.otherwise.value)) (sym c.deref-in-Try.ensures))
    c.in_ok-nodes-in-Try.ensures c.in_ok-put-in-Try.ensures c.in_ok-put_try-in-Try.ensures (ap process c.deref-in-Try-2.ensures) c.emit-in-Try.ensures

pub put_par-loop-node-preserved-in-Go : goal.put_par-loop-node-preserved-in-Go
put_par-loop-node-preserved-in-Go t c =
    par_go (kinds_of c.args.locals.now) (process c.args.second.now) (process c.in-Go.next.value) c.in-Go.constraints.items c.in-Go.lasts.items c.in-Some.node c.loop-node.yielded
    (tree_nodes c.args.out.now.items) (tree_nodes c.loop-node.out.items) _ (tree_nodes c.in_ok-others-in-Go.others.items)
    (ap tree_node c.in-Go.is) c.in_ok-others-in-Go.ensures c.loop-node.invariant c.in_ok-put_joined-in-Go.ensures

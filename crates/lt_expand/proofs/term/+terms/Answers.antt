use Rattle.std.proofs.Common.{◌∙◌, ap, arith, rules, subst, sym}
use Rattle.lt_macros.specs.declared.tree.Expanded.TheFolds
use Rattle.lt_formula.specs.View.{table_expressions, table_kinds}
use Rattle.lt_macros.specs.Expanded as x
use Rattle.lt_macros.specs.Tree.{exception, expanded, parts, placed}
use Rattle.lt_term.specs.Named.{parts_in}
use Rattle.lt_term.specs.View.{process}
use Rattle.lt_expand.specs.Scenes.{process_of}
use Rattle.lt_expand.specs.inner.Declarations.{exceptions}
use Rattle.lt_expand.specs.inner.Put.{IsFilled, IsTerm}
use Rattle.lt_expand.specs.inner.Ready.{AreReady}
use Rattle.lt_expand.proofs.Filled.{alternative_filled, alternatives_filled, filled_none}
use Rattle.lt_expand.proofs.Grown.{alternative_put, alternatives_put, grown_alone, grown_both, none_put, part_ready}
use Rattle.lt_expand.proofs.Puts.{any_put, assert_put, catch_put, dead_put, eps_put, par_put, pri_put, raise_put, ready_still, same_put, seq_put, try_put}
use Rattle.lt_expand.proofs.term.+terms.Goals as goal

pub put_any-put_expression-requires : goal.put_any-put_expression-requires
put_any-put_expression-requires t c =
    (part_ready (table_kinds c.args.table.now) _ (exceptions c.args.known.now) c.args.alternatives.now c.deref-alternative-items.result.now c.loop-alternative.alternative-index
    c.alternative-item.result
    c.deref-alternative-items.ensures.value c.loop-alternative-test.true c.alternative-item.is c.loop-alternative.invariant.grown.kinds c.requires).0

pub put_any-put_term-requires : goal.put_any-put_term-requires
put_any-put_term-requires t c = (
  search (rules, TheFolds.the_lemmas),
  subst (λ b. AreReady (table_kinds c.put_expression.new.table) (exceptions c.args.known.now) (expanded b)) (sym c.deref.ensures)
      (part_ready (table_kinds c.args.table.now) (table_kinds c.put_expression.new.table) (exceptions c.args.known.now) c.args.alternatives.now c.deref-alternative-items.result.now
      c.loop-alternative.alternative-index c.alternative-item.result
      c.deref-alternative-items.ensures.value c.loop-alternative-test.true c.alternative-item.is (c.in_ok-weight.ensures.grown.kinds ∙ c.loop-alternative.invariant.grown.kinds) c.requires).1,
)

pub put_any-loop-alternative-init : goal.put_any-loop-alternative-init
put_any-loop-alternative-init t c = record {
  put = none_put (table_expressions c.args.table.now) (exceptions c.args.known.now) c.in_ok-made.made.items c.in_ok-made.ensures.items;
  grown = grown_alone c.args.table.now;
  filled = filled_none (table_expressions c.args.table.now);
}

pub put_any-loop-alternative-preserved : goal.put_any-loop-alternative-preserved
put_any-loop-alternative-preserved t c = record {
  put =
      alternative_put (table_expressions c.loop-alternative.table) (table_expressions c.put_expression.new.table) (table_expressions c.put_term.new.table) (exceptions c.args.known.now)
      c.deref-alternative-items.result.now c.loop-alternative.alternative-index c.alternative-item.result c.loop-alternative.made.items c.push.new.self.items c.in_ok-weight.weight c.in_ok-body.body
      c.loop-alternative-test.true c.alternative-item.is c.in_ok-weight.ensures.grown.keeps c.in_ok-body.ensures.grown.keeps c.loop-alternative.invariant.put c.in_ok-weight.ensures.number
      (subst (λ b. IsTerm (table_expressions c.put_term.new.table) (exceptions c.args.known.now) (expanded b) (process c.in_ok-body.body)) c.deref.ensures c.in_ok-body.ensures.term)
      c.in_ok-push.ensures.items;
  grown = grown_both _ _ _ c.loop-alternative.invariant.grown (grown_both _ _ _ c.in_ok-weight.ensures.grown c.in_ok-body.ensures.grown);
  filled =
      alternative_filled (table_expressions c.args.table.now) (table_expressions c.loop-alternative.table) (table_expressions c.put_expression.new.table) (table_expressions c.put_term.new.table)
      (exceptions c.args.known.now) c.deref-alternative-items.result.now c.loop-alternative.alternative-index c.alternative-item.result c.loop-alternative-test.true c.alternative-item.is
      c.loop-alternative.invariant.filled c.in_ok-weight.ensures.filled
      (subst (λ b. IsFilled (table_expressions c.put_expression.new.table) (table_expressions c.put_term.new.table) (parts_in (process_of (exceptions c.args.known.now) (expanded b)))) c.deref.ensures
      c.in_ok-body.ensures.filled);
}

pub put_any-returns : goal.put_any-returns
put_any-returns t c =
    any_put c.args.table.now c.loop-alternative.table (exceptions c.args.known.now) (parts c.args.alternatives.now) c.loop-alternative.made
    (alternatives_put (table_expressions c.loop-alternative.table) (exceptions c.args.known.now) c.args.alternatives.now c.deref-alternative-items.result.now c.loop-alternative.alternative-index
    c.loop-alternative.made.items
    c.deref-alternative-items.ensures.value (omega arith) c.loop-alternative.invariant.put)
    c.loop-alternative.invariant.grown
    (alternatives_filled (table_expressions c.args.table.now) (table_expressions c.loop-alternative.table) (exceptions c.args.known.now) c.args.alternatives.now c.deref-alternative-items.result.now
    c.loop-alternative.alternative-index
    c.deref-alternative-items.ensures.value (omega arith) c.loop-alternative.invariant.filled)

pub put_seq-put_part-requires-2 : goal.put_seq-put_part-requires-2
put_seq-put_part-requires-2 t c = (
  search (rules, TheFolds.the_lemmas),
  ready_still _ _ (exceptions c.args.known.now) (expanded c.args.second.now) c.in_ok-first.ensures.grown c.requires.1,
)

pub put_seq-returns : goal.put_seq-returns
put_seq-returns t c = seq_put _ _ _ _ _ _ _ _ c.in_ok-first.ensures c.in_ok-second.ensures

pub put_pri-put_part-requires-2 : goal.put_pri-put_part-requires-2
put_pri-put_part-requires-2 t c = (
  search (rules, TheFolds.the_lemmas),
  ready_still _ _ (exceptions c.args.known.now) (expanded c.args.second.now) c.in_ok-first.ensures.grown c.requires.1,
)

pub put_pri-returns : goal.put_pri-returns
put_pri-returns t c = pri_put _ _ _ _ _ _ _ _ c.in_ok-first.ensures c.in_ok-second.ensures

pub put_par-put_part-requires-2 : goal.put_par-put_part-requires-2
put_par-put_part-requires-2 t c = (
  search (rules, TheFolds.the_lemmas),
  ready_still _ _ (exceptions c.args.known.now) (expanded c.args.second.now) c.in_ok-first.ensures.grown c.requires.1,
)

pub put_par-returns : goal.put_par-returns
put_par-returns t c = par_put _ _ _ _ _ _ _ _ c.in_ok-first.ensures c.in_ok-second.ensures

pub put_try-put_part-requires-2 : goal.put_try-put_part-requires-2
put_try-put_part-requires-2 t c = (
  search (rules, TheFolds.the_lemmas),
  ready_still _ _ (exceptions c.args.known.now) (expanded c.args.otherwise.now) c.in_ok-body.ensures.grown c.requires.1,
)

pub put_try-returns : goal.put_try-returns
put_try-returns t c = try_put _ _ _ _ _ _ _ _ c.in_ok-body.ensures c.in_ok-otherwise.ensures

pub put_catch-put_part-requires-2 : goal.put_catch-put_part-requires-2
put_catch-put_part-requires-2 t c = (
  search (rules, TheFolds.the_lemmas),
  ready_still _ _ (exceptions c.args.known.now) (expanded c.args.otherwise.now) c.in_ok-body.ensures.grown c.requires.1.1,
)

pub put_catch-returns : goal.put_catch-returns
put_catch-returns t c =
    catch_put _ _ _ _ (exception c.args.caught.now) c.exception_number-exception.result _ _ _ _ c.exception_number-exception.ensures c.requires.0 c.in_ok-body.ensures c.in_ok-otherwise.ensures

pub put_term-returns-in-Eps : goal.put_term-returns-in-Eps
put_term-returns-in-Eps t c = same_put _ _ _ (expanded c.args.trace.now) x.eps _ (ap expanded c.in-Eps.is) (eps_put c.args.table.now (exceptions c.args.known.now))

pub put_term-returns-in-Dead : goal.put_term-returns-in-Dead
put_term-returns-in-Dead t c = same_put _ _ _ (expanded c.args.trace.now) x.dead _ (ap expanded c.in-Dead.is) (dead_put c.args.table.now (exceptions c.args.known.now))

pub put_term-returns-in-Raise : goal.put_term-returns-in-Raise
put_term-returns-in-Raise t c =
    same_put _ _ _ (expanded c.args.trace.now) (x.raise (exception c.in-Raise.raised)) _ (ap expanded c.in-Raise.is)
    (raise_put c.args.table.now (exceptions c.args.known.now) (exception c.in-Raise.raised) c.exception_number.result c.exception_number.ensures
    (subst (AreReady (table_kinds c.args.table.now) (exceptions c.args.known.now)) (ap expanded c.in-Raise.is) c.requires))

pub put_term-returns-in_ok-body-in-Assert : goal.put_term-returns-in_ok-body-in-Assert
put_term-returns-in_ok-body-in-Assert t c =
    same_put _ _ _ (expanded c.args.trace.now) (x.assert (placed c.in-Assert.constraint) (expanded c.deref-in-Assert.result.now)) _
    (ap expanded c.in-Assert.is ∙ (λ i. x.assert (placed c.in-Assert.constraint) (expanded (sym c.deref-in-Assert.ensures i))))
    (assert_put _ _ _ _ (placed c.in-Assert.constraint) c.in_ok-constraint-in-Assert.constraint _ _ c.in_ok-constraint-in-Assert.ensures.number c.in_ok-constraint-in-Assert.ensures.grown
    c.in_ok-constraint-in-Assert.ensures.filled c.in_ok-body-in-Assert.ensures)

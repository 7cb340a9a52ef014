use Rattle.std.proofs.Common.{subst, sym}
use Rattle.lt_formula.specs.View.{table_kinds}
use Rattle.lt_macros.specs.Tree.{placed}
use Rattle.lt_expand.specs.inner.Ready.{IsReady}
use Rattle.lt_expand.proofs.Declares.{all_at}
use Rattle.lt_expand.proofs.Given.{given_more}
use Rattle.lt_expand.proofs.calls.put_arguments.Goals as goal

pub put_expression-requires : goal.put_expression-requires
put_expression-requires c =
    subst (λ ks. IsReady ks (placed c.argument-item.result)) (sym c.loop-argument.invariant.kinds)
    (all_at (IsReady (table_kinds c.args.table.now)) placed c.args.written.now c.loop-argument.argument-index c.argument-item.result c.requires c.loop-argument-test.true c.argument-item.is)

pub loop-argument-preserved : goal.loop-argument-preserved
loop-argument-preserved c =
    given_more c.args.table.now c.loop-argument.table c.put_expression.new.table c.args.written.now c.loop-argument.argument-index c.argument-item.result c.loop-argument.numbers.items c.push.new.self.items
    c.in_ok-put_expression.field-0 c.loop-argument-test.true c.argument-item.is c.loop-argument.invariant c.in_ok-put_expression.ensures.grown c.in_ok-put_expression.ensures.number c.in_ok-push.ensures.items

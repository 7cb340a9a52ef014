use Rattle.std.proofs.Common.{subst, ◌∙◌}
use Rattle.lt_formula.specs.View.{table_kinds}
use Rattle.lt_macros.specs.Tree.{node}
use Rattle.lt_expand.specs.Calls.{IsOver}
use Rattle.lt_expand.proofs.Given.{runs_more}
use Rattle.lt_expand.proofs.Runs.{call_ready}
use Rattle.lt_expand.proofs.calls.calls_of.Goals as goal

pub call_of-requires : goal.call_of-requires
call_of-requires c =
    call_ready c.args.from.now (table_kinds c.new-table.result) c.deref-run-items.result.now c.loop-run.run-index c.run-item.result c.requires.named c.requires.inside
    (c.new-table.ensures.kinds ∙ c.in_ok-kinds.ensures) c.deref-run-items.ensures.value c.loop-run-test.true c.run-item.is

pub loop-run-preserved : goal.loop-run-preserved
loop-run-preserved c =
    runs_more (node c.args.from.now) c.deref-run-items.result.now c.loop-run.run-index c.run-item.result c.loop-run.calls.items c.push.new.self.items c.in_ok-call_of.field-0 c.loop-run-test.true c.run-item.is
    c.loop-run.invariant c.in_ok-call_of.ensures.call (subst (λ ks. IsOver ks c.in_ok-call_of.field-0) (c.new-table.ensures.kinds ∙ c.in_ok-kinds.ensures) c.in_ok-call_of.ensures.over) c.in_ok-push.ensures.items

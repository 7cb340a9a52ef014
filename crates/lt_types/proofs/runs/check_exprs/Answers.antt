use Rattle.std.proofs.Common.{arith}
use Rattle.std.proofs.lemmas.Grind.{common_steps}
use Rattle.lt_types.proofs.Leading.{leads}
use Rattle.lt_types.proofs.Stacks.{drop_next}
use Rattle.lt_types.proofs.runs.check_exprs.Goals as goal

pub loop-expr-preserved : goal.loop-expr-preserved
loop-expr-preserved c = grind (arith, common_steps)

pub returns-in_err-check_expr : goal.returns-in_err-check_expr
returns-in_err-check_expr c = grind (arith, leads, drop_next)

pub returns-in_err-push : goal.returns-in_err-push
returns-in_err-push c = grind (arith, leads, drop_next)

use Rattle.std.proofs.Common.{arith}
use Rattle.lt_macros.proofs.Plain.{number_shown, expressions}
use Rattle.lt_macros.proofs.constructors.expr_at.Goals as goal

pub returns-in-Number : goal.returns-in-Number
returns-in-Number c = λ h. number_shown c.args.environment c.args.expr.now _ c.in-Number.is

pub returns-in-Flag : goal.returns-in-Flag
returns-in-Flag c = grind (arith, expressions)

pub returns-in-Unary : goal.returns-in-Unary
returns-in-Unary c = grind (arith, expressions)

pub returns-in-Binary : goal.returns-in-Binary
returns-in-Binary c = grind (arith, expressions)

pub returns-in-If : goal.returns-in-If
returns-in-If c = grind (arith, expressions)

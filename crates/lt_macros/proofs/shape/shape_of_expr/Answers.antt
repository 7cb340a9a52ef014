use Rattle.std.proofs.Common.{arith}
use Rattle.lt_macros.proofs.Covers.{covers}
use Rattle.lt_macros.proofs.Uses.{named_is}
use Rattle.lt_macros.proofs.shape.shape_of_expr.Goals as goal

pub returns-in-Named : goal.returns-in-Named
returns-in-Named c = named_is c.args.expr.now c.in-Named.name c.in-Named.args c.given.result.now c.in-Named.is c.given.ensures

pub returns-in-Paren : goal.returns-in-Paren
returns-in-Paren c = grind (arith, covers)

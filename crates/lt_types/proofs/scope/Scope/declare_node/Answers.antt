use Rattle.std.proofs.Common.{arith}
use Rattle.lt_types.proofs.Leading.{leads}
use Rattle.lt_types.proofs.scope.Scope.declare_node.Goals as goal

pub returns-in_err-push : goal.returns-in_err-push
returns-in_err-push c = grind (arith, leads)

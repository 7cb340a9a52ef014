use Rattle.lt_ast.specs.View.{program}
use Rattle.lt_types.proofs.Checking.{unrefused_typed}
use Rattle.lt_types.proofs.program.check.Goals as goal

pub returns-clause-typed : goal.returns-clause-typed
returns-clause-typed c = unrefused_typed c.args.decimals (program c.args.program) c.in_ok-check_program.ensures

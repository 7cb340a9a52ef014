use Rattle.lt_ast.specs.View.{program}
use Rattle.lt_types.proofs.Checking.{unrefused_typed}
use Rattle.lt_types.proofs.program.Typed.program.Goals as goal

pub returns-clause-typed : goal.returns-clause-typed
returns-clause-typed c = unrefused_typed c.args.self.now.decimals (program c.args.self.now.program) c.args.self.now.unrefused

use Rattle.lt_ast.specs.View.{program}
use Rattle.lt_frontend.proofs.Leading.{LeadsSo}
use Rattle.lt_frontend.proofs.nest.first_large.Given as goal

-- those before have nests
abbrev pub invariant-loop-declared : goal.invariant-loop-declared
invariant-loop-declared l = LeadsSo l.typed.decimals (program l.typed.program) l.declared-items l.declared-index

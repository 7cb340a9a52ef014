use Rattle.std.proofs.Common.{map}
use Rattle.lt_ast.specs.View.{program}
use Rattle.lt_expand.specs.Nested.{runs_in_nest}
use Rattle.lt_macros.specs.Answer.{asked_name}
use Rattle.lt_frontend.specs.NestView.{nest}
use Rattle.lt_frontend.proofs.Nesting.{IsOnward}
use Rattle.lt_frontend.proofs.nest.+nest_of.Given as goal

-- a node that is run has a nest of fewer runs
abbrev pub decreases-small_nest : goal.decreases-small_nest
decreases-small_nest l = runs_in_nest (asked_name l.node) (program l.typed.now.program)

-- what the rest have, all have behind those that are made
abbrev pub invariant-loop-declared : goal.invariant-loop-declared
invariant-loop-declared l = IsOnward l.typed.decimals (program l.typed.program) l.declared-items l.declared-index (map nest l.inner.items)

use Rattle.std.proofs.Common.{arith}
use Rattle.lt_types.proofs.Leading.{leads}
use Rattle.lt_types.proofs.Scopes.{node_oldest, scope_ends}
use Rattle.lt_types.proofs.program.check_node.Goals as goal

pub returns-in_err-check_new_node : goal.returns-in_err-check_new_node
returns-in_err-check_new_node c = grind (arith, leads, scope_ends)

pub returns-in_err-check_groups : goal.returns-in_err-check_groups
returns-in_err-check_groups c = grind (arith, leads, scope_ends)

pub returns-in_err-check_groups-2 : goal.returns-in_err-check_groups-2
returns-in_err-check_groups-2 c = grind (arith, leads, scope_ends)

pub returns-in_err-check_runs : goal.returns-in_err-check_runs
returns-in_err-check_runs c = grind (arith, leads, scope_ends)

pub returns-in_err-check_trace : goal.returns-in_err-check_trace
returns-in_err-check_trace c = grind (arith, leads, scope_ends)

pub forget_names-requires : goal.forget_names-requires
forget_names-requires c = grind (arith, scope_ends)

pub returns-clause-declared : goal.returns-clause-declared
returns-clause-declared c = grind (arith, leads, scope_ends, node_oldest)

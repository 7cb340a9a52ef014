use Rattle.std.proofs.Common.{◌≡◌, ◌++◌, map, drop}
use Rattle.lt_ast.specs.inner.Lists.{groups_of}
use Rattle.lt_ast.specs.inner.Rows.{group_of}
use Rattle.lt_ast.specs.View.{groupings}
use Rattle.lt_types.specs.Environment.{groups_inputs}
use Rattle.lt_types.specs.inner.Scoping.{input_view}
use Rattle.lt_types.proofs.node_types.add_inputs.Given as goal

-- what is there and what is left are all
abbrev pub invariant-loop-group : goal.invariant-loop-group
invariant-loop-group l =
    map input_view l.all.items ++ groups_inputs (groups_of (map group_of (drop l.group-index l.group-items)))
    ≡ map input_view l.fn.all.items ++ groups_inputs (groupings l.groups)

use Rattle.std.proofs.Common.{◌≡◌, ◌++◌, map, drop}
use Rattle.lt_ast.specs.inner.Lists.{groups_of}
use Rattle.lt_ast.specs.inner.Rows.{group_of}
use Rattle.lt_ast.specs.View.{groupings}
use Rattle.lt_types.specs.Environment.{groups_types}
use Rattle.lt_types.proofs.node_types.add_types.Given as goal

-- what is there and what is left are all
abbrev pub invariant-loop-group : goal.invariant-loop-group
invariant-loop-group l =
    l.all.items ++ groups_types (groups_of (map group_of (drop l.group-index l.group-items)))
    ≡ l.fn.all.items ++ groups_types (groupings l.groups)

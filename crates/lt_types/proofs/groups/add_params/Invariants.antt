use Rattle.std.proofs.Common.{◌≡◌, ◌++◌, map, drop}
use Rattle.lt_ast.specs.inner.Lists.{groups_of}
use Rattle.lt_ast.specs.inner.Rows.{group_of}
use Rattle.lt_ast.specs.View.{groupings}
use Rattle.lt_types.specs.Environment.{groups_parameters}
use Rattle.lt_types.specs.inner.Scoping.{param_view}
use Rattle.lt_types.proofs.groups.add_params.Given as goal

-- what is there and what is left are all
abbrev pub invariant-loop-group : goal.invariant-loop-group
invariant-loop-group l =
    map param_view l.all.items ++ groups_parameters (groups_of (map group_of (drop l.group-index l.group-items)))
    ≡ map param_view l.fn.all.items ++ groups_parameters (groupings l.groups)

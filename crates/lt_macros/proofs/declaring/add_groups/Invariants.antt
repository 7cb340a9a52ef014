use Rattle.std.proofs.Common.{◌≡◌, ◌++◌, map, drop}
use Rattle.lt_ast.specs.inner.Lists.{groups_of}
use Rattle.lt_ast.specs.inner.Rows.{group_of}
use Rattle.lt_ast.specs.View.{groupings}
use Rattle.lt_macros.specs.Denotation.{groups_names}
use Rattle.lt_macros.specs.inner.Parameters.{name_text}
use Rattle.lt_macros.proofs.declaring.add_groups.Given as goal

-- what is there and what is left are all
abbrev pub invariant-loop-group : goal.invariant-loop-group
invariant-loop-group l = map name_text l.all.items ++ groups_names (groups_of (map group_of (drop l.group-index l.group-items))) ≡ map name_text l.fn.all.items ++ groups_names (groupings l.groups)

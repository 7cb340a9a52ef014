use Rattle.std.proofs.Common.{◌≡◌, ◌+◌, length, map, drop}
use Rattle.lt_ast.specs.inner.Lists.{groups_of}
use Rattle.lt_ast.specs.inner.Rows.{group_of}
use Rattle.lt_macros.specs.Denotation.{groups_names}
use Rattle.lt_macros.proofs.counting_runs.name_count.Given as goal

-- the names of the other groups are still to be counted
abbrev pub invariant-loop-group : goal.invariant-loop-group
invariant-loop-group l = l.count + length (groups_names (groups_of (map group_of (drop l.group-index l.group-items)))) ≡ length (groups_names (groups_of (map group_of l.group-items)))

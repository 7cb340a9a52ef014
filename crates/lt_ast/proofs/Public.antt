-- What the proofs of other crates may cite of this one: the lists of a tree are those that the code has.
use Rattle.std.proofs.Common.{◌≡◌, Vec, Global, map}
use Rattle.lt_ast.specs.inner.Lists.{arguments_of, alternatives_of, traces_of, groups_of}
use Rattle.lt_ast.specs.inner.Rows.{part_of, group_of}
use Rattle.lt_ast.specs.View.{argument, argument_row, trace, trace_row, alternatives, groupings}
use Rattle.lt_ast.specs.declared.expr.Arg.{Arg}
use Rattle.lt_ast.specs.declared.trace.TraceExpr.{TraceExpr}
use Rattle.lt_ast.specs.declared.trace.Parts.{Parts, out-Parts}
use Rattle.lt_ast.specs.declared.group.Groups.{Groups, out-Groups}
use Rattle.lt_ast.specs.declared.expr.Arg.TheBlock.{hidden-the_row-TraceExpr-1, hidden-the_row-Arg-0}
use Rattle.lt_ast.proofs.Lists as lists

-- traces
pub traces_list : (v : Vec TraceExpr Global) → trace_row (hidden-the_row-TraceExpr-1 v) ≡ traces_of (map trace v.items)
traces_list = lists.traces_list

-- arguments
pub arguments_list : (v : Vec Arg Global) → argument_row (hidden-the_row-Arg-0 v) ≡ arguments_of (map argument v.items)
arguments_list = lists.arguments_list

-- alternatives
pub alternatives_list : (p : Parts) → alternatives p ≡ alternatives_of (map part_of (out-Parts p).items.items)
alternatives_list = lists.alternatives_list

-- groups
pub groups_list : (g : Groups) → groupings g ≡ groups_of (map group_of (out-Groups g).items.items)
groups_list = lists.groups_list

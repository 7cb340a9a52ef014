-- The lists of a tree are those that the code has.
use Rattle.std.proofs.Common.{◌≡◌, Vec, Global, map, refl, ap, sym, ◌∙◌}
use mathlib.Core.Former.{Count}
use Rattle.lt_ast.specs.Syntax as s
use Rattle.lt_ast.specs.inner.Lists.{arguments_of, alternatives_of, traces_of, groups_of}
use Rattle.lt_ast.specs.inner.Rows.{maybe_exp, part_of, weighed, group_of}
use Rattle.lt_ast.specs.View.{word, written_range, argument, argument_row, trace, trace_row, alternative, alternatives, part_row, groupings, group_row, maybe_exp as held_exp}
use Rattle.lt_ast.specs.declared.expr.Arg.{Arg}
use Rattle.lt_ast.specs.declared.expr.Expr.{Row_of-Arg, end_of-Arg, more_of-Arg, items-the_row-Arg, items_hidden-the_row-Arg-0}
use Rattle.lt_ast.specs.declared.trace.TraceExpr.{TraceExpr, Row_of-TraceExpr, end_of-TraceExpr, more_of-TraceExpr, items-the_row-TraceExpr, items_hidden-the_row-TraceExpr-1}
use Rattle.lt_ast.specs.declared.trace.Part.{Held-Group-first, Group-first-None', Group-first-Some', view-Group-first}
use Rattle.lt_ast.specs.declared.trace.Parts.{Parts, Parts', out-Parts, Row_of-Part, end_of-Part, more_of-Part, items-the_row-Part, items_shown-the_row-Part-3}
use Rattle.lt_ast.specs.declared.group.Groups.{Groups, Groups', out-Groups, Row_of-Group, end_of-Group, more_of-Group, items-the_row-Group, items_shown-the_row-Group-2}
use Rattle.lt_ast.specs.declared.expr.Arg.TheBlock.{hidden-the_row-TraceExpr-1, hidden-the_row-Arg-0, shown-the_row-Part-3, shown-the_row-Group-2}
use denote.Hole.Carrier.{out}

argument_row-list : {n : Count} (k : Row_of-Arg n) → argument_row k ≡ arguments_of (map argument (items-the_row-Arg n k))
argument_row-list end_of-Arg = refl
argument_row-list (more_of-Arg a rest) = ap (s.argument (argument a)) (argument_row-list rest)

trace_row-list : {n : Count} (k : Row_of-TraceExpr n) → trace_row k ≡ traces_of (map trace (items-the_row-TraceExpr n k))
trace_row-list end_of-TraceExpr = refl
trace_row-list (more_of-TraceExpr t rest) = ap (s.one_trace (trace t)) (trace_row-list rest)

alternative-held : (w : Held-Group-first) (t : TraceExpr) → alternative w (trace t) ≡ weighed (view-Group-first w) t
alternative-held Group-first-None' t = refl
alternative-held (Group-first-Some' e) t = refl

exp-held : (w : Held-Group-first) → held_exp w ≡ maybe_exp (view-Group-first w)
exp-held Group-first-None' = refl
exp-held (Group-first-Some' e) = refl

part_row-list : {n : Count} (k : Row_of-Part n) → part_row k ≡ alternatives_of (map part_of (items-the_row-Part n k))
part_row-list end_of-Part = refl
part_row-list (more_of-Part w t rest) = λ i. s.alternative (alternative-held w t i) (part_row-list rest i)

group_row-list : {n : Count} (k : Row_of-Group n) → group_row k ≡ groups_of (map group_of (items-the_row-Group n k))
group_row-list end_of-Group = refl
group_row-list (more_of-Group names kind by_ref range first rest) =
    λ i. s.one_group (s.grouping (map word names.items.items) kind by_ref (written_range range) (exp-held first i)) (group_row-list rest i)

-- of the list in a tree
pub traces_list : (v : Vec TraceExpr Global) → trace_row (hidden-the_row-TraceExpr-1 v) ≡ traces_of (map trace v.items)
traces_list v = trace_row-list (hidden-the_row-TraceExpr-1 v) ∙ ap (λ xs. traces_of (map trace xs)) (items_hidden-the_row-TraceExpr-1 v)

pub arguments_list : (v : Vec Arg Global) → argument_row (hidden-the_row-Arg-0 v) ≡ arguments_of (map argument v.items)
arguments_list v = argument_row-list (hidden-the_row-Arg-0 v) ∙ ap (λ xs. arguments_of (map argument xs)) (items_hidden-the_row-Arg-0 v)

pub alternatives_list : (p : Parts) → alternatives p ≡ alternatives_of (map part_of (out-Parts p).items.items)
unfolding out-Parts out shown-the_row-Part-3
alternatives_list (Parts' shape row) = part_row-list row ∙ ap (λ xs. alternatives_of (map part_of xs)) (sym (items_shown-the_row-Part-3 shape row))

pub groups_list : (g : Groups) → groupings g ≡ groups_of (map group_of (out-Groups g).items.items)
unfolding out-Groups out shown-the_row-Group-2
groups_list (Groups' shape row) = group_row-list row ∙ ap (λ xs. groups_of (map group_of xs)) (sym (items_shown-the_row-Group-2 shape row))

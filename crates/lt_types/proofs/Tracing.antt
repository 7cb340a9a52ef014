-- The lists of a trace, as the code has them.
use Rattle.std.proofs.Common.{◌≡◌, List, Vec, Global, Result, map, ap, sym, subst, ◌∙◌}
use Rattle.lt_ast.specs.inner.Lists.{traces_of, alternatives_of}
use Rattle.lt_ast.specs.View.{trace, trace_row, alternatives}
use Rattle.lt_ast.specs.declared.expr.Arg.TheBlock.{hidden-the_row-TraceExpr-1}
use Rattle.lt_ast.specs.declared.trace.TraceExpr.{TraceExpr}
use Rattle.lt_ast.specs.declared.trace.Parts.{Parts, out-Parts}
use Rattle.lt_ast.proofs.Public.{traces_list, alternatives_list}
use Rattle.lt_ast.specs.inner.Rows.{part_of}
use Rattle.lt_types.specs.inner.Checks.{Checks}
use Rattle.lt_types.specs.Environment.{Environment}
use Rattle.lt_types.specs.Refusals.{traces_refusals, alternatives_refusals}
use Rattle.lt_types.specs.declared.refusal.TypeRefusal.{TypeRefusal}
use Rattle.lt_types.proofs.Stacks.{drop_next}

-- traces
pub rows_refusals : (env : Environment) (v : Vec TraceExpr Global) (xs : List TraceExpr) → xs ≡ v.items → traces_refusals env (traces_of (map trace xs)) ≡ traces_refusals env (trace_row (hidden-the_row-TraceExpr-1 v))
rows_refusals env v xs e = ap (λ l. traces_refusals env (traces_of (map trace l))) e ∙ ap (traces_refusals env) (sym (traces_list v))

-- what is said of a list is said of one that is equal
pub Checks_same : {X : Type 0} (r : Result X TypeRefusal) (xs ys : List TypeRefusal) → xs ≡ ys → Checks r xs → Checks r ys
Checks_same r xs ys e h = subst (λ l. Checks r l) e h

-- alternatives
pub parts_refusals : (env : Environment) (p : Parts) → alternatives_refusals env (alternatives p) ≡ alternatives_refusals env (alternatives_of (map part_of (out-Parts p).items.items))
parts_refusals env p = ap (alternatives_refusals env) (alternatives_list p)

pub ruleset parts_steps = (parts_refusals, drop_next)

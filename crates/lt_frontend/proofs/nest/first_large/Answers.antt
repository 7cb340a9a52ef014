use Rattle.std.proofs.Common.{Some, None, Err, map, sym, ◌∙◌, subst}
use Rattle.std.proofs.lemmas.Result.{err_from_is_err_and}
use Rattle.lt_ast.specs.View.{program, run}
use Rattle.lt_frontend.specs.Nest.{IsNestAnswer, LeadsOn}
use Rattle.lt_frontend.specs.NestView.{nest}
use Rattle.lt_frontend.proofs.Leading.{leads_next, leads_nowhere, refused_on}
use Rattle.lt_frontend.proofs.Nesting.{told_so}
use Rattle.lt_frontend.proofs.nest.first_large.Goals as goal

pub returns-in_err-small_nest-clause-refused : goal.returns-in_err-small_nest-clause-refused
returns-in_err-small_nest-clause-refused c =
    let p = err_from_is_err_and c.from_residual.result c.from_residual.ensures.1 in
    let ds = program c.args.typed.now.program in
    let told = told_so (λ reason. IsNestAnswer c.args.typed.now.decimals ds (Some c.as_str-name.result.now) (Err reason)) (λ reason. IsNestAnswer c.args.typed.now.decimals ds (Some c.args.node.now) (Err reason)) c.in_err-small_nest.field-0.0
    (λ reason h. refused_on c.args.typed.now.decimals ds (Some c.args.node.now) c.runs_in-declared-items.result.now c.loop-declared.declared-index c.declared-item.result c.as_str-name.result.now reason
    c.runs_in-declared-items.ensures.runs c.loop-declared-test.true c.declared-item.is c.as_str-name.ensures c.loop-declared.invariant h)
    c.in_err-small_nest.ensures.refused in
    rw (p.1, p.2) told

pub loop-declared-preserved : goal.loop-declared-preserved
loop-declared-preserved c =
    let ds = program c.args.typed.now.program in
    leads_next c.args.typed.now.decimals ds c.runs_in-declared-items.result.now c.loop-declared.declared-index c.declared-item.result c.as_str-name.result.now (nest c.in_ok-small_nest.field-0)
    c.loop-declared-test.true c.declared-item.is c.as_str-name.ensures (sym (c.has_few_runs.ensures ds c.requires) ∙ c.if-not-has_few_runs.false) c.in_ok-small_nest.ensures.made c.loop-declared.invariant

pub returns-clause-found : goal.returns-clause-found
returns-clause-found c =
    let ds = program c.args.typed.now.program in
    subst (λ l. LeadsOn c.args.typed.now.decimals ds l None) c.runs_in-declared-items.ensures.runs
    (leads_nowhere c.args.typed.now.decimals ds c.runs_in-declared-items.result.now c.loop-declared.declared-index c.loop-declared-test.false c.loop-declared.invariant)

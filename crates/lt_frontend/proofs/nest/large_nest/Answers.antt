use Rattle.std.proofs.Common.{rules, ◌≡◌, Some, None, Err, sym, subst}
use Rattle.lt_ast.specs.View.{program}
use Rattle.lt_expand.specs.Nested.{runs_in_nest}
use Rattle.lt_expand.specs.Refusals.{refusals_of}
use Rattle.lt_macros.specs.Answer.{asked_name}
use Rattle.lt_macros.specs.Expansion.{expanded_node}
use Rattle.lt_frontend.specs.Nest.{IsNestAnswer, LeadsOn, runs_of}
use Rattle.lt_frontend.specs.Prepared.{IfRefused}
use Rattle.lt_frontend.specs.declared.refusal.Refusal.TheVariants as refusal
use Rattle.lt_frontend.proofs.Leading.{leads_found}
use Rattle.lt_frontend.proofs.Telling.{head_of, refused_expansion}
use Rattle.lt_frontend.proofs.nest.large_nest.Goals as goal

pub loop-next-smaller : goal.loop-next-smaller
loop-next-smaller c =
    let ds = program c.args.typed.now.program in
    let decimals = c.args.typed.now.decimals in
    let runs = runs_of (Some c.loop-next.at.now) ds in
    let led = subst (λ o. LeadsOn decimals ds runs (asked_name o)) c.in-Some.is c.in_ok-next.ensures.found in
    (leads_found decimals ds runs c.in-Some.next.now led).smaller (runs_in_nest (Some c.loop-next.at.now) ds) c.in_ok-next.ensures.fewer

pub loop-next-preserved : goal.loop-next-preserved
loop-next-preserved c =
    let ds = program c.args.typed.now.program in
    let decimals = c.args.typed.now.decimals in
    let runs = runs_of (Some c.loop-next.at.now) ds in
    let led = subst (λ o. LeadsOn decimals ds runs (asked_name o)) c.in-Some.is c.in_ok-next.ensures.found in
    let found = leads_found decimals ds runs c.in-Some.next.now led in
    (search rules, found.many, λ reason h. c.loop-next.invariant.2 reason (IsNestAnswer.inside (Some c.loop-next.at.now) reason (found.refused reason h)))

pub returns-clause-refused : goal.returns-clause-refused
returns-clause-refused c =
    let ds = program c.args.typed.now.program in
    let decimals = c.args.typed.now.decimals in
    let at = Some c.loop-next.at.now in
    let none : c.in_ok-next.field-0 ≡ None = search rules in
    let led = subst (λ o. LeadsOn decimals ds (runs_of at ds) (asked_name o)) none c.in_ok-next.ensures.found in
    let told = refused_expansion (λ reason. IsNestAnswer decimals ds (Some c.args.node.now) (Err reason)) decimals (runs_in_nest at ds) (expanded_node decimals at ds) c.in-Err.refusal
    (λ why e. c.loop-next.invariant.2 (refusal.Expand why) (IsNestAnswer.itself at led.0 why led.1 (head_of (refusals_of decimals (runs_in_nest at ds) (expanded_node decimals at ds)) why e))) c.in-Err.ensures in
    subst (λ why. IfRefused why (λ reason. IsNestAnswer decimals ds (Some c.args.node.now) (Err reason))) (sym c.from.ensures) told

use Rattle.std.proofs.Common.{◌≡◌, nat_le, true, Some, None, Ok, Err, ap, sym, subst}
use Rattle.std.proofs.lemmas.Result.{err_from_is_err_and}
use Rattle.lt_ast.specs.View.{program}
use Rattle.lt_expand.specs.Nested.{most_runs, runs_in_nest}
use Rattle.lt_macros.specs.Answer.{asked_name}
use Rattle.lt_types.specs.Refusals.{type_refusals}
use Rattle.lt_frontend.specs.Nest.{IsNestAnswer, IsTextsNestAnswer}
use Rattle.lt_frontend.specs.NestView.{nest}
use Rattle.lt_frontend.proofs.Counting.{first_few}
use Rattle.lt_frontend.proofs.Nesting.{made_so, refused_so, text_has}
use Rattle.lt_frontend.proofs.Telling.{led, text_told}
use Rattle.lt_frontend.proofs.nest.nest_of.Goals as goal

pub returns-in_err-program-clause-refused : goal.returns-in_err-program-clause-refused
returns-in_err-program-clause-refused c =
    let p = err_from_is_err_and c.from_residual.result c.from_residual.ensures.1 in
    rw (p.1, p.2) (text_told (λ reason. IsTextsNestAnswer c.args.decimals (asked_name c.args.node) c.args.text.now (Err reason)) c.args.text.now c.in_err-program.field-0.0 (λ why is. IsTextsNestAnswer.no_program why is) c.in_err-program.ensures.refused)

pub returns-in_err-typed-clause-refused : goal.returns-in_err-typed-clause-refused
returns-in_err-typed-clause-refused c =
    let p = err_from_is_err_and c.from_residual-in_err-typed.result c.from_residual-in_err-typed.ensures.1 in
    let ds = program c.in_ok-program.program in
    rw (p.1, p.2) (led (λ reason. IsTextsNestAnswer c.args.decimals (asked_name c.args.node) c.args.text.now (Err reason)) c.in_err-typed.field-0.0 (type_refusals c.args.decimals ds)
    (λ why others e. IsTextsNestAnswer.ill_typed ds why c.in_ok-program.ensures.found (others, e)) c.in_err-typed.ensures.refused)

pub small_nest-requires-clause-few : goal.small_nest-requires-clause-few
small_nest-requires-clause-few c =
    subst (λ p. nat_le (runs_in_nest None (program p)) most_runs ≡ true) (sym c.in_ok-typed.ensures.same.0) (first_few c.args.decimals (program c.in_ok-program.program) c.in_ok-typed.ensures.typed.0)

pub returns-in-Some-clause-made : goal.returns-in-Some-clause-made
returns-in-Some-clause-made c =
    let text = c.args.text.now in
    let wanted = asked_name c.args.node in
    let ds = program c.in_ok-program.program in
    let typed = c.in_ok-typed.typed in
    let same = c.in_ok-typed.ensures.same in
    made_so c.named_nest.result (λ made. IsNestAnswer typed.decimals (program typed.program) (Some c.in-Some.name.now) (Ok (nest made))) (λ made. IsTextsNestAnswer c.args.decimals wanted text (Ok (nest made)))
    (λ made h. text_has c.args.decimals typed.decimals text wanted (Some c.in-Some.name.now) ds (program typed.program) (Ok (nest made)) c.in_ok-program.ensures.found c.in_ok-typed.ensures.typed same.1 (ap program same.0) (ap asked_name c.in-Some.is) h) c.named_nest.ensures.made

pub returns-in-Some-clause-refused : goal.returns-in-Some-clause-refused
returns-in-Some-clause-refused c =
    let text = c.args.text.now in
    let wanted = asked_name c.args.node in
    let ds = program c.in_ok-program.program in
    let typed = c.in_ok-typed.typed in
    let same = c.in_ok-typed.ensures.same in
    refused_so c.named_nest.result (λ reason. IsNestAnswer typed.decimals (program typed.program) (Some c.in-Some.name.now) (Err reason)) (λ reason. IsTextsNestAnswer c.args.decimals wanted text (Err reason))
    (λ reason h. text_has c.args.decimals typed.decimals text wanted (Some c.in-Some.name.now) ds (program typed.program) (Err reason) c.in_ok-program.ensures.found c.in_ok-typed.ensures.typed same.1 (ap program same.0) (ap asked_name c.in-Some.is) h) c.named_nest.ensures.refused

pub returns-clause-made : goal.returns-clause-made
returns-clause-made c =
    let text = c.args.text.now in
    let wanted = asked_name c.args.node in
    let ds = program c.in_ok-program.program in
    let typed = c.in_ok-typed.typed in
    let same = c.in_ok-typed.ensures.same in
    made_so c.small_nest.result (λ made. IsNestAnswer typed.decimals (program typed.program) None (Ok (nest made))) (λ made. IsTextsNestAnswer c.args.decimals wanted text (Ok (nest made)))
    (λ made h. text_has c.args.decimals typed.decimals text wanted None ds (program typed.program) (Ok (nest made)) c.in_ok-program.ensures.found c.in_ok-typed.ensures.typed same.1 (ap program same.0) (ap asked_name c.in-None.is) h) c.small_nest.ensures.made

pub returns-clause-refused : goal.returns-clause-refused
returns-clause-refused c =
    let text = c.args.text.now in
    let wanted = asked_name c.args.node in
    let ds = program c.in_ok-program.program in
    let typed = c.in_ok-typed.typed in
    let same = c.in_ok-typed.ensures.same in
    refused_so c.small_nest.result (λ reason. IsNestAnswer typed.decimals (program typed.program) None (Err reason)) (λ reason. IsTextsNestAnswer c.args.decimals wanted text (Err reason))
    (λ reason h. text_has c.args.decimals typed.decimals text wanted None ds (program typed.program) (Err reason) c.in_ok-program.ensures.found c.in_ok-typed.ensures.typed same.1 (ap program same.0) (ap asked_name c.in-None.is) h) c.small_nest.ensures.refused

use Rattle.std.proofs.Common.{Err, string_bytes}
use Rattle.std.proofs.lemmas.Result.{err_from_is_err_and}
use Rattle.lt_frontend.specs.Prepared.{IsPrintedAnswer}
use Rattle.lt_frontend.proofs.Telling.{print_told, text_told}
use Rattle.lt_frontend.proofs.preparing.printed_text.Goals as goal

pub returns-in_err-printed-clause-refused : goal.returns-in_err-printed-clause-refused
returns-in_err-printed-clause-refused c =
    let p = err_from_is_err_and c.from_residual.result c.from_residual.ensures.1 in
    rw (p.1, p.2) (text_told (λ reason. IsPrintedAnswer c.args.text.now (Err reason)) c.args.text.now c.in_err-printed.field-0.0 (λ why is. IsPrintedAnswer.no_program why is) c.in_err-printed.ensures.refused)

pub returns-clause-made : goal.returns-clause-made
returns-clause-made c =
    let found = c.in_ok-printed.ensures.found in
    print_told c.args.text.now (string_bytes c.in_ok-printed.printed) found.0 found.1 found.2

use Rattle.std.proofs.Common.{◌∙◌, map, string_bytes}
use Rattle.clap.specs.Words.{app_of, found_of, rows_of}
use Rattle.lt_args.proofs.Fitting.{numbers_fit}
use Rattle.lt_args.proofs.Taken.{form_passed_on, has_form, passed_on, refused, taken}
use Rattle.lt_args.specs.declared.usage.WordsRefusal.TheVariants as refusal
use Rattle.lt_args.proofs.words.requested.Goals as goal

pub returns-in_err-found-clause-reads : goal.returns-in_err-found-clause-reads
returns-in_err-found-clause-reads c =
    let why = refused (app_of c.in_ok-command.field-0) (map string_bytes c.args.words.now) c.in_err-found.field-0.0 c.in_ok-command.ensures c.in_err-found.ensures.kinds in
    passed_on _ _ _ _ c.from_residual-in_err-found.ensures.1 why

pub returns-in_err-found-clause-promised : goal.returns-in_err-found-clause-promised
returns-in_err-found-clause-promised c =
    let formed = has_form (app_of c.in_ok-command.field-0) (map string_bytes c.args.words.now) c.in_err-found.field-0.0 c.in_ok-command.ensures c.in_err-found.ensures.passes in
    form_passed_on c.from_residual-in_err-found.result _ (map string_bytes c.args.words.now) c.from_residual-in_err-found.ensures.1 formed

pub asked_by-requires : goal.asked_by-requires
asked_by-requires c = numbers_fit c.in_ok-command.field-0 c.in_ok-found.found c.in_ok-command.ensures c.in_ok-found.ensures.parsed

pub returns-in_err-asked_by-clause-reads : goal.returns-in_err-asked_by-clause-reads
returns-in_err-asked_by-clause-reads c =
    let is = taken (app_of c.in_ok-command.field-0) (map string_bytes c.args.words.now) (rows_of (found_of c.in_ok-found.found)) c.in_ok-command.ensures c.in_ok-found.ensures.kinds (λ simple. (c.in_ok-found.ensures.matches simple).0) in
    passed_on _ (refusal.Usage c.in_err-asked_by.field-0.0) _ _ c.from_residual-in_err-asked_by.ensures.1 (is ∙ c.in_err-asked_by.ensures.reads)

pub returns-clause-reads : goal.returns-clause-reads
returns-clause-reads c =
    let is = taken (app_of c.in_ok-command.field-0) (map string_bytes c.args.words.now) (rows_of (found_of c.in_ok-found.found)) c.in_ok-command.ensures c.in_ok-found.ensures.kinds (λ simple. (c.in_ok-found.ensures.matches simple).0) in
    is ∙ c.in_ok-asked_by.ensures.reads

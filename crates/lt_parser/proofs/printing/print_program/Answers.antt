use Rattle.std.proofs.Common.{[], refl, rules, tests, string_bytes}
use Rattle.lt_parser.specs.inner.Tokens.{lexemes}
use Rattle.lt_parser.proofs.Lines.{all_printed, next_line, none_yet, refused_behind}
use Rattle.lt_parser.proofs.printing.print_program.Goals as goal

pub returns-in_err-first : goal.returns-in_err-first
returns-in_err-first c =
    let ts = lexemes c.args.tokens.now in
    refused_behind ts ts [] c.in_err-first.field-0.0 c.from_residual.result (none_yet ts [] refl) c.in_err-first.ensures.reads c.from_residual.ensures.1

pub loop-rest-init : goal.loop-rest-init
loop-rest-init c =
    next_line (lexemes c.args.tokens.now) c.args.tokens.now c.in_ok-first.rest.now c.in_ok-first.first (string_bytes c.new-out.result) _ c.in_ok-first.ensures.reads c.in_ok-put_first.ensures (none_yet (lexemes c.args.tokens.now) (string_bytes c.new-out.result) c.new-out.ensures.bytes)

pub loop-rest-preserved : goal.loop-rest-preserved
loop-rest-preserved c =
    next_line (lexemes c.args.tokens.now) c.loop-rest.rest.now c.in_ok-declared.behind.now c.in_ok-declared.declared (string_bytes c.loop-rest.out) _ c.in_ok-declared.ensures.reads c.in_ok-put_first-2.ensures c.loop-rest.invariant

pub returns : goal.returns
returns c = all_printed (lexemes c.args.tokens.now) c.loop-rest.rest.now c.loop-rest.out (search (rules, tests)) c.loop-rest.invariant

use Rattle.std.proofs.Common.{[], ◌∷◌, ◌++◌, ◌∙◌, refl, ap, rules, tests}
use Rattle.lt_parser.specs.inner.Tokens.{lexemes}
use Rattle.lt_parser.proofs.Programs.{at_end, one_more, refused_after}
use Rattle.lt_parser.proofs.declarations.parse_program.Goals as goal

pub returns-in_err-first : goal.returns-in_err-first
returns-in_err-first c =
    let ts = lexemes c.args.tokens.now in
    refused_after ts ts [] c.in_err-first.field-0.0 c.from_residual.result refl c.in_err-first.ensures.reads c.from_residual.ensures.1

pub loop-rest-init : goal.loop-rest-init
loop-rest-init c =
    let ts = lexemes c.args.tokens.now in
    one_more ts ts (lexemes c.in_ok-first.rest.now) [] c.push.new.self.items c.in_ok-first.first (c.in_ok-push.ensures.items ∙ ap (λ xs. xs ++ c.in_ok-first.first ∷ []) c.new-decls.ensures.items) refl (c.in_ok-first.ensures.reads [])

pub loop-rest-preserved : goal.loop-rest-preserved
loop-rest-preserved c =
    one_more (lexemes c.args.tokens.now) (lexemes c.loop-rest.rest.now) (lexemes c.in_ok-declared.remaining.now) c.loop-rest.decls.items c.push-in-loop-rest.new.self.items c.in_ok-declared.declared c.in_ok-push-2.ensures.items
    c.loop-rest.invariant (c.in_ok-declared.ensures.reads c.loop-rest.decls.items)

pub returns : goal.returns
returns c = at_end (lexemes c.args.tokens.now) c.loop-rest.rest.now c.loop-rest.decls.items (search (rules, tests)) c.loop-rest.invariant

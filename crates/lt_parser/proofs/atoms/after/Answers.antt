use Rattle.std.proofs.Common.{subst, sym}
use Rattle.lt_ast.specs.declared.span.Span.{Span}
use Rattle.lt_parser.specs.inner.Tokens.{Begins, lexemes}
use Rattle.lt_parser.proofs.Steps.{first_is}
use Rattle.lt_parser.proofs.atoms.after.Goals as goal

pub returns-then-eq-clause-found : goal.returns-then-eq-clause-found
returns-then-eq-clause-found c =
    let P : Span → Type 0 = λ at. Begins c.args.sign at (lexemes c.args.tokens.now) (lexemes c.in-Some.rest.now) in
    subst P (sym c.span.ensures) (first_is c.args.sign c.args.tokens.now c.in-Some.first.now c.in-Some.rest.now c.in-Some.ensures.cases.0 (sym c.if-eq.ensures))

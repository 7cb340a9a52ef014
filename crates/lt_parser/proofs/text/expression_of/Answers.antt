use Rattle.std.proofs.Common.{Err, Ok, subst, sym}
use Rattle.lt_parser.specs.inner.Parsing.{ExpressionReadsAs}
use Rattle.lt_parser.specs.inner.Tokens.{lexemes}
use Rattle.lt_parser.specs.inner.Placing.{IsPlaced, IsWithin}
use Rattle.lt_parser.proofs.Placed.{has_lexemes, expression_within, placed_expression_refusal, read_expression}
use Rattle.lt_parser.proofs.text.expression_of.Goals as goal

pub returns-in-Ok-clause-found : goal.returns-in-Ok-clause-found
returns-in-Ok-clause-found c =
    let text = c.args.text.now in
    let tokens = c.in_ok-tokens.tokens.items in
    read_expression text (lexemes tokens) c.in-Ok.found (has_lexemes text tokens c.in_ok-tokens.ensures.found) (subst (λ ts. ExpressionReadsAs (lexemes ts) (Ok c.in-Ok.found)) c.deref.ensures.value c.in-Ok.ensures)

pub placed-requires : goal.placed-requires
placed-requires c =
    let reads = subst (λ ts. ExpressionReadsAs (lexemes ts) (Err c.in-Err.refusal)) c.deref.ensures.value c.in-Err.ensures in
    subst (λ ts. IsWithin (lexemes ts) c.in-Err.refusal) (sym c.deref-in-Err.ensures.value) (expression_within (lexemes c.in_ok-tokens.tokens.items) c.in-Err.refusal reads)

pub returns-clause-refused : goal.returns-clause-refused
returns-clause-refused c =
    let text = c.args.text.now in
    let tokens = c.in_ok-tokens.tokens.items in
    let reads = subst (λ ts. ExpressionReadsAs (lexemes ts) (Err c.in-Err.refusal)) c.deref.ensures.value c.in-Err.ensures in
    let placed = subst (λ ts. IsPlaced text (lexemes ts) c.in-Err.refusal c.placed.result) c.deref-in-Err.ensures.value c.placed.ensures in
    placed_expression_refusal text (lexemes tokens) c.in-Err.refusal c.placed.result (has_lexemes text tokens c.in_ok-tokens.ensures.found) reads placed

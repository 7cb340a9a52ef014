use Rattle.std.proofs.Common.{[], ◌∷◌, ◌∙◌, ap, arith, map, sym}
use Rattle.lt_ast.specs.declared.sign.Sign.TheVariants as t
use Rattle.lt_ast.specs.View.{exp}
use Rattle.lt_parser.specs.inner.Tokens.{lexemes}
use Rattle.lt_parser.specs.inner.Onto.{expressions_onto}
use Rattle.lt_parser.specs.inner.Reading.{a_sign, an_exp, more_expressions, outcome, some_expressions}
use Rattle.lt_parser.proofs.Listed.{an_expression_first, expressions_end, expressions_onto-none}
use Rattle.lt_parser.proofs.Steps.{err_by, grows}
use Rattle.lt_parser.proofs.runs.parse_expressions.Goals as goal
use Rattle.lt_grammar.specs.Nesting.{most_levels}

pub loop-next-preserved : goal.loop-next-preserved
loop-next-preserved c = record {
  reads = grows (more_expressions c.args.inside) (λ x es. exp x ∷ es) (λ k l. k l) (some_expressions c.args.inside) (lexemes c.args.tokens.now) (lexemes c.loop-next.rest.now) (lexemes c.in_ok-another.behind.now) c.loop-next.items.items _ c.in_ok-another.another c.in_ok-push.ensures.items c.loop-next.invariant.reads (λ k. ap (outcome most_levels (more_expressions c.args.inside k)) c.in-Some-after.ensures.found.1 ∙ c.in_ok-another.ensures.reads (λ e. more_expressions c.args.inside (λ l. k (e ∷ l))));
  shorter = omega (arith, c.in-Some-after.ensures.shorter, c.in_ok-another.ensures.shorter, c.loop-next.invariant.shorter);
}

pub loop-next-init : goal.loop-next-init
loop-next-init c = record {
  reads = λ k. an_expression_first c.args.inside k (lexemes c.args.tokens.now) c.in_default.ensures.found ∙ c.in_ok-first.ensures.reads (λ e. more_expressions c.args.inside (λ more. k (e ∷ more))) ∙ ap (λ xs. outcome most_levels (more_expressions c.args.inside (λ more. k (expressions_onto xs more))) (lexemes c.in_ok-first.rest.now)) (sym c.in_ok-items.ensures.items);
  shorter = c.in_ok-first.ensures.shorter;
}

pub returns-in_err-first-clause-reads : goal.returns-in_err-first-clause-reads
returns-in_err-first-clause-reads c =
    err_by (λ x k. k (map exp x.0.items)) (λ x. lexemes x.1.now) (some_expressions c.args.inside) (an_exp c.args.inside 0) (λ k e. more_expressions c.args.inside (λ l. k (e ∷ l))) (lexemes c.args.tokens.now) (lexemes c.args.tokens.now) c.in_err-first.field-0.0 c.from_residual.result
    (λ k. an_expression_first c.args.inside k (lexemes c.args.tokens.now) c.in_default.ensures.found)
    c.in_err-first.ensures.reads c.from_residual.ensures.1

pub returns-in_err-another-clause-reads : goal.returns-in_err-another-clause-reads
returns-in_err-another-clause-reads c =
    err_by (λ x k. k (map exp x.0.items)) (λ x. lexemes x.1.now) (some_expressions c.args.inside) (an_exp c.args.inside 0) (λ k e. more_expressions c.args.inside (λ l. k (expressions_onto c.loop-next.items.items (e ∷ l)))) (lexemes c.args.tokens.now) (lexemes c.in-Some-after.next.now) c.in_err-another.field-0.0 c.from_residual-in_err-another.result
    (λ k. c.loop-next.invariant.reads k ∙ ap (outcome most_levels (more_expressions c.args.inside (λ l. k (expressions_onto c.loop-next.items.items l)))) c.in-Some-after.ensures.found.1)
    c.in_err-another.ensures.reads c.from_residual-in_err-another.ensures.1

pub returns-in_err-rest-clause-reads : goal.returns-in_err-rest-clause-reads
returns-in_err-rest-clause-reads c =
    err_by (λ x k. k (map exp x.0.items)) (λ x. lexemes x.1.now) (some_expressions c.args.inside) (a_sign t.Close) (λ k q. k (expressions_onto c.loop-next.items.items [])) (lexemes c.args.tokens.now) (lexemes c.loop-next.rest.now) c.in_err-rest.field-0.0 c.from_residual-in_err-rest.result
    (λ k. c.loop-next.invariant.reads k ∙ expressions_end c.args.inside (λ l. k (expressions_onto c.loop-next.items.items l)) (lexemes c.loop-next.rest.now) c.in_default-after.ensures.found)
    c.in_err-rest.ensures.reads c.from_residual-in_err-rest.ensures.1

pub returns-clause-reads : goal.returns-clause-reads
returns-clause-reads c = λ k.
    c.loop-next.invariant.reads k
    ∙ expressions_end c.args.inside (λ l. k (expressions_onto c.loop-next.items.items l)) (lexemes c.loop-next.rest.now) c.in_default-after.ensures.found
    ∙ c.in_ok-rest.ensures.reads (λ q. k (expressions_onto c.loop-next.items.items []))
    ∙ ap (λ es. outcome most_levels (k es) (lexemes c.in_ok-rest.rest.now)) (expressions_onto-none c.loop-next.items.items)

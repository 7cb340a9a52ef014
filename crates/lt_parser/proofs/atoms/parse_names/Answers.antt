use Rattle.std.proofs.Common.{◌∷◌, ◌∙◌, ap, arith}
use Rattle.lt_ast.specs.View.{word}
use Rattle.lt_parser.specs.inner.Tokens.{lexemes}
use Rattle.lt_parser.specs.inner.Onto.{words_onto}
use Rattle.lt_parser.specs.inner.Reading.{more_names, names, outcome}
use Rattle.lt_parser.proofs.Skips.{no_name}
use Rattle.lt_parser.proofs.Steps.{grows, words_onto-none}
use Rattle.lt_parser.proofs.atoms.parse_names.Goals as goal
use Rattle.lt_grammar.specs.Nesting.{most_levels}

pub loop-next-preserved : goal.loop-next-preserved
loop-next-preserved c = record {
  reads = grows more_names (λ x ws. word x ∷ ws) (λ k l. k l) names (lexemes c.args.tokens.now) (lexemes c.loop-next.rest.now) (lexemes c.in_ok-another.remaining.now) c.loop-next.items.items _ c.in_ok-another.another c.in_ok-push.ensures.items c.loop-next.invariant.reads (λ k. ap (outcome most_levels (more_names k)) c.in-Some.ensures.found.1 ∙ c.in_ok-another.ensures.reads (λ a. more_names (λ l. k (a ∷ l))));
  shorter = omega (arith, c.in-Some.ensures.shorter, c.in_ok-another.ensures.shorter, c.loop-next.invariant.shorter);
}

pub returns-clause-reads : goal.returns-clause-reads
returns-clause-reads c = λ k. c.loop-next.invariant.reads k ∙ no_name most_levels (λ more. k (words_onto c.loop-next.items.items more)) (lexemes c.loop-next.rest.now) c.in_default.ensures.found ∙ ap (λ ws. outcome most_levels (k ws) (lexemes c.loop-next.rest.now)) (words_onto-none c.loop-next.items.items)

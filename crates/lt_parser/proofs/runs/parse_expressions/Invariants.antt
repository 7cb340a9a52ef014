use Rattle.std.proofs.Common.{◌≡◌, ◌<◌, List, length}
use Rattle.lt_ast.specs.Syntax.{Exp}
use Rattle.lt_parser.specs.inner.Tokens.{lexemes}
use Rattle.lt_parser.specs.inner.Onto.{expressions_onto}
use Rattle.lt_parser.specs.inner.Reading.{Goal, more_expressions, outcome, some_expressions}
use Rattle.lt_parser.proofs.runs.parse_expressions.Given as goal
use Rattle.lt_grammar.specs.Nesting.{most_levels}

-- the expressions so far
abbrev pub invariant-loop-next : goal.invariant-loop-next
invariant-loop-next l =
    record {
      reads : (k : List Exp → Goal) → outcome most_levels (some_expressions l.inside k) (lexemes l.fn.tokens) ≡ outcome most_levels (more_expressions l.inside (λ more. k (expressions_onto l.items.items more))) (lexemes l.rest);
      shorter : length l.rest < length l.fn.tokens;
    }

abbrev pub decreases-loop-next : goal.decreases-loop-next
decreases-loop-next l = length l.rest

use Rattle.std.proofs.Common.{◌≡◌, ◌<◌, List, length}
use Rattle.lt_ast.specs.Syntax.{Word}
use Rattle.lt_parser.specs.inner.Tokens.{lexemes}
use Rattle.lt_parser.specs.inner.Onto.{words_onto}
use Rattle.lt_parser.specs.inner.Reading.{Goal, more_names, names, outcome}
use Rattle.lt_parser.proofs.atoms.parse_names.Given as goal
use Rattle.lt_grammar.specs.Nesting.{most_levels}

-- the names so far
abbrev pub invariant-loop-next : goal.invariant-loop-next
invariant-loop-next l =
    record {
      reads : (k : List Word → Goal) → outcome most_levels (names k) (lexemes l.fn.tokens) ≡ outcome most_levels (more_names (λ more. k (words_onto l.items.items more))) (lexemes l.rest);
      shorter : length l.rest < length l.fn.tokens;
    }

abbrev pub decreases-loop-next : goal.decreases-loop-next
decreases-loop-next l = length l.rest

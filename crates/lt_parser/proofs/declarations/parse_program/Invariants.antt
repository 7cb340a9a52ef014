use Rattle.std.proofs.Common.{◌≡◌, length}
use Rattle.lt_parser.specs.inner.Tokens.{lexemes}
use Rattle.lt_parser.specs.inner.Onto.{declarations_after}
use Rattle.lt_parser.specs.inner.Reading.{declarations, done, outcome}
use Rattle.lt_parser.proofs.declarations.parse_program.Given as goal
use Rattle.lt_grammar.specs.Nesting.{most_levels}

-- the declarations so far
abbrev pub invariant-loop-rest : goal.invariant-loop-rest
invariant-loop-rest l = outcome most_levels (declarations done) (lexemes l.fn.tokens) ≡ outcome most_levels (declarations_after l.decls.items) (lexemes l.rest)

abbrev pub decreases-loop-rest : goal.decreases-loop-rest
decreases-loop-rest l = length l.rest

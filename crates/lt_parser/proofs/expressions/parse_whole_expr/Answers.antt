use Rattle.std.proofs.Common.{rules, tests}
use Rattle.lt_ast.specs.View.{exp}
use Rattle.lt_parser.specs.inner.Tokens.{lexemes}
use Rattle.lt_parser.proofs.Listed.{whole_unexpected}
use Rattle.lt_parser.proofs.expressions.parse_whole_expr.Goals as goal

pub returns : goal.returns
returns c = whole_unexpected (lexemes c.args.tokens.now) c.in_ok-found.rest.now (exp c.in_ok-found.found) (search (rules, tests)) c.in_ok-found.ensures.reads

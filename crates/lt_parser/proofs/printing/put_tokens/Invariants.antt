use Rattle.std.proofs.Common.{◌≡◌, ◌++◌, map, take, string_bytes}
use Rattle.lt_ast.specs.Printed.{spaced}
use Rattle.lt_grammar.specs.Written.{written_of}
use Rattle.lt_parser.specs.inner.Tokens.{lexemes}
use Rattle.lt_parser.proofs.printing.put_tokens.Given as goal

-- the tokens so far
abbrev pub invariant-loop-token : goal.invariant-loop-token
invariant-loop-token l = string_bytes l.out ≡ string_bytes l.fn.out ++ spaced (map written_of (lexemes (take l.token-index l.tokens)))

use Rattle.std.proofs.Common.{length, string_bytes}
use Rattle.lt_parser.specs.inner.Tokens.{lexemes}
use Rattle.lt_parser.proofs.Lines.{IsPrintedSoFar}
use Rattle.lt_parser.proofs.printing.print_program.Given as goal

-- the declarations so far
abbrev pub invariant-loop-rest : goal.invariant-loop-rest
invariant-loop-rest l = IsPrintedSoFar (lexemes l.fn.tokens) (lexemes l.rest) (string_bytes l.out)

abbrev pub decreases-loop-rest : goal.decreases-loop-rest
decreases-loop-rest l = length l.rest

use Rattle.std.proofs.Common.{◌≤◌, length}
use Rattle.lt_lexer.proofs.Lexemes.{LexemesSoFar}
use Rattle.lt_lexer.proofs.lexer.tokens_of.Given as goal

abbrev pub invariant-loop-rest : goal.invariant-loop-rest
invariant-loop-rest l = record { short : length l.rest ≤ length l.text; read : LexemesSoFar l.text l.tokens.items l.rest }

abbrev pub decreases-loop-rest : goal.decreases-loop-rest
decreases-loop-rest l = length l.rest

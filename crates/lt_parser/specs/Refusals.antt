-- Why a text is no program, and where that shows.
use Rattle.std.specs.Prelude.{ℕ, List, Option, Some, None, codes}
use Rattle.lt_lexer.specs.declared.refusal.LexRefusal.{LexRefusal}
use Rattle.lt_lexer.specs.declared.refusal.LexRefusal.TheVariants as lexer
use Rattle.lt_lexer.specs.Refusals.{lex_code, lex_place}
use Rattle.lt_parser.specs.declared.refusal.ParseRefusal.{ParseRefusal}
use Rattle.lt_parser.specs.declared.refusal.ParseRefusal.TheVariants.{Lex, Unexpected, TooDeep, Memory}

-- the lexer's refusal, or that memory ran out
abbrev pub of_lexer : LexRefusal → ParseRefusal
of_lexer lexer.Memory = Memory
of_lexer refusal = Lex refusal

-- the code of a refusal
abbrev pub parse_code : ParseRefusal → List ℕ
parse_code (Lex refusal) = lex_code refusal
parse_code (Unexpected at) = codes "parse.Unexpected"
parse_code (TooDeep at) = codes "parse.TooDeep"
parse_code Memory = codes "parse.Memory"

-- the place in the text that it names, if any
abbrev pub parse_place : ParseRefusal → Option ℕ
parse_place (Lex refusal) = lex_place refusal
parse_place (Unexpected at) = Some at
parse_place (TooDeep at) = Some at
parse_place Memory = None

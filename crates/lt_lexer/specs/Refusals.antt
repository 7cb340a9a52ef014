-- The code and the place of a refusal, as a call tells them.
use Rattle.std.specs.Prelude.{ℕ, List, None, Some, codes}
use Rattle.std.specs.declared.option.Option.{Option}
use Rattle.lt_lexer.specs.declared.refusal.LexRefusal.{LexRefusal}
use Rattle.lt_lexer.specs.declared.refusal.LexRefusal.TheVariants.{BadByte, OpenComment, NumberTooLong, Memory}

-- the code, by the reason
abbrev pub lex_code : LexRefusal → List ℕ
lex_code (BadByte place) = codes "lex.BadByte"
lex_code (OpenComment place) = codes "lex.OpenComment"
lex_code (NumberTooLong place) = codes "lex.NumberTooLong"
lex_code Memory = codes "lex.Memory"

-- the place, where there is one
abbrev pub lex_place : LexRefusal → Option ℕ
lex_place (BadByte place) = Some place
lex_place (OpenComment place) = Some place
lex_place (NumberTooLong place) = Some place
lex_place Memory = None

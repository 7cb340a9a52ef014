-- What the print of a text is, and that it reads back.
use Rattle.std.specs.Prelude.{◌≡◌, ℕ, List, map}
use Rattle.lt_ast.specs.Printed.{printed}
use Rattle.lt_ast.specs.Syntax.{Declaration}
use Rattle.lt_ast.specs.Tokens.{tokens_of}
use Rattle.lt_grammar.specs.Lexemes.{Lexemes}
use Rattle.lt_grammar.specs.Program.{Spells}
use Rattle.lt_grammar.specs.Text.{HasLexemes, IsProgramOf}
use Rattle.lt_grammar.specs.Unplaced.{unplaced}
use Rattle.lt_grammar.specs.Written.{written_of}

-- These bytes are the print of a text: a line for each declaration of the program that it spells.
abbrev pub IsPrintOf : List ℕ → List ℕ → Type 0
IsPrintOf text bytes = (x : List Declaration) × IsProgramOf text x × (bytes ≡ printed x)

-- The print of a text spells the same program as the text, but for the places.
abbrev pub PrintedReadsBack : Type 0
PrintedReadsBack = (text : List ℕ) (x : List Declaration) → IsProgramOf text x → (y : List Declaration) × IsProgramOf (printed x) y × (unplaced y ≡ unplaced x)

-- The tokens that a text's program is printed with are the text's own, in their order.
abbrev pub PrintsItsTokens : Type 0
PrintsItsTokens = (text : List ℕ) (ls : Lexemes) (x : List Declaration) → HasLexemes text ls → Spells ls x → map written_of ls ≡ tokens_of x

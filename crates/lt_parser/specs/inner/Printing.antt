-- That the printed lines are those of the program that is read.
use Rattle.std.specs.Prelude.{◌≡◌, List, Result, Ok, Err, String, string_bytes}
use Rattle.std.specs.declared.alloc.Global.{Global}
use Rattle.lt_ast.specs.Printed.{printed}
use Rattle.lt_ast.specs.Syntax.{Declaration}
use Rattle.lt_parser.specs.declared.refusal.Refusal.{Refusal}
use Rattle.lt_parser.specs.inner.Parsing.{ProgramReadsAs}
use Rattle.lt_parser.specs.inner.Reading.{declarations, done, outcome, program_tree}
use Rattle.lt_grammar.specs.Lexemes.{Lexemes}
use Rattle.lt_grammar.specs.Nesting.{most_levels}

-- The whole reading finds a program, and this is what it is printed as; or reading stops so.
abbrev pub PrintsAs : Lexemes → Result (String Global) Refusal → Type 0
PrintsAs ts (Ok text) =
    (x : List Declaration)
    × (outcome most_levels (declarations done) ts ≡ Ok (program_tree x))
    × (string_bytes text ≡ printed x)
PrintsAs ts (Err e) = ProgramReadsAs ts (Err e)

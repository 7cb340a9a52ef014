-- What holds of every text.
use Rattle.std.specs.Prelude.{◌≡◌, ℕ, List}
use Rattle.std.specs.declared.option.Option.{Option}
use Rattle.std.specs.declared.option.Option.TheVariants.{Some}
use Rattle.lt_ast.specs.Syntax.{Declaration}
use Rattle.lt_grammar.specs.Text.{IsProgramOf}
use Rattle.lt_types.specs.Typing.{IsWellTyped}
use Rattle.lt_macros.specs.Expanded.{Node}
use Rattle.lt_macros.specs.Expansion.{expanded_node}
use Rattle.lt_typing_laws.specs.Macros.{MacrosFitTheirTypes}
use Rattle.lt_typing_laws.specs.TypedNode.{IsTypedNode}

-- In the program of a text a macro stands for a trace only where its type is that of traces.
abbrev pub SpelledMacrosFit : Type 0
SpelledMacrosFit = (text : List ℕ) (ds : List Declaration) → IsProgramOf text ds → MacrosFitTheirTypes ds

-- What a node of a text's well typed program stands for is well typed.
abbrev pub TextsKeepTypes : Type 0
TextsKeepTypes =
    (text : List ℕ) (decimals : ℕ) (wanted : Option (List ℕ)) (ds : List Declaration) (node : Node) →
    IsProgramOf text ds → IsWellTyped decimals ds → expanded_node decimals wanted ds ≡ Some node → IsTypedNode node

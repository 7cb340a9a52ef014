-- What holds of every program.
use Rattle.std.specs.Prelude.{◌≡◌, ℕ, List, All}
use Rattle.std.specs.declared.option.Option.{Option}
use Rattle.std.specs.declared.option.Option.TheVariants.{Some}
use Rattle.lt_ast.specs.Syntax.{Declaration}
use Rattle.lt_num.specs.declared.kind.Kind.{Kind}
use Rattle.lt_types.specs.Typing.{IsWellTyped}
use Rattle.lt_formula.specs.Expression.{Expression}
use Rattle.lt_formula.specs.Facts.{facts_of}
use Rattle.lt_formula.specs.Kinds.{Kinds}
use Rattle.lt_macros.specs.Expanded.{Node}
use Rattle.lt_macros.specs.Expansion.{expanded_node}
use Rattle.lt_macros.specs.Placed.{Placed}
use Rattle.lt_macros.specs.Preorder.{expressions_in}
use Rattle.lt_typing_laws.specs.Macros.{MacrosFitTheirTypes}
use Rattle.lt_typing_laws.specs.TypedNode.{node_kinds, IsOfKind, IsTypedNode}
use Rattle.lt_term.specs.WellTyped.{HasKind}

-- The kind of a well typed expression is the one that its facts tell.
abbrev pub KindsAreTold : Type 0
KindsAreTold = (kinds : Kinds) (e : Expression) (k : Kind) → HasKind kinds e k → (facts_of kinds e).kind ≡ k

-- An expression of a node has some kind, by the kinds of the node's variables.
abbrev pub HasSomeKind : Node → Placed → Type 0
HasSomeKind node e = (k : Kind) × IsOfKind (node_kinds node) e k

-- In a well typed node each expression is well typed: none is left out.
abbrev pub NoneIsLeftOut : Type 0
NoneIsLeftOut = (node : Node) → IsTypedNode node → All (HasSomeKind node) (expressions_in node)

-- What a node of a well typed program stands for is well typed.
abbrev pub ExpansionKeepsTypes : Type 0
ExpansionKeepsTypes =
    (decimals : ℕ) (wanted : Option (List ℕ)) (ds : List Declaration) (node : Node) →
    IsWellTyped decimals ds → MacrosFitTheirTypes ds → expanded_node decimals wanted ds ≡ Some node → IsTypedNode node

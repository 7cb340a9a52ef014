-- What holds of every program.
use Rattle.std.specs.Prelude.{◌≡◌, ◌↔◌, ℕ, List, []}
use Rattle.lt_ast.specs.declared.group.TypeName.{TypeName}
use Rattle.lt_ast.specs.Syntax.{Declaration, Exp}
use Rattle.lt_types.specs.Environment.{Environment}
use Rattle.lt_types.specs.Typing.{HasType, IsWellTyped}
use Rattle.lt_types.specs.Refusals.{type_refusals}

-- A text is well typed exactly where it breaks no rule.
abbrev pub WellTypedIsUnrefused : Type 0
WellTypedIsUnrefused = (decimals : ℕ) (ds : List Declaration) → IsWellTyped decimals ds ↔ (type_refusals decimals ds ≡ [])

-- An expression has one type at most.
abbrev pub TypesAreOne : Type 0
TypesAreOne = (env : Environment) (e : Exp) (kind other : TypeName) → HasType env e kind → HasType env e other → kind ≡ other

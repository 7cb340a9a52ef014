-- Chains of operators as the code takes them apart.
use Rattle.std.specs.Prelude.{List, [], ◌∷◌, ◌++◌, option_map}
use Rattle.std.specs.Borrow.{Bor}
use Rattle.std.specs.declared.option.Option.{Option}
use Rattle.lt_ast.specs.declared.group.TypeName.{TypeName}
use Rattle.lt_ast.specs.declared.expr.Expr.{Expr}
use Rattle.lt_ast.specs.declared.expr.BinOp.{BinOp}
use Rattle.lt_ast.specs.declared.span.Span.{Span}
use Rattle.lt_ast.specs.View.{exp}
use Rattle.lt_types.specs.Environment.{Environment}
use Rattle.lt_types.specs.Operators.{binary_takes, binary_gives}
use Rattle.lt_types.specs.Refusals.{exp_refusals, type_of, operands}
use Rattle.lt_types.specs.declared.refusal.TypeRefusal.{TypeRefusal}

-- an operator and its right side, with the place of the whole
abbrev pub SideOf : Type 0
SideOf = BinOp × Bor Expr × Span

-- the rules that such sides break after an expression of this type, the innermost first
abbrev pub sides_refusals : Environment → Option TypeName → List SideOf → List TypeRefusal
sides_refusals env shown [] = []
sides_refusals env shown (p ∷ ps) = exp_refusals env (exp p.1.now) ++ (operands (binary_takes p.0) shown (type_of env (exp p.1.now)) p.2 ++ sides_refusals env (option_map (binary_gives p.0) shown) ps)

-- the type of the whole chain
abbrev pub sides_type : Option TypeName → List SideOf → Option TypeName
sides_type shown [] = shown
sides_type shown (p ∷ ps) = sides_type (option_map (binary_gives p.0) shown) ps

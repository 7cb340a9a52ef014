-- The types of operators, and where one type serves as another.
use Rattle.std.specs.Prelude.{Bool, true, false, ◌||◌}
use Rattle.lt_ast.specs.declared.group.TypeName.{TypeName}
use Rattle.lt_ast.specs.declared.group.TypeName.TheVariants as t
use Rattle.lt_ast.specs.declared.expr.UnOp.{UnOp}
use Rattle.lt_ast.specs.declared.expr.UnOp.TheVariants as u
use Rattle.lt_ast.specs.declared.expr.BinOp.{BinOp}
use Rattle.lt_ast.specs.declared.expr.OperatorClass.{OperatorClass}
use Rattle.lt_ast.specs.declared.expr.OperatorClass.TheVariants.{Connective, Equality, Order, Arithmetic, Whole}
use Rattle.lt_ast.specs.Operators.{class_of}

-- whether two types are one
abbrev pub same_type : TypeName → TypeName → Bool
same_type t.Bool t.Bool = true
same_type t.Int t.Int = true
same_type t.Real t.Real = true
same_type t.Trace t.Trace = true
same_type kind other = false

-- int or real
abbrev pub is_number : TypeName → Bool
is_number kind = same_type kind t.Int || same_type kind t.Real

-- bool, int or real
abbrev pub is_value : TypeName → Bool
is_value kind = same_type kind t.Bool || is_number kind

-- A type serves as itself, and bool as trace: a constraint is the trace of one reaction that meets it.
abbrev pub serves_as : TypeName → TypeName → Bool
serves_as t.Bool t.Trace = true
serves_as kind wanted = same_type kind wanted

-- the types that the operand of an operator may have
abbrev pub unary_takes : UnOp → TypeName → Bool
unary_takes u.Not kind = same_type kind t.Bool
unary_takes u.Neg kind = is_number kind

-- the types that the two operands of an operator of this class may have, both the same one
abbrev pub class_takes : OperatorClass → TypeName → Bool
class_takes Connective kind = same_type kind t.Bool
class_takes Equality kind = is_value kind
class_takes Order kind = is_number kind
class_takes Arithmetic kind = is_number kind
class_takes Whole kind = same_type kind t.Int

-- those of an operator
abbrev pub binary_takes : BinOp → TypeName → Bool
binary_takes op kind = class_takes (class_of op) kind

-- the type of the whole, where the operand has this one
abbrev pub unary_gives : UnOp → TypeName → TypeName
unary_gives u.Not kind = t.Bool
unary_gives u.Neg kind = kind

-- the type of the whole after an operator of this class, where the left operand has this one
abbrev pub class_gives : OperatorClass → TypeName → TypeName
class_gives Connective kind = t.Bool
class_gives Equality kind = t.Bool
class_gives Order kind = t.Bool
class_gives Arithmetic kind = kind
class_gives Whole kind = kind

-- the type of the whole after an operator, where the left operand has this one
abbrev pub binary_gives : BinOp → TypeName → TypeName
binary_gives op kind = class_gives (class_of op) kind

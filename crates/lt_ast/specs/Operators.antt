-- The classes of operators with two operands, of which rules speak.
use Rattle.lt_ast.specs.declared.expr.BinOp.{BinOp}
use Rattle.lt_ast.specs.declared.expr.BinOp.TheVariants as b
use Rattle.lt_ast.specs.declared.expr.OperatorClass.{OperatorClass}
use Rattle.lt_ast.specs.declared.expr.OperatorClass.TheVariants.{Connective, Equality, Order, Arithmetic, Whole}

-- the class of an operator
abbrev pub class_of : BinOp → OperatorClass
class_of b.And = Connective
class_of b.Or = Connective
class_of b.Xor = Connective
class_of b.Implies = Connective
class_of b.Eq = Equality
class_of b.Ne = Equality
class_of b.Lt = Order
class_of b.Le = Order
class_of b.Gt = Order
class_of b.Ge = Order
class_of b.Add = Arithmetic
class_of b.Sub = Arithmetic
class_of b.Mul = Arithmetic
class_of b.Div = Arithmetic
class_of b.DivWord = Whole
class_of b.Mod = Whole

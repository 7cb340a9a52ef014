-- When two expressions are one.
use Rattle.std.specs.Prelude.{◌≡◌, Bool, false, ◌&&◌, nat_eq}
use Rattle.std.specs.Bool.{Decides}
use Rattle.lt_num.specs.contracts.kind.KindPartialEq.TheImpl.{eq-value as same_kind}
use Rattle.lt_num.specs.contracts.value.ValuePartialEq.TheImpl.{eq-value as same_value}
use Rattle.lt_formula.specs.Expression.{Expression, constant, variable, previous, unary, binary, choice}
use Rattle.lt_formula.specs.contracts.role.RolePartialEq.TheImpl.{eq-value as same_role}
use Rattle.lt_formula.specs.contracts.operator.UnaryOperatorPartialEq.TheImpl.{eq-value as same_unary}
use Rattle.lt_formula.specs.contracts.operator.BinaryOperatorPartialEq.TheImpl.{eq-value as same_binary}

-- whether two expressions are one, part by part
abbrev pub is_same : Expression → Expression → Bool
is_same (constant k v) (constant l w) = same_kind.it k l && same_value.it v w
is_same (variable r i) (variable s j) = same_role.it r s && nat_eq i j
is_same (previous r i) (previous s j) = same_role.it r s && nat_eq i j
is_same (unary op d) (unary other e) = same_unary.it op other && is_same d e
is_same (binary op c d) (binary other e f) = same_binary.it op other && (is_same c e && is_same d f)
is_same (choice b c d) (choice e f g) = is_same b e && (is_same c f && is_same d g)
is_same d e = false

-- The test finds exactly those that are one.
abbrev pub SameIsOne : Type 0
SameIsOne = (d e : Expression) → Decides (is_same d e) (d ≡ e)

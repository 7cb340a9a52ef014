-- Operators of a text take and give what those of a scenario do.
use Rattle.std.proofs.Common.{◌≡◌, not, IsTrue, refl}
use Rattle.lt_ast.specs.declared.group.TypeName.{TypeName}
use Rattle.lt_ast.specs.declared.group.TypeName.TheVariants as t
use Rattle.lt_ast.specs.declared.expr.UnOp.{UnOp}
use Rattle.lt_ast.specs.declared.expr.UnOp.TheVariants as u
use Rattle.lt_ast.specs.declared.expr.BinOp.{BinOp}
use Rattle.lt_ast.specs.declared.expr.BinOp.TheVariants as b
use Rattle.lt_formula.specs.Facts.{unary_kind, binary_kind}
use Rattle.lt_macros.specs.Literals.{kind_of, unary_operator, binary_operator}
use Rattle.lt_types.specs.Operators as types
use Rattle.lt_types.specs.Operators.{same_type, is_number, is_value, unary_gives, binary_gives}
use Rattle.lt_term.specs.WellTyped.{is_truth, is_whole, unary_takes, binary_takes}

-- Kinds of types.

truth_kind : (k : TypeName) → IsTrue (same_type k t.Bool) → IsTrue (is_truth (kind_of k))
truth_kind t.Bool h = refl
truth_kind t.Int h = absurd (cc)
truth_kind t.Real h = absurd (cc)
truth_kind t.Trace h = absurd (cc)

number_kind : (k : TypeName) → IsTrue (is_number k) → IsTrue (not (is_truth (kind_of k)))
number_kind t.Bool h = absurd (cc)
number_kind t.Int h = refl
number_kind t.Real h = refl
number_kind t.Trace h = absurd (cc)

whole_kind : (k : TypeName) → IsTrue (same_type k t.Int) → IsTrue (is_whole (kind_of k))
whole_kind t.Bool h = absurd (cc)
whole_kind t.Int h = refl
whole_kind t.Real h = absurd (cc)
whole_kind t.Trace h = absurd (cc)

whole_number : (k : TypeName) → IsTrue (same_type k t.Int) → IsTrue (is_number k)
whole_number t.Bool h = absurd (cc)
whole_number t.Int h = refl
whole_number t.Real h = absurd (cc)
whole_number t.Trace h = absurd (cc)

-- Types of values.

truth_value : (k : TypeName) → IsTrue (same_type k t.Bool) → IsTrue (is_value k)
truth_value t.Bool h = refl
truth_value t.Int h = absurd (cc)
truth_value t.Real h = absurd (cc)
truth_value t.Trace h = absurd (cc)

number_value : (k : TypeName) → IsTrue (is_number k) → IsTrue (is_value k)
number_value t.Bool h = refl
number_value t.Int h = refl
number_value t.Real h = refl
number_value t.Trace h = absurd (cc)

whole_value : (k : TypeName) → IsTrue (same_type k t.Int) → IsTrue (is_value k)
whole_value t.Bool h = refl
whole_value t.Int h = refl
whole_value t.Real h = absurd (cc)
whole_value t.Trace h = absurd (cc)

-- One operand.

-- it has the kind that the operator takes
pub unary_taken : (op : UnOp) (k : TypeName) → IsTrue (types.unary_takes op k) → IsTrue (unary_takes (unary_operator op) (kind_of k))
unary_taken u.Not k h = truth_kind k h
unary_taken u.Neg k h = number_kind k h

-- and is no trace
pub unary_of_value : (op : UnOp) (k : TypeName) → IsTrue (types.unary_takes op k) → IsTrue (is_value k)
unary_of_value u.Not k h = truth_value k h
unary_of_value u.Neg k h = number_value k h

-- the kind of the whole
pub unary_given : (op : UnOp) (k : TypeName) → kind_of (unary_gives op k) ≡ unary_kind (unary_operator op) (kind_of k)
unary_given u.Not k = refl
unary_given u.Neg k = refl

-- Two operands.

pub binary_taken : (op : BinOp) (k : TypeName) → IsTrue (types.binary_takes op k) → IsTrue (binary_takes (binary_operator op) (kind_of k))
binary_taken b.And k h = truth_kind k h
binary_taken b.Or k h = truth_kind k h
binary_taken b.Xor k h = truth_kind k h
binary_taken b.Implies k h = truth_kind k h
binary_taken b.Eq k h = refl
binary_taken b.Ne k h = refl
binary_taken b.Lt k h = number_kind k h
binary_taken b.Le k h = number_kind k h
binary_taken b.Gt k h = number_kind k h
binary_taken b.Ge k h = number_kind k h
binary_taken b.Add k h = number_kind k h
binary_taken b.Sub k h = number_kind k h
binary_taken b.Mul k h = number_kind k h
binary_taken b.Div k h = number_kind k h
binary_taken b.DivWord k h = number_kind k (whole_number k h)
binary_taken b.Mod k h = whole_kind k h

pub binary_of_value : (op : BinOp) (k : TypeName) → IsTrue (types.binary_takes op k) → IsTrue (is_value k)
binary_of_value b.And k h = truth_value k h
binary_of_value b.Or k h = truth_value k h
binary_of_value b.Xor k h = truth_value k h
binary_of_value b.Implies k h = truth_value k h
binary_of_value b.Eq k h = h
binary_of_value b.Ne k h = h
binary_of_value b.Lt k h = number_value k h
binary_of_value b.Le k h = number_value k h
binary_of_value b.Gt k h = number_value k h
binary_of_value b.Ge k h = number_value k h
binary_of_value b.Add k h = number_value k h
binary_of_value b.Sub k h = number_value k h
binary_of_value b.Mul k h = number_value k h
binary_of_value b.Div k h = number_value k h
binary_of_value b.DivWord k h = whole_value k h
binary_of_value b.Mod k h = whole_value k h

pub binary_given : (op : BinOp) (k : TypeName) → kind_of (binary_gives op k) ≡ binary_kind (binary_operator op) (kind_of k)
binary_given b.And k = refl
binary_given b.Or k = refl
binary_given b.Xor k = refl
binary_given b.Implies k = refl
binary_given b.Eq k = refl
binary_given b.Ne k = refl
binary_given b.Lt k = refl
binary_given b.Le k = refl
binary_given b.Gt k = refl
binary_given b.Ge k = refl
binary_given b.Add k = refl
binary_given b.Sub k = refl
binary_given b.Mul k = refl
binary_given b.Div k = refl
binary_given b.DivWord k = refl
binary_given b.Mod k = refl

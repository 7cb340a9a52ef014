-- What well typed expressions are worth.
use Rattle.std.proofs.Common.{◌≡◌, Bool, true, false, not, IsTrue, Option, None, Some, Ok, Err, Result, refl, ap, sym, subst, ◌∙◌, if◌then◌else◌}
use Rattle.std.specs.Prelude.{ℤ, ℕ}
use Rattle.lt_num.specs.Value.{is_true, raw_of, value_of}
use Rattle.lt_num.specs.declared.fault.Arith.{Arith}
use Rattle.lt_num.specs.declared.fixed.Fixed.{Fixed}
use Rattle.lt_num.specs.declared.kind.Kind.{Kind}
use Rattle.lt_num.specs.declared.kind.Kind.TheVariants as kind
use Rattle.lt_num.specs.declared.value.Value.{Value}
use Rattle.lt_num.specs.declared.value.Value.TheVariants as value
use Rattle.lt_formula.specs.Expression.{Expression, constant, variable, previous, unary, binary, choice}
use Rattle.lt_formula.specs.Facts.{unary_kind, binary_kind, facts_of}
use Rattle.lt_formula.specs.Kinds.{Kinds}
use Rattle.lt_formula.specs.Operators.{Answer, and_then, truth, number_value, constant_value, unary_value, settled, binary_value}
use Rattle.lt_formula.specs.Valuation.{Valuation, found, previous_value, settled_or, value_under}
use Rattle.lt_formula.specs.declared.operator.UnaryOperator.{UnaryOperator}
use Rattle.lt_formula.specs.declared.operator.UnaryOperator.TheVariants as one
use Rattle.lt_formula.specs.declared.operator.BinaryOperator.{BinaryOperator}
use Rattle.lt_formula.specs.declared.operator.BinaryOperator.TheVariants as two
use Rattle.lt_term.specs.WellTyped.{HasKind, binary_takes, is_truth, is_whole, unary_takes}
use Rattle.lt_term_laws.specs.Worths.{HasFittingVariables, IsOfKind, WorthsAreOfTheirKinds}

-- Values.

-- the value of an answer; where there is none, this one
abbrev value_in : Value → Answer → Value
value_in other (Ok x) = x
value_in other (Err fault) = other

a_truth : (b : Bool) → IsOfKind kind.Bool (value.Bool b)
a_truth false = refl
a_truth true = refl

a_number : (k : Kind) (raw : ℤ) → IsTrue (not (is_truth k)) → IsOfKind k (value.Num raw)
a_number kind.Bool raw t = absurd (cc)
a_number kind.Int raw t = refl
a_number kind.Real raw t = refl

truth_is : (b : Bool) (x : Value) → truth b ≡ Ok x → IsOfKind kind.Bool x
truth_is b x e = subst (IsOfKind kind.Bool) (ap (value_in x) e) (a_truth b)

number_is : (k : Kind) (answer : Result Fixed Arith) (x : Value) → IsTrue (not (is_truth k)) → number_value answer ≡ Ok x → IsOfKind k x
number_is k (Ok fixed) x t e = subst (IsOfKind k) (ap (value_in x) e) (a_number k fixed.raw t)
number_is k (Err fault) x t e = absurd (cc)

whole_is_number : (k : Kind) → IsTrue (is_whole k) → IsTrue (not (is_truth k))
whole_is_number kind.Bool t = absurd (cc)
whole_is_number kind.Int t = refl
whole_is_number kind.Real t = absurd (cc)

-- Expressions.

constant_worth : (k : Kind) (c x : Value) → IsOfKind k c → constant_value c ≡ Ok x → IsOfKind k x
constant_worth k (value.Bool b) x h e = subst (IsOfKind k) (ap (value_in x) e) h
constant_worth kind.Bool (value.Num raw) x h e = absurd (cc)
constant_worth kind.Int (value.Num raw) x h e = number_is kind.Int _ x refl e
constant_worth kind.Real (value.Num raw) x h e = number_is kind.Real _ x refl e

unary_worth : (op : UnaryOperator) (k : Kind) (a : Answer) (x : Value) → IsTrue (unary_takes op k) → and_then a (unary_value op) ≡ Ok x → IsOfKind (unary_kind op k) x
unfolding unary_value
unary_worth one.Not k (Ok a) x t e = truth_is _ x e
unary_worth one.Not k (Err fault) x t e = absurd (cc)
unary_worth one.Neg k (Ok a) x t e = number_is k _ x t e
unary_worth one.Neg k (Err fault) x t e = absurd (cc)

-- what comes of an answer, where whatever comes of a value is of a kind
after_one : (k : Kind) (b : Answer) (f : Value → Answer) (x : Value) → ((a y : Value) → f a ≡ Ok y → IsOfKind k y) → and_then b f ≡ Ok x → IsOfKind k x
after_one k (Ok a) f x h e = h a x e
after_one k (Err fault) f x h e = absurd (cc)

-- a truth that is settled, or what comes of the other part
after_settled : (o : Option Bool) (b : Answer) (f : Value → Answer) (x : Value) → ((a y : Value) → f a ≡ Ok y → IsOfKind kind.Bool y) → settled_or o (and_then b f) ≡ Ok x → IsOfKind kind.Bool x
after_settled (Some t) b f x h e = truth_is t x e
after_settled None b f x h e = after_one kind.Bool b f x h e

-- the other part of an operator, where the first one is this
second_worth : (op : BinaryOperator) (k by : Kind) (decimals : ℕ) (a : Value) (b : Answer) (x : Value) → IsTrue (binary_takes op k) → settled_or (settled op a) (and_then b (binary_value op by decimals a)) ≡ Ok x → IsOfKind (binary_kind op k) x
unfolding settled binary_value
second_worth two.And k by decimals a b x t e = after_settled (if is_true a then None else Some false) b (binary_value two.And by decimals a) x (λ c y. truth_is _ y) e
second_worth two.Or k by decimals a b x t e = after_settled (if is_true a then Some true else None) b (binary_value two.Or by decimals a) x (λ c y. truth_is _ y) e
second_worth two.Implies k by decimals a b x t e = after_settled (if is_true a then None else Some true) b (binary_value two.Implies by decimals a) x (λ c y. truth_is _ y) e
second_worth two.Xor k by decimals a b x t e = after_one kind.Bool b (binary_value two.Xor by decimals a) x (λ c y. truth_is _ y) e
second_worth two.Eq k by decimals a b x t e = after_one kind.Bool b (binary_value two.Eq by decimals a) x (λ c y. truth_is _ y) e
second_worth two.Ne k by decimals a b x t e = after_one kind.Bool b (binary_value two.Ne by decimals a) x (λ c y. truth_is _ y) e
second_worth two.Lt k by decimals a b x t e = after_one kind.Bool b (binary_value two.Lt by decimals a) x (λ c y. truth_is _ y) e
second_worth two.Le k by decimals a b x t e = after_one kind.Bool b (binary_value two.Le by decimals a) x (λ c y. truth_is _ y) e
second_worth two.Gt k by decimals a b x t e = after_one kind.Bool b (binary_value two.Gt by decimals a) x (λ c y. truth_is _ y) e
second_worth two.Ge k by decimals a b x t e = after_one kind.Bool b (binary_value two.Ge by decimals a) x (λ c y. truth_is _ y) e
second_worth two.Add k by decimals a b x t e = after_one k b (binary_value two.Add by decimals a) x (λ c y. number_is k _ y t) e
second_worth two.Sub k by decimals a b x t e = after_one k b (binary_value two.Sub by decimals a) x (λ c y. number_is k _ y t) e
second_worth two.Mul k by decimals a b x t e = after_one k b (binary_value two.Mul by decimals a) x (λ c y. number_is k _ y t) e
second_worth two.Div k by decimals a b x t e = after_one k b (binary_value two.Div by decimals a) x (λ c y. number_is k _ y t) e
second_worth two.Mod k by decimals a b x t e = after_one k b (binary_value two.Mod by decimals a) x (λ c y. number_is k _ y (whole_is_number k t)) e

binary_worth : (op : BinaryOperator) (k by : Kind) (decimals : ℕ) (a b : Answer) (x : Value) → IsTrue (binary_takes op k) →
    and_then a (λ c. settled_or (settled op c) (and_then b (binary_value op by decimals c))) ≡ Ok x → IsOfKind (binary_kind op k) x
binary_worth op k by decimals (Ok c) b x t e = second_worth op k by decimals c b x t e
binary_worth op k by decimals (Err fault) b x t e = absurd (cc)

-- one of two answers by a truth
by_truth : (t : Bool) (k : Kind) (a b : Answer) (x : Value) → (a ≡ Ok x → IsOfKind k x) → (b ≡ Ok x → IsOfKind k x) → (if t then a else b) ≡ Ok x → IsOfKind k x
by_truth true k a b x first second e = first e
by_truth false k a b x first second e = second e

choice_worth : (k : Kind) (c a b : Answer) (x : Value) → (a ≡ Ok x → IsOfKind k x) → (b ≡ Ok x → IsOfKind k x) → and_then c (λ t. if is_true t then a else b) ≡ Ok x → IsOfKind k x
choice_worth k (Ok t) a b x first second e = by_truth (is_true t) k a b x first second e
choice_worth k (Err fault) a b x first second e = absurd (cc)

-- what a variable was, if it was anything
found_worth : (k : Kind) (o : Option Value) (x : Value) → ((y : Value) → o ≡ Some y → IsOfKind k y) → found o ≡ Ok x → IsOfKind k x
found_worth k (Some y) x h e = subst (IsOfKind k) (ap (value_in x) e) (h y refl)
found_worth k None x h e = absurd (cc)

pub worths : WorthsAreOfTheirKinds
worths kinds v (constant k c) wanted x f h e = subst (λ (j : Kind). IsOfKind j x) (sym h.0) (constant_worth k c x h.1 e)
worths kinds v (variable r i) wanted x f h e = subst (IsOfKind wanted) (ap (value_in x) e) (f wanted h)
worths kinds v (previous r i) wanted x f h e = found_worth wanted (previous_value v r i) x (λ y is. f wanted y h is) e
worths kinds v (unary op d) wanted x f h e = subst (λ (j : Kind). IsOfKind j x) (sym h.3) (unary_worth op h.0 (value_under v kinds d) x h.2 e)
worths kinds v (binary op c d) wanted x f h e =
    subst (λ (j : Kind). IsOfKind j x) (sym h.4) (binary_worth op h.0 (facts_of kinds c).kind v.decimals (value_under v kinds c) (value_under v kinds d) x h.3 e)
worths kinds v (choice c a b) wanted x f h e =
    choice_worth wanted (value_under v kinds c) (value_under v kinds a) (value_under v kinds b) x (worths kinds v a wanted x f.1 h.1) (worths kinds v b wanted x f.2 h.2) e

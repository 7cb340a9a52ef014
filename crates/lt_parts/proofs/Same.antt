-- The test of expressions finds exactly those that are one.
use Rattle.std.proofs.Common.{◌≡◌, Bool, true, false, ◌&&◌, nat_eq, refl, ap, sym, subst, eq-eqb, true≢false}
use Rattle.std.proofs.lemmas.Bool.Decides.{Decides-int_eq}
use borrow.Author.Tests.{eqb-true}
use Rattle.lt_num.specs.contracts.kind.KindPartialEq.TheImpl.{eq-value as same_kind}
use Rattle.lt_num.specs.contracts.value.ValuePartialEq.TheImpl.{eq-value as same_value}
use Rattle.lt_num.specs.declared.kind.Kind.{Kind}
use Rattle.lt_num.specs.declared.kind.Kind.TheVariants as kind
use Rattle.lt_num.specs.declared.value.Value.{Value}
use Rattle.lt_num.specs.declared.value.Value.TheVariants as value
use Rattle.lt_formula.specs.Expression.{Expression, constant, variable, previous, unary, binary, choice}
use Rattle.lt_formula.specs.contracts.role.RolePartialEq.TheImpl.{eq-value as same_role}
use Rattle.lt_formula.specs.contracts.operator.UnaryOperatorPartialEq.TheImpl.{eq-value as same_unary}
use Rattle.lt_formula.specs.contracts.operator.BinaryOperatorPartialEq.TheImpl.{eq-value as same_binary}
use Rattle.lt_formula.specs.declared.role.Role.{Role}
use Rattle.lt_formula.specs.declared.role.Role.TheVariants as role
use Rattle.lt_formula.specs.declared.operator.UnaryOperator.{UnaryOperator}
use Rattle.lt_formula.specs.declared.operator.UnaryOperator.TheVariants as one
use Rattle.lt_formula.specs.declared.operator.BinaryOperator.{BinaryOperator}
use Rattle.lt_formula.specs.declared.operator.BinaryOperator.TheVariants as two
use Rattle.lt_parts.specs.Same.{SameIsOne, is_same}

first_true : (a b : Bool) → a && b ≡ true → a ≡ true
first_true true b h = refl
first_true false b h = h

second_true : (a b : Bool) → a && b ≡ true → b ≡ true
second_true true b h = h
second_true false b h = absurd (true≢false (sym h))

both : (a b : Bool) → a ≡ true → b ≡ true → a && b ≡ true
both true b h k = k
both false b h k = h

-- What is found is one.

one_kind : (a b : Kind) → same_kind.it a b ≡ true → a ≡ b
one_kind kind.Bool kind.Bool h = refl
one_kind kind.Int kind.Int h = refl
one_kind kind.Real kind.Real h = refl
one_kind a b h = absurd (true≢false (sym h))

one_flag : (a b : Bool) → same_value.it (value.Bool a) (value.Bool b) ≡ true → a ≡ b
one_flag true true h = refl
one_flag false false h = refl
one_flag true false h = absurd (true≢false (sym h))
one_flag false true h = absurd (true≢false (sym h))

one_value : (a b : Value) → same_value.it a b ≡ true → a ≡ b
one_value (value.Bool a) (value.Bool b) h = ap value.Bool (one_flag a b h)
one_value (value.Num a) (value.Num b) h = ap value.Num ((Decides-int_eq a b).0 h)
one_value a b h = absurd (true≢false (sym h))

one_role : (a b : Role) → same_role.it a b ≡ true → a ≡ b
one_role role.Input role.Input h = refl
one_role role.Output role.Output h = refl
one_role role.Local role.Local h = refl
one_role a b h = absurd (true≢false (sym h))

one_unary : (a b : UnaryOperator) → same_unary.it a b ≡ true → a ≡ b
one_unary one.Not one.Not h = refl
one_unary one.Neg one.Neg h = refl
one_unary a b h = absurd (true≢false (sym h))

one_binary : (a b : BinaryOperator) → same_binary.it a b ≡ true → a ≡ b
one_binary two.And two.And h = refl
one_binary two.Or two.Or h = refl
one_binary two.Xor two.Xor h = refl
one_binary two.Implies two.Implies h = refl
one_binary two.Eq two.Eq h = refl
one_binary two.Ne two.Ne h = refl
one_binary two.Lt two.Lt h = refl
one_binary two.Le two.Le h = refl
one_binary two.Gt two.Gt h = refl
one_binary two.Ge two.Ge h = refl
one_binary two.Add two.Add h = refl
one_binary two.Sub two.Sub h = refl
one_binary two.Mul two.Mul h = refl
one_binary two.Div two.Div h = refl
one_binary two.Mod two.Mod h = refl
one_binary a b h = absurd (true≢false (sym h))

one_expression : (d e : Expression) → is_same d e ≡ true → d ≡ e
one_expression (constant k v) (constant l w) h =
    λ i. constant (one_kind k l (first_true (same_kind.it k l) (same_value.it v w) h) i) (one_value v w (second_true (same_kind.it k l) (same_value.it v w) h) i)
one_expression (variable r i) (variable s j) h =
    λ x. variable (one_role r s (first_true (same_role.it r s) (nat_eq i j) h) x) (eqb-true i j (second_true (same_role.it r s) (nat_eq i j) h) x)
one_expression (previous r i) (previous s j) h =
    λ x. previous (one_role r s (first_true (same_role.it r s) (nat_eq i j) h) x) (eqb-true i j (second_true (same_role.it r s) (nat_eq i j) h) x)
one_expression (unary op d) (unary other e) h =
    λ i. unary (one_unary op other (first_true (same_unary.it op other) (is_same d e) h) i) (one_expression d e (second_true (same_unary.it op other) (is_same d e) h) i)
one_expression (binary op c d) (binary other e f) h =
    let rest : is_same c e && is_same d f ≡ true = second_true (same_binary.it op other) (is_same c e && is_same d f) h in
    λ i. binary (one_binary op other (first_true (same_binary.it op other) (is_same c e && is_same d f) h) i) (one_expression c e (first_true (is_same c e) (is_same d f) rest) i) (one_expression d f (second_true (is_same c e) (is_same d f) rest) i)
one_expression (choice b c d) (choice e f g) h =
    let rest : is_same c f && is_same d g ≡ true = second_true (is_same b e) (is_same c f && is_same d g) h in
    λ i. choice (one_expression b e (first_true (is_same b e) (is_same c f && is_same d g) h) i) (one_expression c f (first_true (is_same c f) (is_same d g) rest) i) (one_expression d g (second_true (is_same c f) (is_same d g) rest) i)
one_expression d e h = absurd (true≢false (sym h))

-- Each is found to be one with itself.

self_kind : (a : Kind) → same_kind.it a a ≡ true
self_kind kind.Bool = refl
self_kind kind.Int = refl
self_kind kind.Real = refl

self_flag : (a : Bool) → same_value.it (value.Bool a) (value.Bool a) ≡ true
self_flag true = refl
self_flag false = refl

self_value : (a : Value) → same_value.it a a ≡ true
self_value (value.Bool a) = self_flag a
self_value (value.Num a) = (Decides-int_eq a a).1 refl

self_role : (a : Role) → same_role.it a a ≡ true
self_role role.Input = refl
self_role role.Output = refl
self_role role.Local = refl

self_unary : (a : UnaryOperator) → same_unary.it a a ≡ true
self_unary one.Not = refl
self_unary one.Neg = refl

self_binary : (a : BinaryOperator) → same_binary.it a a ≡ true
self_binary two.And = refl
self_binary two.Or = refl
self_binary two.Xor = refl
self_binary two.Implies = refl
self_binary two.Eq = refl
self_binary two.Ne = refl
self_binary two.Lt = refl
self_binary two.Le = refl
self_binary two.Gt = refl
self_binary two.Ge = refl
self_binary two.Add = refl
self_binary two.Sub = refl
self_binary two.Mul = refl
self_binary two.Div = refl
self_binary two.Mod = refl

self_expression : (e : Expression) → is_same e e ≡ true
self_expression (constant k v) = both _ _ (self_kind k) (self_value v)
self_expression (variable r i) = both _ _ (self_role r) (eq-eqb i i refl)
self_expression (previous r i) = both _ _ (self_role r) (eq-eqb i i refl)
self_expression (unary op d) = both _ _ (self_unary op) (self_expression d)
self_expression (binary op c d) = both _ _ (self_binary op) (both _ _ (self_expression c) (self_expression d))
self_expression (choice b c d) = both _ _ (self_expression b) (both _ _ (self_expression c) (self_expression d))

pub same_is_one : SameIsOne
same_is_one d e = (one_expression d e, λ h. subst (λ (x : Expression). is_same d x ≡ true) h (self_expression d))

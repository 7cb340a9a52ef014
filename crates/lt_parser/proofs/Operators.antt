-- Precedence of expressions, and how operators are read.
use Rattle.std.proofs.Common.{◌≡◌, ℕ, suc, ◌≤◌, List, ◌∷◌, length, refl, ◌∙◌, ap, false, if◌then◌else◌, nat_le, nat_lt, Option, Some, arith}
use Rattle.std.proofs.lemmas.Bool.{le-leb}
use Rattle.std.proofs.lemmas.Bool.Decides.{nat_tests}
use Rattle.lt_ast.specs.declared.span.Span.{Span}
use Rattle.lt_ast.specs.declared.expr.UnOp.{UnOp}
use Rattle.lt_ast.specs.declared.expr.UnOp.TheVariants as u
use Rattle.lt_ast.specs.declared.expr.BinOp.{BinOp}
use Rattle.lt_ast.specs.declared.expr.BinOp.TheVariants as b
use Rattle.lt_ast.specs.Syntax as s
use Rattle.lt_ast.specs.Syntax.{Exp}
use Rattle.lt_ast.specs.Tokens.{unary_sign, binary_sign}
use Rattle.lt_grammar.specs.Lexemes.{Lexemes, lexeme}
use Rattle.lt_grammar.specs.Precedence.{rank, under, operator, Stands, left_least, right_least, side_least}
use Rattle.lt_ast.specs.Places.{across, span_of}
use Rattle.lt_parser.specs.inner.Reading.{Goal, Move, outcome, onward, operand, allowed, opens, stuck, extend, step, top, cap, an_exp, more_exp, unary_goal}
use Rattle.lt_parser.proofs.Skips.{enter}

-- Any expression may stand where the loosest is wanted, and where a looser one is than it is.
pub stands_zero : (e : Exp) → Stands 0 e
stands_zero (s.choose e f g at) = omega arith
stands_zero (s.binary op e f at) = omega arith
stands_zero (s.unary op e at) = omega arith
stands_zero (s.number f) = tt
stands_zero (s.flag v at) = tt
stands_zero (s.named n) = tt
stands_zero (s.called n args) = tt
stands_zero (s.pre n at) = tt
stands_zero (s.paren e at) = tt

pub looser : (e : Exp) (low high : ℕ) → low ≤ high → Stands high e → Stands low e
looser (s.choose e f g at) low high le h = omega (arith, le, h)
looser (s.binary op e f at) low high le h = omega (arith, le, h)
looser (s.unary op e at) low high le h = omega (arith, le, h)
looser e low high le h = tt

pub left_rank : (op : BinOp) → rank op ≤ left_least op
left_rank b.Implies = omega arith
left_rank b.Eq = omega arith
left_rank b.Ne = omega arith
left_rank b.Lt = omega arith
left_rank b.Le = omega arith
left_rank b.Gt = omega arith
left_rank b.Ge = omega arith
left_rank op = omega arith

-- the highest level of an operator after an expression, by the level where it stands
low_top : (e : Exp) (low : ℕ) → 2 ≤ low → low ≤ 3 → Stands low e → low ≤ top e
low_top (s.choose e f g at) low l m h = absurd (omega (arith, l, h))
low_top (s.binary b.Implies e f at) low l m h = absurd (omega (arith, l, h))
low_top (s.binary b.Eq e f at) low l m h = m
low_top (s.binary b.Ne e f at) low l m h = m
low_top (s.binary b.Lt e f at) low l m h = m
low_top (s.binary b.Le e f at) low l m h = m
low_top (s.binary b.Gt e f at) low l m h = m
low_top (s.binary b.Ge e f at) low l m h = m
low_top (s.binary op e f at) low l m h = h
low_top (s.unary u.Not e at) low l m h = m
low_top e low l m h = omega (arith, m)

high_top : (e : Exp) (low : ℕ) → 6 ≤ low → low ≤ 7 → Stands low e → low ≤ top e
high_top (s.choose e f g at) low l m h = absurd (omega (arith, l, h))
high_top (s.binary b.Implies e f at) low l m h = absurd (omega (arith, l, h))
high_top (s.binary b.Eq e f at) low l m h = absurd (omega (arith, l, h))
high_top (s.binary b.Ne e f at) low l m h = absurd (omega (arith, l, h))
high_top (s.binary b.Lt e f at) low l m h = absurd (omega (arith, l, h))
high_top (s.binary b.Le e f at) low l m h = absurd (omega (arith, l, h))
high_top (s.binary b.Gt e f at) low l m h = absurd (omega (arith, l, h))
high_top (s.binary b.Ge e f at) low l m h = absurd (omega (arith, l, h))
high_top (s.binary op e f at) low l m h = h
high_top (s.unary u.Not e at) low l m h = absurd (omega (arith, l, h))
high_top e low l m h = m

three_side : (f : Exp) → 4 ≤ side_least f
three_side (s.unary u.Not e at) = omega arith
three_side f = omega arith

-- A left side may be followed by its operator.
pub left_top : (op : BinOp) (e : Exp) → Stands (left_least op) e → rank op ≤ top e
left_top b.Implies e h = let q : 2 ≤ top e = low_top e 2 (omega arith) (omega arith) h in omega (arith, q)
left_top b.Or e h = low_top e 2 (omega arith) (omega arith) h
left_top b.Xor e h = low_top e 2 (omega arith) (omega arith) h
left_top b.And e h = low_top e 3 (omega arith) (omega arith) h
left_top b.Eq e h = let q : 6 ≤ top e = high_top e 6 (omega arith) (omega arith) h in omega (arith, q)
left_top b.Ne e h = let q : 6 ≤ top e = high_top e 6 (omega arith) (omega arith) h in omega (arith, q)
left_top b.Lt e h = let q : 6 ≤ top e = high_top e 6 (omega arith) (omega arith) h in omega (arith, q)
left_top b.Le e h = let q : 6 ≤ top e = high_top e 6 (omega arith) (omega arith) h in omega (arith, q)
left_top b.Gt e h = let q : 6 ≤ top e = high_top e 6 (omega arith) (omega arith) h in omega (arith, q)
left_top b.Ge e h = let q : 6 ≤ top e = high_top e 6 (omega arith) (omega arith) h in omega (arith, q)
left_top b.Add e h = high_top e 6 (omega arith) (omega arith) h
left_top b.Sub e h = high_top e 6 (omega arith) (omega arith) h
left_top b.Mul e h = high_top e 7 (omega arith) (omega arith) h
left_top b.Div e h = high_top e 7 (omega arith) (omega arith) h
left_top b.DivWord e h = high_top e 7 (omega arith) (omega arith) h
left_top b.Mod e h = high_top e 7 (omega arith) (omega arith) h

-- What may follow the whole may follow its right side.
pub right_top : (op : BinOp) (f : Exp) → Stands (right_least op f) f → cap op ≤ top f
right_top b.Implies f h = omega arith
right_top b.Or f h = let q : 3 ≤ top f = low_top f 3 (omega arith) (omega arith) h in omega (arith, q)
right_top b.Xor f h = let q : 3 ≤ top f = low_top f 3 (omega arith) (omega arith) h in omega (arith, q)
right_top b.And f h = low_top f 3 (omega arith) (omega arith) (looser f 3 4 (omega arith) h)
right_top b.Eq f h = let le : 3 ≤ side_least f = omega (arith, three_side f) in low_top f 3 (omega arith) (omega arith) (looser f 3 (side_least f) le h)
right_top b.Ne f h = let le : 3 ≤ side_least f = omega (arith, three_side f) in low_top f 3 (omega arith) (omega arith) (looser f 3 (side_least f) le h)
right_top b.Lt f h = let le : 3 ≤ side_least f = omega (arith, three_side f) in low_top f 3 (omega arith) (omega arith) (looser f 3 (side_least f) le h)
right_top b.Le f h = let le : 3 ≤ side_least f = omega (arith, three_side f) in low_top f 3 (omega arith) (omega arith) (looser f 3 (side_least f) le h)
right_top b.Gt f h = let le : 3 ≤ side_least f = omega (arith, three_side f) in low_top f 3 (omega arith) (omega arith) (looser f 3 (side_least f) le h)
right_top b.Ge f h = let le : 3 ≤ side_least f = omega (arith, three_side f) in low_top f 3 (omega arith) (omega arith) (looser f 3 (side_least f) le h)
right_top b.Add f h = let q : 7 ≤ top f = high_top f 7 (omega arith) (omega arith) h in omega (arith, q)
right_top b.Sub f h = let q : 7 ≤ top f = high_top f 7 (omega arith) (omega arith) h in omega (arith, q)
right_top b.Mul f h = high_top f 7 (omega arith) (omega arith) (looser f 7 8 (omega arith) h)
right_top b.Div f h = high_top f 7 (omega arith) (omega arith) (looser f 7 8 (omega arith) h)
right_top b.DivWord f h = high_top f 7 (omega arith) (omega arith) (looser f 7 8 (omega arith) h)
right_top b.Mod f h = high_top f 7 (omega arith) (omega arith) (looser f 7 8 (omega arith) h)

-- What may follow the whole doesn't extend its right side.
pub cap_right : (op : BinOp) (f : Exp) → suc (cap op) ≤ right_least op f
cap_right b.Implies f = omega arith
cap_right b.Eq f = three_side f
cap_right b.Ne f = three_side f
cap_right b.Lt f = three_side f
cap_right b.Le f = three_side f
cap_right b.Gt f = three_side f
cap_right b.Ge f = three_side f
cap_right op f = omega arith

-- What may follow an operator with one operand may follow its operand.
pub under_top : (op : UnOp) (e f : Exp) (at : Span) → Stands (under op) e → top (s.unary op f at) ≤ top e
under_top u.Neg e f at h = high_top e 7 (omega arith) (omega arith) (looser e 7 8 (omega arith) h)
under_top u.Not e f at h = low_top e 3 (omega arith) (omega arith) (looser e 3 4 (omega arith) h)

pub top_under : (op : UnOp) (f : Exp) (at : Span) → suc (top (s.unary op f at)) ≤ under op
top_under u.Neg f at = omega arith
top_under u.Not f at = omega arith

-- How operators are taken.
pub take_unary : (op : UnOp) (most d low : ℕ) (w : List ℕ) (p : Span) (m : Lexemes) (k : Exp → Goal) → low ≤ under op → suc d ≤ most
    → outcome most (an_exp d low k) (lexeme (unary_sign op) w p ∷ m) ≡ outcome most (unary_goal (suc d) op p (λ e. more_exp d low e k)) m
take_unary u.Neg most d low w p m k le lt =
    ap (λ c. onward most (allowed c (opens (suc d) (unary_goal (suc d) u.Neg p (λ e. more_exp d low e k)))) (length m) (λ goal. outcome most goal m)) (le-leb low 8 le)
    ∙ enter most (suc d) lt (unary_goal (suc d) u.Neg p (λ e. more_exp d low e k)) m
take_unary u.Not most d low w p m k le lt =
    ap (λ c. onward most (allowed c (opens (suc d) (unary_goal (suc d) u.Not p (λ e. more_exp d low e k)))) (length m) (λ goal. outcome most goal m)) (le-leb low 4 le)
    ∙ enter most (suc d) lt (unary_goal (suc d) u.Not p (λ e. more_exp d low e k)) m

pub operator-sign : (op : BinOp) → operator (binary_sign op) ≡ Some op
operator-sign b.Add = refl
operator-sign b.Sub = refl
operator-sign b.Mul = refl
operator-sign b.Div = refl
operator-sign b.DivWord = refl
operator-sign b.Mod = refl
operator-sign b.Eq = refl
operator-sign b.Ne = refl
operator-sign b.Lt = refl
operator-sign b.Le = refl
operator-sign b.Gt = refl
operator-sign b.Ge = refl
operator-sign b.And = refl
operator-sign b.Or = refl
operator-sign b.Xor = refl
operator-sign b.Implies = refl

not_below : (a low : ℕ) → low ≤ a → nat_lt a low ≡ false
not_below a low le = grind (arith, nat_tests)

extended : (o : Option BinOp) (op : BinOp) (d low : ℕ) (x : Exp) (k : Exp → Goal) (skip : Move) → o ≡ Some op → low ≤ rank op → rank op ≤ top x
    → extend o d low x k skip ≡ operand d op (λ y. more_exp d low (s.binary op x y (across (span_of x) (span_of y))) k)
extended o op d low x k skip e l r =
    ap (λ o'. extend o' d low x k skip) e
    ∙ ap (λ c. if c then skip else (if nat_le (rank op) (top x) then operand d op (λ y. more_exp d low (s.binary op x y (across (span_of x) (span_of y))) k) else stuck)) (not_below (rank op) low l)
    ∙ ap (λ c. if c then operand d op (λ y. more_exp d low (s.binary op x y (across (span_of x) (span_of y))) k) else stuck) (le-leb (rank op) (top x) r)

pub take_binary : (op : BinOp) (most d low : ℕ) (x : Exp) (k : Exp → Goal) (w : List ℕ) (p : Span) (m : Lexemes) → low ≤ rank op → rank op ≤ top x
    → outcome most (more_exp d low x k) (lexeme (binary_sign op) w p ∷ m) ≡ onward most (operand d op (λ y. more_exp d low (s.binary op x y (across (span_of x) (span_of y))) k)) (length m) (λ goal. outcome most goal m)
take_binary op most d low x k w p m l r =
    ap (λ a. onward most a (length m) (λ goal. outcome most goal m)) (extended (operator (binary_sign op)) op d low x k (step (k x) (binary_sign op) w p) (operator-sign op) l r)

-- What trees begin with.
use Rattle.std.proofs.Common.{◌≡◌, ℕ, ◌≤◌, List, [], ◌∷◌, length, refl, sym, ◌∙◌, ap, Bool, true, false, Option, Some, None, subst, arith}
use Rattle.lt_ast.specs.declared.sign.Sign.{Sign}
use Rattle.lt_ast.specs.declared.sign.Sign.TheVariants as t
use Rattle.lt_ast.specs.declared.span.Span.{Span}
use Rattle.lt_ast.specs.declared.expr.UnOp.TheVariants as u
use Rattle.lt_ast.specs.declared.expr.BinOp.{BinOp}
use Rattle.lt_ast.specs.Syntax as s
use Rattle.lt_ast.specs.Syntax.{Exp, Argument, Arguments, Trace, Traces, Alternative, Alternatives, Braces, Run}
use Rattle.lt_ast.specs.Tokens.{binary_sign}
use Rattle.lt_grammar.specs.Lexemes.{Lexemes, lexeme, IsNotFirst}
use Rattle.lt_grammar.specs.Precedence.{rank, operator, Stands, left_least, side_least, IsNoOperator}
use Rattle.lt_grammar.specs.Grammar.{DerivesExp, DerivesArgument, DerivesMoreArguments, DerivesTrace, DerivesSequence, DerivesMoreAlternatives, DerivesMoreExpressions, Place, item}
use Rattle.lt_parser.specs.inner.Reading.{Goal, outcome, onward, an_exp, a_right_side, an_item, an_argument, some_arguments, more_arguments, some_braced, an_alternative, after_weight, after_first, more_items, some_expressions, more_expressions, some_runs, sequence_of, begins_item, begin_exp, begin_item, begin_argument, begin_alternative, a_trace}
use Rattle.lt_parser.proofs.Skips.{Heads}
use Rattle.lt_parser.proofs.Operators.{looser, left_rank, operator-sign}

sign_of : Lexemes → Sign
sign_of [] = t.Run
sign_of (lexeme sign w at ∷ us) = sign

pub same_first : (a b : Sign) (w v : List ℕ) (p q : Span) (us vs : Lexemes) → lexeme a w p ∷ us ≡ lexeme b v q ∷ vs → a ≡ b
unfolding sign_of
same_first a b w v p q us vs e = ap sign_of e

pub none_some : (o : Option BinOp) (op : BinOp) → o ≡ None → o ≡ Some op → ⊥
none_some o op p q = cc

same_some : (o : Option BinOp) (a b : BinOp) → o ≡ Some a → o ≡ Some b → a ≡ b
same_some o a b p q = cc

-- A sign that is no operator ends an expression.
pub closed : (sign : Sign) (w : List ℕ) (p : Span) (m : Lexemes) → operator sign ≡ None → IsNoOperator (lexeme sign w p ∷ m)
closed sign w p m q = λ op sign' w' at' rest' e e'. none_some (operator sign) op q (ap operator (same_first sign sign' w w' p at' m rest' e) ∙ e')

pub head_op : (op : BinOp) (n : ℕ) (w : List ℕ) (p : Span) (m : Lexemes) → rank op ≤ n → Heads (λ o. rank o ≤ n) (lexeme (binary_sign op) w p ∷ m)
head_op op n w p m le = λ o sign' w' at' rest' e e'.
    let same : op ≡ o = same_some (operator (binary_sign op)) op o (operator-sign op) (ap operator (same_first (binary_sign op) sign' w w' p at' m rest' e) ∙ e') in
    let r : rank op ≡ rank o = ap rank same in omega (arith, le, r)

pub differs : (a b : Sign) (w : List ℕ) (p : Span) (m : Lexemes) → (a ≡ b → ⊥) → IsNotFirst b (lexeme a w p ∷ m)
differs a b w p m h = λ v q vs e. h (same_first a b w v p q m vs e)

-- the signs that begin an expression
abbrev pub begins_exp : Sign → Bool
begins_exp t.Number = true
begins_exp t.True = true
begins_exp t.False = true
begins_exp t.Name = true
begins_exp t.Pre = true
begins_exp t.Open = true
begins_exp t.Minus = true
begins_exp t.Not = true
begins_exp t.If = true
begins_exp sign = false

pub record BeginsExp (ts : Lexemes) : Type 0 where
  pub sign : Sign
  pub text : List ℕ
  pub at : Span
  pub rest : Lexemes
  pub is : ts ≡ lexeme sign text at ∷ rest
  pub begins : begins_exp sign ≡ true

pub exp_begins : (e : Exp) (most d : ℕ) (ts rest : Lexemes) → DerivesExp most d ts e rest → BeginsExp ts
exp_begins (s.number f) most d ts rest x = record { sign = t.Number; text = f.text; at = f.span; rest = rest; is = x.1; begins = refl }
exp_begins (s.flag true at) most d ts rest x = record { sign = t.True; text = x.0; at = at; rest = rest; is = x.1; begins = refl }
exp_begins (s.flag false at) most d ts rest x = record { sign = t.False; text = x.0; at = at; rest = rest; is = x.1; begins = refl }
exp_begins (s.named n) most d ts rest x = record { sign = t.Name; text = n.text; at = n.span; rest = rest; is = x.0; begins = refl }
exp_begins (s.called n args) most d ts rest x = record { sign = t.Name; text = n.text; at = n.span; rest = lexeme t.Open x.0 x.1 ∷ x.2; is = x.3; begins = refl }
exp_begins (s.pre n at) most d ts rest x = record { sign = t.Pre; text = x.0; at = x.1; rest = lexeme t.Name n.text n.span ∷ rest; is = x.2; begins = refl }
exp_begins (s.paren e at) most d ts rest x = record { sign = t.Open; text = x.0; at = x.1; rest = x.2; is = x.3; begins = refl }
exp_begins (s.unary u.Neg e at) most d ts rest x = record { sign = t.Minus; text = x.0; at = x.1; rest = x.2; is = x.3; begins = refl }
exp_begins (s.unary u.Not e at) most d ts rest x = record { sign = t.Not; text = x.0; at = x.1; rest = x.2; is = x.3; begins = refl }
exp_begins (s.binary op e f at) most d ts rest x = exp_begins e most d ts (lexeme (binary_sign op) x.3 x.4 ∷ x.5) x.6
exp_begins (s.choose e f g at) most d ts rest x = record { sign = t.If; text = x.0; at = x.1; rest = x.2; is = x.3; begins = refl }

false_true : {A : Type 0} → false ≡ true → A
false_true e = cc

at_item : (sign : Sign) (w : List ℕ) (p : Span) (d : ℕ) (k : Trace → Goal) → begins_exp sign ≡ true → begin_item d k sign w p ≡ begin_exp d 0 (λ e. k (s.value e)) sign w p
at_item t.Number w p d k e = refl
at_item t.True w p d k e = refl
at_item t.False w p d k e = refl
at_item t.Name w p d k e = refl
at_item t.Pre w p d k e = refl
at_item t.Open w p d k e = refl
at_item t.Minus w p d k e = refl
at_item t.Not w p d k e = refl
at_item t.If w p d k e = refl
at_item sign w p d k e = false_true e

pub no_item_begins : (sign : Sign) → begins_exp sign ≡ true → begins_item sign ≡ false
no_item_begins t.Number e = refl
no_item_begins t.True e = refl
no_item_begins t.False e = refl
no_item_begins t.Name e = refl
no_item_begins t.Pre e = refl
no_item_begins t.Open e = refl
no_item_begins t.Minus e = refl
no_item_begins t.Not e = refl
no_item_begins t.If e = refl
no_item_begins sign e = false_true e

-- An expression is read as an item, an argument or a weight where one of these is wanted.
pub item_value : (e : Exp) (most d d' : ℕ) (ts rest : Lexemes) → DerivesExp most d' ts e rest → (k : Trace → Goal) → outcome most (an_item d k) ts ≡ outcome most (an_exp d 0 (λ e'. k (s.value e'))) ts
item_value e most d d' ts rest x k =
    let b = exp_begins e most d' ts rest x in
    ap (outcome most (an_item d k)) b.is
    ∙ ap (λ a. onward most a (length b.rest) (λ goal. outcome most goal b.rest)) (at_item b.sign b.text b.at d k b.begins)
    ∙ sym (ap (outcome most (an_exp d 0 (λ e'. k (s.value e')))) b.is)

at_argument : (sign : Sign) (w : List ℕ) (p : Span) (d : ℕ) (k : Argument → Goal) → begins_exp sign ≡ true → begin_argument d k sign w p ≡ begin_exp d 0 (λ e. k (s.value_argument e)) sign w p
at_argument t.OpenBrace w p d k e = false_true e
at_argument sign w p d k e = refl

pub argument_value : (e : Exp) (most d d' : ℕ) (ts rest : Lexemes) → DerivesExp most d' ts e rest → (k : Argument → Goal) → outcome most (an_argument d k) ts ≡ outcome most (an_exp d 0 (λ e'. k (s.value_argument e'))) ts
argument_value e most d d' ts rest x k =
    let b = exp_begins e most d' ts rest x in
    ap (outcome most (an_argument d k)) b.is
    ∙ ap (λ a. onward most a (length b.rest) (λ goal. outcome most goal b.rest)) (at_argument b.sign b.text b.at d k b.begins)
    ∙ sym (ap (outcome most (an_exp d 0 (λ e'. k (s.value_argument e')))) b.is)

at_arguments : (sign : Sign) (w : List ℕ) (p : Span) (us : Lexemes) (most d : ℕ) (k : Arguments → Goal) → begins_exp sign ≡ true
    → outcome most (some_arguments d k) (lexeme sign w p ∷ us) ≡ outcome most (an_argument d (λ a. more_arguments d (λ more. k (s.argument a more)))) (lexeme sign w p ∷ us)
at_arguments t.Close w p us most d k e = false_true e
at_arguments sign w p us most d k e = refl

pub arguments_first : (a : Argument) (most d d' : ℕ) (ts rest : Lexemes) → DerivesArgument most d' ts a rest → (k : Arguments → Goal)
    → outcome most (some_arguments d k) ts ≡ outcome most (an_argument d (λ a'. more_arguments d (λ more. k (s.argument a' more)))) ts
arguments_first (s.value_argument e) most d d' ts rest x k =
    let b = exp_begins e most d' ts rest x in
    ap (outcome most (some_arguments d k)) b.is ∙ at_arguments b.sign b.text b.at b.rest most d k b.begins ∙ sym (ap (outcome most (an_argument d (λ a'. more_arguments d (λ more. k (s.argument a' more))))) b.is)
arguments_first (s.trace_argument y at) most d d' ts rest x k =
    ap (outcome most (some_arguments d k)) x.3 ∙ sym (ap (outcome most (an_argument d (λ a'. more_arguments d (λ more. k (s.argument a' more))))) x.3)

at_alternative : (sign : Sign) (w : List ℕ) (p : Span) (us : Lexemes) (most d : ℕ) (k : Alternative → Goal) (c : Bool) → begins_item sign ≡ c → c ≡ false
    → outcome most (an_alternative d k) (lexeme sign w p ∷ us) ≡ outcome most (an_exp d 0 (λ e. after_weight d e k)) (lexeme sign w p ∷ us)
at_alternative sign w p us most d k c e q = ap (λ c'. onward most (begin_alternative c' d k sign w p) (length us) (λ goal. outcome most goal us)) (e ∙ q)

pub alternative_value : (e : Exp) (most d d' : ℕ) (ts rest : Lexemes) → DerivesExp most d' ts e rest → (k : Alternative → Goal) → outcome most (an_alternative d k) ts ≡ outcome most (an_exp d 0 (λ e'. after_weight d e' k)) ts
alternative_value e most d d' ts rest x k =
    let b = exp_begins e most d' ts rest x in
    ap (outcome most (an_alternative d k)) b.is ∙ at_alternative b.sign b.text b.at b.rest most d k false (no_item_begins b.sign b.begins) refl ∙ sym (ap (outcome most (an_exp d 0 (λ e'. after_weight d e' k))) b.is)

-- A sum doesn't begin with `not`.
pub no_not : (f : Exp) (most d : ℕ) (w : List ℕ) (p : Span) (us rest : Lexemes) → Stands 6 f → DerivesExp most d (lexeme t.Not w p ∷ us) f rest → ⊥
no_not (s.number f) most d w p us rest st x = cc (same_first t.Not t.Number w f.text p f.span us rest x.1)
no_not (s.flag true at) most d w p us rest st x = cc (same_first t.Not t.True w x.0 p at us rest x.1)
no_not (s.flag false at) most d w p us rest st x = cc (same_first t.Not t.False w x.0 p at us rest x.1)
no_not (s.named n) most d w p us rest st x = cc (same_first t.Not t.Name w n.text p n.span us rest x.0)
no_not (s.called n args) most d w p us rest st x = cc (same_first t.Not t.Name w n.text p n.span us (lexeme t.Open x.0 x.1 ∷ x.2) x.3)
no_not (s.pre n at) most d w p us rest st x = cc (same_first t.Not t.Pre w x.0 p x.1 us (lexeme t.Name n.text n.span ∷ rest) x.2)
no_not (s.paren e at) most d w p us rest st x = cc (same_first t.Not t.Open w x.0 p x.1 us x.2 x.3)
no_not (s.unary u.Neg e at) most d w p us rest st x = cc (same_first t.Not t.Minus w x.0 p x.1 us x.2 x.3)
no_not (s.unary u.Not e at) most d w p us rest st x = omega (arith, st)
no_not (s.binary op e f at) most d w p us rest st x = no_not e most d w p us (lexeme (binary_sign op) x.3 x.4 ∷ x.5) (let le : 6 ≤ left_least op = omega (arith, st, left_rank op) in looser e 6 (left_least op) le x.0) x.6
no_not (s.choose e f g at) most d w p us rest st x = omega (arith, st)

side_six : (sign : Sign) (w : List ℕ) (p : Span) (us : Lexemes) (most d : ℕ) (k : Exp → Goal) → (sign ≡ t.Not → ⊥) → outcome most (a_right_side d k) (lexeme sign w p ∷ us) ≡ outcome most (an_exp d 6 k) (lexeme sign w p ∷ us)
side_six t.Not w p us most d k h = absurd (h refl)
side_six sign w p us most d k h = refl

side_sum : (f : Exp) (most d d' : ℕ) (m rest : Lexemes) → Stands 6 f → DerivesExp most d' m f rest → (k : Exp → Goal) → outcome most (a_right_side d k) m ≡ outcome most (an_exp d 6 k) m
side_sum f most d d' m rest st x k =
    let b = exp_begins f most d' m rest x in
    let other : b.sign ≡ t.Not → ⊥ = λ e. no_not f most d' b.text b.at b.rest rest st (subst (λ ts. DerivesExp most d' ts f rest) (b.is ∙ ap (λ sign. lexeme sign b.text b.at ∷ b.rest) e) x) in
    ap (outcome most (a_right_side d k)) b.is ∙ side_six b.sign b.text b.at b.rest most d k other ∙ sym (ap (outcome most (an_exp d 6 k)) b.is)

pub side_first : (f : Exp) (most d d' : ℕ) (m rest : Lexemes) → Stands (side_least f) f → DerivesExp most d' m f rest → (k : Exp → Goal) → outcome most (a_right_side d k) m ≡ outcome most (an_exp d (side_least f) k) m
side_first (s.unary u.Not e at) most d d' m rest st x k = ap (outcome most (a_right_side d k)) x.3 ∙ sym (ap (outcome most (an_exp d 4 k)) x.3)
side_first (s.unary u.Neg e at) most d d' m rest st x k = side_sum (s.unary u.Neg e at) most d d' m rest st x k
side_first f most d d' m rest st x k = side_sum f most d d' m rest st x k

-- An argument is followed by no operator.
pub arguments_closed : (more : Arguments) (most d : ℕ) (ts rest : Lexemes) → DerivesMoreArguments most d ts more rest → IsNoOperator ts
arguments_closed s.no_arguments most d ts rest x = subst IsNoOperator (sym x.2) (closed t.Close x.0 x.1 rest refl)
arguments_closed (s.argument a more) most d ts rest x = subst IsNoOperator (sym x.3) (closed t.Comma x.0 x.1 x.2 refl)

pub expressions_closed : (more : List Exp) (most d : ℕ) (ts rest : Lexemes) → DerivesMoreExpressions most d ts more rest → IsNoOperator ts
expressions_closed [] most d ts rest x = subst IsNoOperator (sym x.2) (closed t.Close x.0 x.1 rest refl)
expressions_closed (e ∷ es) most d ts rest x = subst IsNoOperator (sym x.3) (closed t.Comma x.0 x.1 x.2 refl)

-- Groups and alternatives are followed by no operator, and an alternative by no colon.
pub alternatives_uncolon : (more : Alternatives) (most d : ℕ) (ts rest : Lexemes) (q : Span) → DerivesMoreAlternatives most d ts more q rest → IsNotFirst t.Colon ts
alternatives_uncolon s.no_alternatives most d ts rest q x = subst (IsNotFirst t.Colon) (sym x.1) (differs t.CloseBrace t.Colon x.0 q rest (λ e. cc))
alternatives_uncolon (s.alternative p more) most d ts rest q x = subst (IsNotFirst t.Colon) (sym x.3) (differs t.Bar t.Colon x.0 x.1 x.2 (λ e. cc))

-- Where no colon comes, an expression is no weight.
pub no_weight : (most d : ℕ) (e : Exp) (k : Alternative → Goal) (ts : Lexemes) → IsNotFirst t.Colon ts → outcome most (after_weight d e k) ts ≡ outcome most (more_items d (λ xs. k (s.unweighted (sequence_of (s.value e) xs)))) ts
no_weight most d e k [] h = refl
no_weight most d e k (lexeme t.Colon w at ∷ us) h = absurd (h w at us refl)
no_weight most d e k (lexeme sign w at ∷ us) h = refl

-- the signs that begin a trace
abbrev begins_trace : Sign → Bool
begins_trace t.OpenBrace = true
begins_trace t.Loop = true
begins_trace t.Raise = true
begins_trace t.Assert = true
begins_trace t.Exist = true
begins_trace t.Let = true
begins_trace t.Exception = true
begins_trace t.Catch = true
begins_trace t.Trap = true
begins_trace t.Try = true
begins_trace sign = begins_exp sign

exp_trace : (sign : Sign) → begins_exp sign ≡ true → begins_trace sign ≡ true
exp_trace t.OpenBrace e = refl
exp_trace t.Loop e = refl
exp_trace t.Raise e = refl
exp_trace t.Assert e = refl
exp_trace t.Exist e = refl
exp_trace t.Let e = refl
exp_trace t.Exception e = refl
exp_trace t.Catch e = refl
exp_trace t.Trap e = refl
exp_trace t.Try e = refl
exp_trace sign e = e

record BeginsTrace (ts : Lexemes) : Type 0 where
  sign : Sign
  text : List ℕ
  at : Span
  rest : Lexemes
  is : ts ≡ lexeme sign text at ∷ rest
  begins : begins_trace sign ≡ true

mutual
  trace_begins : (x : Trace) (place : Place) (most d : ℕ) (ts rest : Lexemes) → DerivesTrace most d place ts x rest → BeginsTrace ts
  trace_begins (s.sequence xs) place most d ts rest x = row_begins xs most d ts rest x.1
  trace_begins (s.braces y at) place most d ts rest x = record { sign = t.OpenBrace; text = x.0; at = x.1; rest = x.2; is = x.3; begins = refl }
  trace_begins (s.loop l y) place most d ts rest x = record { sign = t.Loop; text = x.0; at = x.1; rest = x.2; is = x.3; begins = refl }
  trace_begins (s.raise n) place most d ts rest x = record { sign = t.Raise; text = x.0; at = x.1; rest = lexeme t.Name n.text n.span ∷ rest; is = x.2; begins = refl }
  trace_begins (s.assert e y) place most d ts rest x = record { sign = t.Assert; text = x.0; at = x.1; rest = x.2; is = x.3; begins = refl }
  trace_begins (s.exist gs y) place most d ts rest x = record { sign = t.Exist; text = x.0; at = x.1; rest = x.2; is = x.3; begins = refl }
  trace_begins (s.define z y) place most d ts rest x = record { sign = t.Let; text = x.0; at = x.1; rest = x.2; is = x.3; begins = refl }
  trace_begins (s.exceptions ns y) place most d ts rest x = record { sign = t.Exception; text = x.0; at = x.1; rest = x.2; is = x.3; begins = refl }
  trace_begins (s.catch n y h) place most d ts rest x = record { sign = t.Catch; text = x.0; at = x.1; rest = lexeme t.Name n.text n.span ∷ (lexeme t.In x.2 x.3 ∷ x.4); is = x.5; begins = refl }
  trace_begins (s.trap n y h) place most d ts rest x = record { sign = t.Trap; text = x.0; at = x.1; rest = lexeme t.Name n.text n.span ∷ (lexeme t.In x.2 x.3 ∷ x.4); is = x.5; begins = refl }
  trace_begins (s.try y h) place most d ts rest x = record { sign = t.Try; text = x.0; at = x.1; rest = x.2; is = x.3; begins = refl }
  trace_begins (s.value e) place most d ts rest x =
      let b = exp_begins e most d ts rest x.0 in record { sign = b.sign; text = b.text; at = b.at; rest = b.rest; is = b.is; begins = exp_trace b.sign b.begins }

  row_begins : (xs : Traces) (most d : ℕ) (ts rest : Lexemes) → DerivesSequence most d ts xs rest → BeginsTrace ts
  row_begins s.no_traces most d ts rest x = absurd x
  row_begins (s.one_trace y ys) most d ts rest x = trace_begins y item most d ts x.0 x.1

at_braced : (sign : Sign) (w : List ℕ) (p : Span) (us : Lexemes) (most d : ℕ) (k : Braces → Span → Goal) → begins_trace sign ≡ true
    → outcome most (some_braced d k) (lexeme sign w p ∷ us) ≡ outcome most (a_trace d (λ x. after_first d x k)) (lexeme sign w p ∷ us)
at_braced t.Bar w p us most d k e = false_true e
at_braced t.Priority w p us most d k e = false_true e
at_braced t.Parallel w p us most d k e = false_true e
at_braced sign w p us most d k e = refl

-- What stands in braces begins as its first trace does.
pub braced_first : (x : Trace) (place : Place) (most d d' : ℕ) (ts rest : Lexemes) → DerivesTrace most d' place ts x rest → (k : Braces → Span → Goal)
    → outcome most (some_braced d k) ts ≡ outcome most (a_trace d (λ y. after_first d y k)) ts
braced_first x place most d d' ts rest dx k =
    let b = trace_begins x place most d' ts rest dx in
    ap (outcome most (some_braced d k)) b.is ∙ at_braced b.sign b.text b.at b.rest most d k b.begins ∙ sym (ap (outcome most (a_trace d (λ y. after_first d y k))) b.is)

at_runs : (sign : Sign) (w : List ℕ) (p : Span) (us : Lexemes) (most d : ℕ) (k : List Run → Trace → Goal) → begins_trace sign ≡ true
    → outcome most (some_runs d k) (lexeme sign w p ∷ us) ≡ outcome most (a_trace d (k [])) (lexeme sign w p ∷ us)
at_runs t.Run w p us most d k e = false_true e
at_runs sign w p us most d k e = refl

-- Where no run comes, a trace does.
pub runs_first : (x : Trace) (place : Place) (most d d' : ℕ) (ts rest : Lexemes) → DerivesTrace most d' place ts x rest → (k : List Run → Trace → Goal)
    → outcome most (some_runs d k) ts ≡ outcome most (a_trace d (k [])) ts
runs_first x place most d d' ts rest dx k =
    let b = trace_begins x place most d' ts rest dx in
    ap (outcome most (some_runs d k)) b.is ∙ at_runs b.sign b.text b.at b.rest most d k b.begins ∙ sym (ap (outcome most (a_trace d (k []))) b.is)

at_expressions : (sign : Sign) (w : List ℕ) (p : Span) (us : Lexemes) (most d : ℕ) (k : List Exp → Goal) → begins_exp sign ≡ true
    → outcome most (some_expressions d k) (lexeme sign w p ∷ us) ≡ outcome most (an_exp d 0 (λ e. more_expressions d (λ es. k (e ∷ es)))) (lexeme sign w p ∷ us)
at_expressions t.Close w p us most d k e = false_true e
at_expressions sign w p us most d k e = refl

-- Expressions begin as the first of them does.
pub expressions_first : (e : Exp) (most d d' : ℕ) (ts rest : Lexemes) → DerivesExp most d' ts e rest → (k : List Exp → Goal)
    → outcome most (some_expressions d k) ts ≡ outcome most (an_exp d 0 (λ e'. more_expressions d (λ es. k (e' ∷ es)))) ts
expressions_first e most d d' ts rest x k =
    let b = exp_begins e most d' ts rest x in
    ap (outcome most (some_expressions d k)) b.is ∙ at_expressions b.sign b.text b.at b.rest most d k b.begins ∙ sym (ap (outcome most (an_exp d 0 (λ e'. more_expressions d (λ es. k (e' ∷ es))))) b.is)

-- A sign that begins no expression begins an alternative without a weight.
at_unweighted : (sign : Sign) (w : List ℕ) (p : Span) (us : Lexemes) (most d : ℕ) (k : Alternative → Goal) → begins_item sign ≡ true
    → outcome most (an_alternative d k) (lexeme sign w p ∷ us) ≡ outcome most (a_trace d (λ x. k (s.unweighted x))) (lexeme sign w p ∷ us)
at_unweighted sign w p us most d k e = ap (λ c. onward most (begin_alternative c d k sign w p) (length us) (λ goal. outcome most goal us)) e

pub unweighted_by : (sign : Sign) (w : List ℕ) (p : Span) (us ts : Lexemes) (most d : ℕ) → ts ≡ lexeme sign w p ∷ us → begins_item sign ≡ true → (k : Alternative → Goal)
    → outcome most (an_alternative d k) ts ≡ outcome most (a_trace d (λ x. k (s.unweighted x))) ts
unweighted_by sign w p us ts most d e q k = ap (outcome most (an_alternative d k)) e ∙ at_unweighted sign w p us most d k q ∙ sym (ap (outcome most (a_trace d (λ x. k (s.unweighted x)))) e)

-- Every want can be met: tokens that end it.
use Rattle.std.proofs.Common.{◌≡◌, ℕ, suc, ◌≤◌, ◌<◌, List, [], ◌∷◌, refl, sym, ◌∙◌, ap, Bool, true, false, if◌then◌else◌, nat_le, nat_lt, Option, Some, None, arith}
use Rattle.lt_ast.specs.declared.sign.Sign.{Sign}
use Rattle.lt_ast.specs.declared.sign.Sign.TheVariants as t
use Rattle.lt_ast.specs.contracts.sign.Sign.{the_type}
use denote.Enum.Bare.{sameb}
use Rattle.lt_ast.specs.declared.span.Span.{Span}
use Rattle.lt_ast.specs.declared.group.TypeName.{TypeName}
use Rattle.lt_ast.specs.declared.group.TypeName.TheVariants as ty
use Rattle.lt_ast.specs.declared.expr.UnOp.TheVariants as u
use Rattle.lt_ast.specs.declared.expr.BinOp.{BinOp}
use Rattle.lt_ast.specs.declared.expr.BinOp.TheVariants as b
use Rattle.lt_ast.specs.Syntax as s
use Rattle.lt_ast.specs.Syntax.{Word, Figure, WrittenRange, Exp, Argument, Arguments, Limits, Braces, Alternative, Alternatives, Trace, Traces, Grouping, Groupings, MaybeExp, MaybeTrace, Parameters, Meaning, Macro, Run, Declaration}
use Rattle.lt_grammar.specs.Lexemes.{Lexemes, lexeme, IsNotFirst}
use Rattle.lt_grammar.specs.Precedence.{rank, operator}
use Rattle.lt_ast.specs.Places.{across, span_of}
use Rattle.lt_parser.proofs.Skips.{Heads}
use Rattle.lt_parser.proofs.Begins.{same_first, none_some, closed}
use Rattle.lt_parser.proofs.Sound.{Accepts, not_first_by}
use Rattle.lt_parser.specs.inner.Reading.{Goal, Move, stuck, next, opens, step, extend, operand, allowed, top, nothing_more, a_sign, a_name, an_exp, more_exp, a_right_side, after_name, some_arguments, more_arguments, an_argument, an_item, more_items, a_handler, some_limits, a_bound, some_braced, after_first, an_alternative, after_weight, more_alternatives, more_traces, some_groups, more_groups, more_names, a_type, a_ref, a_range, a_step, a_figure, a_digits, a_list, a_first, some_parameters, some_expressions, more_expressions, some_runs, declarations, a_trace, after_group_name, groups, a_meaning, a_macro, sequence_of, begin_exp, begin_item, begin_argument, begin_alternative, begins_item, right_side_low, unary_goal, if_goal}

abbrev pub here : Span
here = record { start = 0; end = 0 }

abbrev pub some_word : Word
some_word = record { text = []; span = record { start = 0; end = 0 } }

abbrev pub some_figure : Figure
some_figure = record { minus = false; text = []; span = record { start = 0; end = 0 } }

-- the sign that the shortest tokens for a want begin with, if any
abbrev pub head : Goal → Option Sign
head (nothing_more x) = None
head (a_sign wanted k) = Some wanted
head (a_name k) = Some t.Name
head (an_exp d low k) = Some t.Number
head (more_exp d low x k) = head (k x)
head (a_right_side d k) = Some t.Number
head (after_name d n k) = head (k (s.named n))
head (some_arguments d k) = Some t.Close
head (more_arguments d k) = Some t.Close
head (an_argument d k) = Some t.Number
head (an_item d k) = Some t.Number
head (more_items d k) = head (k s.no_traces)
head (a_handler d k) = head (k s.no_trace)
head (some_limits d k) = head (k s.forever)
head (a_bound d k) = Some t.Number
head (some_braced d k) = Some t.Number
head (after_first d x k) = Some t.CloseBrace
head (an_alternative d k) = Some t.Number
head (after_weight d e k) = head (k (s.unweighted (s.value e)))
head (more_alternatives d k) = Some t.CloseBrace
head (more_traces d sign k) = Some t.CloseBrace
head (some_groups d k) = Some t.Close
head (more_groups d end k) = Some end
head (more_names k) = head (k [])
head (a_type k) = Some t.Bool
head (a_ref k) = head (k false)
head (a_range k) = head (k None)
head (a_step k) = head (k None)
head (a_figure k) = Some t.Number
head (a_digits p k) = Some t.Number
head (a_list d k) = Some t.Open
head (a_first d k) = head (k s.no_exp)
head (some_parameters d k) = head (k s.no_parameters)
head (some_expressions d k) = Some t.Close
head (more_expressions d k) = Some t.Close
head (some_runs d k) = Some t.Number
head (declarations k) = head (k [])

-- what may come after an expression, after a trace, after a group, and after names
abbrev pub after_exp : Option Sign → Bool
after_exp None = true
after_exp (Some t.In) = true
after_exp (Some t.CloseBrace) = true
after_exp (Some t.Close) = true
after_exp (Some t.Then) = true
after_exp (Some t.Else) = true
after_exp (Some t.CloseBracket) = true
after_exp (Some t.Comma) = true
after_exp (Some t.Colon) = true
after_exp (Some sign) = false

abbrev pub after_trace : Option Sign → Bool
after_trace None = true
after_trace (Some t.In) = true
after_trace (Some t.CloseBrace) = true
after_trace (Some sign) = false

abbrev pub after_group : Option Sign → Bool
after_group (Some t.In) = true
after_group (Some t.Close) = true
after_group sign = false

abbrev pub after_names : Option Sign → Bool
after_names None = true
after_names (Some t.In) = true
after_names (Some t.Colon) = true
after_names (Some t.Assign) = true
after_names sign = false

abbrev pub is_colon : Option Sign → Bool
is_colon (Some t.Colon) = true
is_colon sign = false

abbrev pub is_number : Option Sign → Bool
is_number (Some t.Number) = true
is_number sign = false

-- After each want comes what may come there.
abbrev pub Tidy : Goal → Type 0
Tidy (nothing_more x) = Unit {0}
Tidy (a_sign wanted k) = (p : Span) → Tidy (k p)
Tidy (a_name k) = (n : Word) → Tidy (k n)
Tidy (an_exp d low k) = (e : Exp) → Tidy (k e) × (after_exp (head (k e)) ≡ true)
Tidy (more_exp d low x k) = (e : Exp) → Tidy (k e) × (after_exp (head (k e)) ≡ true)
Tidy (a_right_side d k) = (e : Exp) → Tidy (k e) × (after_exp (head (k e)) ≡ true)
Tidy (after_name d n k) = (e : Exp) → Tidy (k e) × (after_exp (head (k e)) ≡ true)
Tidy (some_arguments d k) = (x : Arguments) → Tidy (k x)
Tidy (more_arguments d k) = (x : Arguments) → Tidy (k x)
Tidy (an_argument d k) = (x : Argument) → Tidy (k x) × (after_exp (head (k x)) ≡ true)
Tidy (an_item d k) = (x : Trace) → Tidy (k x) × (after_trace (head (k x)) ≡ true)
Tidy (more_items d k) = (x : Traces) → Tidy (k x) × (after_trace (head (k x)) ≡ true)
Tidy (a_handler d k) = (x : MaybeTrace) → Tidy (k x) × (after_trace (head (k x)) ≡ true)
Tidy (some_limits d k) = (x : Limits) → Tidy (k x) × (is_number (head (k x)) ≡ true)
Tidy (a_bound d k) = (e : Exp) → Tidy (k e)
Tidy (some_braced d k) = (x : Braces) (q : Span) → Tidy (k x q)
Tidy (after_first d y k) = (x : Braces) (q : Span) → Tidy (k x q)
Tidy (an_alternative d k) = (x : Alternative) → Tidy (k x) × (head (k x) ≡ Some t.CloseBrace)
Tidy (after_weight d e k) = (x : Alternative) → Tidy (k x) × (head (k x) ≡ Some t.CloseBrace)
Tidy (more_alternatives d k) = (x : Alternatives) (q : Span) → Tidy (k x q)
Tidy (more_traces d sign k) = (x : Traces) (q : Span) → Tidy (k x q)
Tidy (some_groups d k) = (x : Groupings) → Tidy (k x)
Tidy (more_groups d end k) = (after_group (Some end) ≡ true) × ((x : Groupings) → Tidy (k x))
Tidy (more_names k) = (x : List Word) → Tidy (k x) × (after_names (head (k x)) ≡ true)
Tidy (a_type k) = (x : TypeName) → Tidy (k x)
Tidy (a_ref k) = (x : Bool) → Tidy (k x) × (after_group (head (k x)) ≡ true)
Tidy (a_range k) = (x : Option WrittenRange) → Tidy (k x) × (after_group (head (k x)) ≡ true)
Tidy (a_step k) = (x : Option Figure) → Tidy (k x) × (head (k x) ≡ Some t.CloseBracket)
Tidy (a_figure k) = (x : Figure) → Tidy (k x)
Tidy (a_digits p k) = (x : Figure) → Tidy (k x)
Tidy (a_list d k) = (d ≡ 0) × ((x : Groupings) → Tidy (k x))
Tidy (a_first d k) = (x : MaybeExp) → Tidy (k x) × (after_group (head (k x)) ≡ true)
Tidy (some_parameters d k) = (x : Parameters) → Tidy (k x) × (is_colon (head (k x)) ≡ true)
Tidy (some_expressions d k) = (x : List Exp) → Tidy (k x)
Tidy (more_expressions d k) = (x : List Exp) → Tidy (k x)
Tidy (some_runs d k) = (x : List Run) (y : Trace) → Tidy (k x y) × (after_trace (head (k x y)) ≡ true)
Tidy (declarations k) = (x : List Declaration) → Tidy (k x) × (head (k x) ≡ None)

abbrev pub TidyMove : Move → Type 0
TidyMove stuck = Unit {0}
TidyMove (next goal) = Tidy goal
TidyMove (opens d goal) = Tidy goal

false_is_true : {A : Type 0} → false ≡ true → A
false_is_true e = cc

trace_exp : (h : Option Sign) → after_trace h ≡ true → after_exp h ≡ true
trace_exp None e = refl
trace_exp (Some t.In) e = refl
trace_exp (Some t.CloseBrace) e = refl
trace_exp (Some sign) e = false_is_true e

group_exp : (h : Option Sign) → after_group h ≡ true → after_exp h ≡ true
group_exp (Some t.In) e = refl
group_exp (Some t.Close) e = refl
group_exp None e = false_is_true e
group_exp (Some sign) e = false_is_true e

-- ONE TOKEN KEEPS IT

tidy_allowed : (b' : Bool) (a : Move) → TidyMove a → TidyMove (allowed b' a)
tidy_allowed true a h = h
tidy_allowed false a h = tt

tidy_if : (b' : Bool) (x y : Move) → TidyMove x → TidyMove y → TidyMove (if b' then x else y)
tidy_if true x y h g = h
tidy_if false x y h g = g

tidy_trace : (d : ℕ) (k : Trace → Goal) → ((x : Trace) → Tidy (k x) × (after_trace (head (k x)) ≡ true)) → Tidy (a_trace d k)
tidy_trace d k h = λ x. ((λ xs. h (sequence_of x xs)), (h (sequence_of x s.no_traces)).1)

tidy_group_name : (d : ℕ) (k : Grouping → Goal) → ((g : Grouping) → Tidy (k g) × (after_group (head (k g)) ≡ true)) → (n : Word) → Tidy (after_group_name d k n)
tidy_group_name d k h n = λ ns. ((λ p ki r. ((λ i. ((λ f. h (s.grouping (n ∷ ns) ki r i f)), (h (s.grouping (n ∷ ns) ki r i s.no_exp)).1)), (h (s.grouping (n ∷ ns) ki r None s.no_exp)).1)), refl)

tidy_groups : (d : ℕ) (end : Sign) (k : Groupings → Goal) → after_group (Some end) ≡ true → ((gs : Groupings) → Tidy (k gs)) → Tidy (groups d end k)
tidy_groups d end k e h = tidy_group_name d (λ g. more_groups d end (λ gs. k (s.one_group g gs))) (λ g. ((e, (λ gs. h (s.one_group g gs))), e))

tidy_meaning : (kind : TypeName) (d : ℕ) (k : Meaning → Goal) → ((y : Meaning) → Tidy (k y) × (after_trace (head (k y)) ≡ true)) → Tidy (a_meaning d kind k)
tidy_meaning ty.Trace d k h = tidy_trace d (λ x. k (s.trace_meaning x)) (λ x. h (s.trace_meaning x))
tidy_meaning ty.Bool d k h = λ e. ((h (s.value_meaning e)).0, trace_exp (head (k (s.value_meaning e))) (h (s.value_meaning e)).1)
tidy_meaning ty.Int d k h = λ e. ((h (s.value_meaning e)).0, trace_exp (head (k (s.value_meaning e))) (h (s.value_meaning e)).1)
tidy_meaning ty.Real d k h = λ e. ((h (s.value_meaning e)).0, trace_exp (head (k (s.value_meaning e))) (h (s.value_meaning e)).1)

tidy_macro : (d : ℕ) (k : Macro → Goal) → ((y : Macro) → Tidy (k y) × (after_trace (head (k y)) ≡ true)) → Tidy (a_macro d k)
tidy_macro d k h = λ n ps. ((λ p ki q. tidy_meaning ki d (λ x. k (s.macro n ps ki x)) (λ x. h (s.macro n ps ki x))), refl)

tidy_exp : (d low : ℕ) (k : Exp → Goal) → ((e : Exp) → Tidy (k e) × (after_exp (head (k e)) ≡ true)) → (sign : Sign) (w : List ℕ) (at : Span) → TidyMove (begin_exp d low k sign w at)
tidy_exp d low k h t.Number w at = h
tidy_exp d low k h t.True w at = h
tidy_exp d low k h t.False w at = h
tidy_exp d low k h t.Name w at = λ e. (h, (h e).1)
tidy_exp d low k h t.Pre w at = λ n. h
tidy_exp d low k h t.Open w at = λ e. ((λ q. h), refl)
tidy_exp d low k h t.Minus w at = tidy_allowed (nat_le low 8) (opens (suc d) (unary_goal (suc d) u.Neg at (λ e. more_exp d low e k))) (λ e. (h, (h (s.unary u.Neg e (across at (span_of e)))).1))
tidy_exp d low k h t.Not w at = tidy_allowed (nat_le low 4) (opens (suc d) (unary_goal (suc d) u.Not at (λ e. more_exp d low e k))) (λ e. (h, (h (s.unary u.Not e (across at (span_of e)))).1))
tidy_exp d low k h t.If w at =
    tidy_allowed (nat_le low 0) (opens (suc d) (if_goal (suc d) at (λ e. more_exp d low e k))) (λ e. ((λ p f. ((λ q g. (h, (h (s.choose e f g (across at (span_of g)))).1)), refl)), refl))
tidy_exp d low k h sign w at = tt

tidy_item : (d : ℕ) (k : Trace → Goal) → ((x : Trace) → Tidy (k x) × (after_trace (head (k x)) ≡ true)) → (sign : Sign) (w : List ℕ) (at : Span) → TidyMove (begin_item d k sign w at)
tidy_item d k h t.OpenBrace w at = λ x q. (h (s.braces x (across at q))).0
tidy_item d k h t.Loop w at = λ l. ((λ x. h (s.loop l x)), refl)
tidy_item d k h t.Raise w at = λ n. (h (s.raise n)).0
tidy_item d k h t.Assert w at = λ e. ((λ p. tidy_trace (suc d) (λ x. k (s.assert e x)) (λ x. h (s.assert e x))), refl)
tidy_item d k h t.Exist w at = tidy_groups (suc d) t.In (λ gs. a_trace (suc d) (λ x. k (s.exist gs x))) refl (λ gs. tidy_trace (suc d) (λ x. k (s.exist gs x)) (λ x. h (s.exist gs x)))
tidy_item d k h t.Let w at = tidy_macro (suc d) (λ m. a_sign t.In (λ p. a_trace (suc d) (λ x. k (s.define m x)))) (λ m. ((λ p. tidy_trace (suc d) (λ x. k (s.define m x)) (λ x. h (s.define m x))), refl))
tidy_item d k h t.Exception w at = λ n ns. ((λ p. tidy_trace (suc d) (λ x. k (s.exceptions (n ∷ ns) x)) (λ x. h (s.exceptions (n ∷ ns) x))), refl)
tidy_item d k h t.Catch w at = λ n p. tidy_trace (suc d) (λ x. a_handler (suc d) (λ z. k (s.catch n x z))) (λ x. ((λ z. h (s.catch n x z)), (h (s.catch n x s.no_trace)).1))
tidy_item d k h t.Trap w at = λ n p. tidy_trace (suc d) (λ x. a_handler (suc d) (λ z. k (s.trap n x z))) (λ x. ((λ z. h (s.trap n x z)), (h (s.trap n x s.no_trace)).1))
tidy_item d k h t.Try w at = tidy_trace (suc d) (λ x. a_handler (suc d) (λ z. k (s.try x z))) (λ x. ((λ z. h (s.try x z)), (h (s.try x s.no_trace)).1))
tidy_item d k h sign w at = tidy_exp d 0 (λ e. k (s.value e)) (λ e. ((h (s.value e)).0, trace_exp (head (k (s.value e))) (h (s.value e)).1)) sign w at

tidy_argument : (d : ℕ) (k : Argument → Goal) → ((x : Argument) → Tidy (k x) × (after_exp (head (k x)) ≡ true)) → (sign : Sign) (w : List ℕ) (at : Span) → TidyMove (begin_argument d k sign w at)
tidy_argument d k h t.OpenBrace w at = λ x q. (h (s.trace_argument x (across at q))).0
tidy_argument d k h sign w at = tidy_exp d 0 (λ e. k (s.value_argument e)) (λ e. h (s.value_argument e)) sign w at

brace_trace : (h : Option Sign) → h ≡ Some t.CloseBrace → after_trace h ≡ true
brace_trace h e = ap after_trace e

brace_exp : (h : Option Sign) → h ≡ Some t.CloseBrace → after_exp h ≡ true
brace_exp h e = ap after_exp e

none_trace : (h : Option Sign) → h ≡ None → after_trace h ≡ true
none_trace h e = ap after_trace e

none_names : (h : Option Sign) → h ≡ None → after_names h ≡ true
none_names h e = ap after_names e

tidy_alternative : (c : Bool) (d : ℕ) (k : Alternative → Goal) → ((x : Alternative) → Tidy (k x) × (head (k x) ≡ Some t.CloseBrace)) → (sign : Sign) (w : List ℕ) (at : Span) → TidyMove (begin_alternative c d k sign w at)
tidy_alternative true d k h sign w at =
    tidy_item d (λ x. more_items d (λ xs. k (s.unweighted (sequence_of x xs))))
    (λ x. ((λ xs. ((h (s.unweighted (sequence_of x xs))).0, brace_trace (head (k (s.unweighted (sequence_of x xs)))) (h (s.unweighted (sequence_of x xs))).1)), brace_trace (head (k (s.unweighted x))) (h (s.unweighted x)).1)) sign w at
tidy_alternative false d k h sign w at = tidy_exp d 0 (λ e. after_weight d e k) (λ e. (h, brace_exp (head (k (s.unweighted (s.value e)))) (h (s.unweighted (s.value e))).1)) sign w at

tidy_operand : (op : BinOp) (d : ℕ) (k : Exp → Goal) → ((e : Exp) → Tidy (k e) × (after_exp (head (k e)) ≡ true)) → TidyMove (operand d op k)
tidy_operand b.Implies d k h = h
tidy_operand b.Eq d k h = h
tidy_operand b.Ne d k h = h
tidy_operand b.Lt d k h = h
tidy_operand b.Le d k h = h
tidy_operand b.Gt d k h = h
tidy_operand b.Ge d k h = h
tidy_operand op d k h = h

tidy_extend : (o : Option BinOp) (d low : ℕ) (x : Exp) (k : Exp → Goal) (skip : Move) → ((e : Exp) → Tidy (k e) × (after_exp (head (k e)) ≡ true)) → TidyMove skip → TidyMove (extend o d low x k skip)
tidy_extend None d low x k skip h g = g
tidy_extend (Some op) d low x k skip h g =
    tidy_if (nat_lt (rank op) low) skip (if nat_le (rank op) (top x) then operand d op (λ y. more_exp d low (s.binary op x y (across (span_of x) (span_of y))) k) else stuck) g
    (tidy_if (nat_le (rank op) (top x)) (operand d op (λ y. more_exp d low (s.binary op x y (across (span_of x) (span_of y))) k)) stuck
    (tidy_operand op d (λ y. more_exp d low (s.binary op x y (across (span_of x) (span_of y))) k) (λ y. (h, (h (s.binary op x y (across (span_of x) (span_of y)))).1))) tt)

pub tidy_step : (g : Goal) (sign : Sign) (w : List ℕ) (at : Span) → Tidy g → TidyMove (step g sign w at)
tidy_step (nothing_more x) sign w at h = tt
tidy_step (a_sign wanted k) sign w at h = tidy_if (sameb the_type wanted sign) (next (k at)) stuck (h at) tt
tidy_step (a_name k) t.Name w at h = h (record { text = w; span = at })
tidy_step (a_name k) sign w at h = tt
tidy_step (an_exp d low k) sign w at h = tidy_exp d low k h sign w at
tidy_step (more_exp d low x k) sign w at h = tidy_extend (operator sign) d low x k (step (k x) sign w at) h (tidy_step (k x) sign w at (h x).0)
tidy_step (a_right_side d k) sign w at h = tidy_exp d (right_side_low sign) k h sign w at
tidy_step (after_name d n k) t.Open w at h = λ x. (h (s.called n x)).0
tidy_step (after_name d n k) sign w at h = tidy_step (k (s.named n)) sign w at (h (s.named n)).0
tidy_step (some_arguments d k) t.Close w at h = h s.no_arguments
tidy_step (some_arguments d k) sign w at h = tidy_argument d (λ a. more_arguments d (λ more. k (s.argument a more))) (λ a. ((λ more. h (s.argument a more)), refl)) sign w at
tidy_step (more_arguments d k) t.Close w at h = h s.no_arguments
tidy_step (more_arguments d k) t.Comma w at h = λ a. ((λ more. h (s.argument a more)), refl)
tidy_step (more_arguments d k) sign w at h = tt
tidy_step (an_argument d k) sign w at h = tidy_argument d k h sign w at
tidy_step (an_item d k) sign w at h = tidy_item d k h sign w at
tidy_step (more_items d k) t.Fby w at h = λ x. ((λ xs. h (s.one_trace x xs)), (h (s.one_trace x s.no_traces)).1)
tidy_step (more_items d k) sign w at h = tidy_step (k s.no_traces) sign w at (h s.no_traces).0
tidy_step (a_handler d k) t.Do w at h = tidy_trace d (λ x. k (s.a_trace x)) (λ x. h (s.a_trace x))
tidy_step (a_handler d k) sign w at h = tidy_step (k s.no_trace) sign w at (h s.no_trace).0
tidy_step (some_limits d k) t.OpenBracket w at h = λ e. ((λ p f. ((λ q. (h (s.between e f)).0), refl)), refl)
tidy_step (some_limits d k) t.Tilde w at h = λ e p f. (h (s.around e f)).0
tidy_step (some_limits d k) sign w at h = tidy_step (k s.forever) sign w at (h s.forever).0
tidy_step (a_bound d k) t.Number w at h = h (s.number (record { minus = false; text = w; span = at }))
tidy_step (a_bound d k) t.Name w at h = h (s.named (record { text = w; span = at }))
tidy_step (a_bound d k) t.Open w at h = λ e. ((λ q. h (s.paren e (across at q))), refl)
tidy_step (a_bound d k) sign w at h = tt
tidy_step (some_braced d k) t.Bar w at h = λ p. ((λ ps q. h (s.choice true (s.alternative p ps)) q), refl)
tidy_step (some_braced d k) t.Priority w at h = tidy_trace d (λ x. more_traces d t.Priority (λ xs q. k (s.priority true (s.one_trace x xs)) q)) (λ x. ((λ xs q. h (s.priority true (s.one_trace x xs)) q), refl))
tidy_step (some_braced d k) t.Parallel w at h = tidy_trace d (λ x. more_traces d t.Parallel (λ xs q. k (s.parallel true (s.one_trace x xs)) q)) (λ x. ((λ xs q. h (s.parallel true (s.one_trace x xs)) q), refl))
tidy_step (some_braced d k) sign w at h = tidy_item d (λ x. more_items d (λ xs. after_first d (sequence_of x xs) k)) (λ x. ((λ xs. (h, refl)), refl)) sign w at
tidy_step (after_first d x k) t.CloseBrace w at h = h (s.plain x) at
tidy_step (after_first d x k) t.Bar w at h = λ p. ((λ ps q. h (s.choice false (s.alternative (s.unweighted x) (s.alternative p ps))) q), refl)
tidy_step (after_first d x k) t.Priority w at h =
    tidy_trace d (λ y. more_traces d t.Priority (λ ys q. k (s.priority false (s.one_trace x (s.one_trace y ys))) q)) (λ y. ((λ ys q. h (s.priority false (s.one_trace x (s.one_trace y ys))) q), refl))
tidy_step (after_first d x k) t.Parallel w at h =
    tidy_trace d (λ y. more_traces d t.Parallel (λ ys q. k (s.parallel false (s.one_trace x (s.one_trace y ys))) q)) (λ y. ((λ ys q. h (s.parallel false (s.one_trace x (s.one_trace y ys))) q), refl))
tidy_step (after_first d x k) sign w at h = tt
tidy_step (an_alternative d k) sign w at h = tidy_alternative (begins_item sign) d k h sign w at
tidy_step (after_weight d e k) t.Colon w at h = tidy_trace d (λ x. k (s.weighted e x)) (λ x. ((h (s.weighted e x)).0, brace_trace (head (k (s.weighted e x))) (h (s.weighted e x)).1))
tidy_step (after_weight d e k) t.Fby w at h =
    λ x. (
      (λ xs. let g = h (s.unweighted (s.sequence (s.one_trace (s.value e) (s.one_trace x xs)))) in (g.0, brace_trace (head (k (s.unweighted (s.sequence (s.one_trace (s.value e) (s.one_trace x xs)))))) g.1)),
      brace_trace (head (k (s.unweighted (s.sequence (s.one_trace (s.value e) (s.one_trace x s.no_traces)))))) (h (s.unweighted (s.sequence (s.one_trace (s.value e) (s.one_trace x s.no_traces))))).1,
    )
tidy_step (after_weight d e k) sign w at h = tidy_step (k (s.unweighted (s.value e))) sign w at (h (s.unweighted (s.value e))).0
tidy_step (more_alternatives d k) t.CloseBrace w at h = h s.no_alternatives at
tidy_step (more_alternatives d k) t.Bar w at h = λ p. ((λ ps q. h (s.alternative p ps) q), refl)
tidy_step (more_alternatives d k) sign w at h = tt
tidy_step (more_traces d wanted k) t.CloseBrace w at h = h s.no_traces at
tidy_step (more_traces d wanted k) sign w at h =
    tidy_if (sameb the_type wanted sign) (next (a_trace d (λ x. more_traces d wanted (λ xs q. k (s.one_trace x xs) q)))) stuck (tidy_trace d (λ x. more_traces d wanted (λ xs q. k (s.one_trace x xs) q)) (λ x. ((λ xs q. h (s.one_trace x xs) q), refl))) tt
tidy_step (some_groups d k) t.Close w at h = h s.no_groups
tidy_step (some_groups d k) t.Name w at h = tidy_groups d t.Close k refl h (record { text = w; span = at })
tidy_step (some_groups d k) sign w at h = tt
tidy_step (more_groups d end k) t.Semicolon w at h = tidy_groups d end k h.0 h.1
tidy_step (more_groups d end k) sign w at h = tidy_if (sameb the_type end sign) (next (k s.no_groups)) stuck (h.1 s.no_groups) tt
tidy_step (more_names k) t.Comma w at h = λ n ns. h (n ∷ ns)
tidy_step (more_names k) sign w at h = tidy_step (k []) sign w at (h []).0
tidy_step (a_type k) t.Bool w at h = h ty.Bool
tidy_step (a_type k) t.Int w at h = h ty.Int
tidy_step (a_type k) t.Real w at h = h ty.Real
tidy_step (a_type k) t.Trace w at h = h ty.Trace
tidy_step (a_type k) sign w at h = tt
tidy_step (a_ref k) t.Ref w at h = (h true).0
tidy_step (a_ref k) sign w at h = tidy_step (k false) sign w at (h false).0
tidy_step (a_range k) t.OpenBracket w at h = λ low p high stride. ((λ q. (h (Some (record { low = low; high = high; step = stride }))).0), refl)
tidy_step (a_range k) sign w at h = tidy_step (k None) sign w at (h None).0
tidy_step (a_step k) t.Semicolon w at h = λ f. (h (Some f)).0
tidy_step (a_step k) sign w at h = tidy_step (k None) sign w at (h None).0
tidy_step (a_figure k) t.Number w at h = h (record { minus = false; text = w; span = at })
tidy_step (a_figure k) t.Minus w at h = h
tidy_step (a_figure k) sign w at h = tt
tidy_step (a_digits p k) t.Number w at h = h (record { minus = true; text = w; span = across p at })
tidy_step (a_digits p k) sign w at h = tt
tidy_step (a_list d k) t.Open w at h = h.1
tidy_step (a_list d k) sign w at h = tt
tidy_step (a_first d k) t.Equal w at h = λ e. ((h (s.an_exp e)).0, group_exp (head (k (s.an_exp e))) (h (s.an_exp e)).1)
tidy_step (a_first d k) sign w at h = tidy_step (k s.no_exp) sign w at (h s.no_exp).0
tidy_step (some_parameters d k) t.Open w at h = λ gs. (h (s.parameters gs)).0
tidy_step (some_parameters d k) sign w at h = tidy_step (k s.no_parameters) sign w at (h s.no_parameters).0
tidy_step (some_expressions d k) t.Close w at h = h []
tidy_step (some_expressions d k) sign w at h = tidy_exp d 0 (λ e. more_expressions d (λ es. k (e ∷ es))) (λ e. ((λ es. h (e ∷ es)), refl)) sign w at
tidy_step (more_expressions d k) t.Close w at h = h []
tidy_step (more_expressions d k) t.Comma w at h = λ e. ((λ es. h (e ∷ es)), refl)
tidy_step (more_expressions d k) sign w at h = tt
tidy_step (some_runs d k) t.Run w at h =
    λ n ns. ((λ p n' o es q rs x. h (record { names = n ∷ ns; node = n'; arguments = es; span = across at q } ∷ rs) x), refl)
tidy_step (some_runs d k) sign w at h =
    tidy_item d (λ x. more_items d (λ xs. k [] (sequence_of x xs))) (λ x. ((λ xs. h [] (sequence_of x xs)), (h [] x).1)) sign w at
tidy_step (declarations k) t.Node w at h =
    λ n. (
      refl,
      (λ ins p. (
        refl,
        (λ outs q rs x. ((λ xs. h (s.node n ins outs rs x ∷ xs)), none_trace (head (k (s.node n ins outs rs x ∷ []))) (h (s.node n ins outs rs x ∷ [])).1)),
      )),
    )
tidy_step (declarations k) t.Let w at h =
    tidy_macro 0 (λ m. declarations (λ xs. k (s.macro_declaration m ∷ xs))) (λ m. ((λ xs. h (s.macro_declaration m ∷ xs)), none_trace (head (k (s.macro_declaration m ∷ []))) (h (s.macro_declaration m ∷ [])).1))
tidy_step (declarations k) t.Exception w at h =
    λ n ns. ((λ xs. h (s.exception_declaration (n ∷ ns) ∷ xs)), none_names (head (k (s.exception_declaration (n ∷ ns) ∷ []))) (h (s.exception_declaration (n ∷ ns) ∷ [])).1)
tidy_step (declarations k) sign w at h = tidy_step (k []) sign w at (h []).0

-- TOKENS THAT END IT

abbrev pub words : Goal → Lexemes
words (nothing_more x) = []
words (a_sign wanted k) = lexeme wanted [] here ∷ words (k here)
words (a_name k) = lexeme t.Name [] here ∷ words (k some_word)
words (an_exp d low k) = lexeme t.Number [] here ∷ words (k (s.number some_figure))
words (more_exp d low x k) = words (k x)
words (a_right_side d k) = lexeme t.Number [] here ∷ words (k (s.number some_figure))
words (after_name d n k) = words (k (s.named n))
words (some_arguments d k) = lexeme t.Close [] here ∷ words (k s.no_arguments)
words (more_arguments d k) = lexeme t.Close [] here ∷ words (k s.no_arguments)
words (an_argument d k) = lexeme t.Number [] here ∷ words (k (s.value_argument (s.number some_figure)))
words (an_item d k) = lexeme t.Number [] here ∷ words (k (s.value (s.number some_figure)))
words (more_items d k) = words (k s.no_traces)
words (a_handler d k) = words (k s.no_trace)
words (some_limits d k) = words (k s.forever)
words (a_bound d k) = lexeme t.Number [] here ∷ words (k (s.number some_figure))
words (some_braced d k) = lexeme t.Number [] here ∷ (lexeme t.CloseBrace [] here ∷ words (k (s.plain (s.value (s.number some_figure))) here))
words (after_first d y k) = lexeme t.CloseBrace [] here ∷ words (k (s.plain y) here)
words (an_alternative d k) = lexeme t.Number [] here ∷ words (k (s.unweighted (s.value (s.number some_figure))))
words (after_weight d e k) = words (k (s.unweighted (s.value e)))
words (more_alternatives d k) = lexeme t.CloseBrace [] here ∷ words (k s.no_alternatives here)
words (more_traces d sign k) = lexeme t.CloseBrace [] here ∷ words (k s.no_traces here)
words (some_groups d k) = lexeme t.Close [] here ∷ words (k s.no_groups)
words (more_groups d end k) = lexeme end [] here ∷ words (k s.no_groups)
words (more_names k) = words (k [])
words (a_type k) = lexeme t.Bool [] here ∷ words (k ty.Bool)
words (a_ref k) = words (k false)
words (a_range k) = words (k None)
words (a_step k) = words (k None)
words (a_figure k) = lexeme t.Number [] here ∷ words (k some_figure)
words (a_digits p k) = lexeme t.Number [] here ∷ words (k (record { minus = true; text = []; span = across p here }))
words (a_list d k) = lexeme t.Open [] here ∷ (lexeme t.Close [] here ∷ words (k s.no_groups))
words (a_first d k) = words (k s.no_exp)
words (some_parameters d k) = words (k s.no_parameters)
words (some_expressions d k) = lexeme t.Close [] here ∷ words (k [])
words (more_expressions d k) = lexeme t.Close [] here ∷ words (k [])
words (some_runs d k) = lexeme t.Number [] here ∷ words (k [] (s.value (s.number some_figure)))
words (declarations k) = words (k [])

abbrev FirstIs : Option Sign → Lexemes → Type 0
FirstIs None ts = ts ≡ []
FirstIs (Some sign) ts = (w : List ℕ) × (p : Span) × (m : Lexemes) × (ts ≡ lexeme sign w p ∷ m)

first_words : (g : Goal) → FirstIs (head g) (words g)
first_words (nothing_more x) = refl
first_words (a_sign wanted k) = ([], here, words (k here), refl)
first_words (a_name k) = ([], here, words (k some_word), refl)
first_words (an_exp d low k) = ([], here, words (k (s.number some_figure)), refl)
first_words (more_exp d low x k) = first_words (k x)
first_words (a_right_side d k) = ([], here, words (k (s.number some_figure)), refl)
first_words (after_name d n k) = first_words (k (s.named n))
first_words (some_arguments d k) = ([], here, words (k s.no_arguments), refl)
first_words (more_arguments d k) = ([], here, words (k s.no_arguments), refl)
first_words (an_argument d k) = ([], here, words (k (s.value_argument (s.number some_figure))), refl)
first_words (an_item d k) = ([], here, words (k (s.value (s.number some_figure))), refl)
first_words (more_items d k) = first_words (k s.no_traces)
first_words (a_handler d k) = first_words (k s.no_trace)
first_words (some_limits d k) = first_words (k s.forever)
first_words (a_bound d k) = ([], here, words (k (s.number some_figure)), refl)
first_words (some_braced d k) = ([], here, (lexeme t.CloseBrace [] here ∷ words (k (s.plain (s.value (s.number some_figure))) here)), refl)
first_words (after_first d y k) = ([], here, words (k (s.plain y) here), refl)
first_words (an_alternative d k) = ([], here, words (k (s.unweighted (s.value (s.number some_figure)))), refl)
first_words (after_weight d e k) = first_words (k (s.unweighted (s.value e)))
first_words (more_alternatives d k) = ([], here, words (k s.no_alternatives here), refl)
first_words (more_traces d sign k) = ([], here, words (k s.no_traces here), refl)
first_words (some_groups d k) = ([], here, words (k s.no_groups), refl)
first_words (more_groups d end k) = ([], here, words (k s.no_groups), refl)
first_words (more_names k) = first_words (k [])
first_words (a_type k) = ([], here, words (k ty.Bool), refl)
first_words (a_ref k) = first_words (k false)
first_words (a_range k) = first_words (k None)
first_words (a_step k) = first_words (k None)
first_words (a_figure k) = ([], here, words (k some_figure), refl)
first_words (a_digits p k) = ([], here, words (k (record { minus = true; text = []; span = across p here })), refl)
first_words (a_list d k) = ([], here, (lexeme t.Close [] here ∷ words (k s.no_groups)), refl)
first_words (a_first d k) = first_words (k s.no_exp)
first_words (some_parameters d k) = first_words (k s.no_parameters)
first_words (some_expressions d k) = ([], here, words (k []), refl)
first_words (more_expressions d k) = ([], here, words (k []), refl)
first_words (some_runs d k) = ([], here, words (k [] (s.value (s.number some_figure))), refl)
first_words (declarations k) = first_words (k [])

empty_front : (w : List ℕ) (p : Span) (m : Lexemes) (sign : Sign) → ◌≡◌ {A = Lexemes} [] (lexeme sign w p ∷ m) → ⊥
empty_front w p m sign e = cc

not_in : (h : Option Sign) (bad : Sign) (ts : Lexemes) → FirstIs h ts → (h ≡ Some bad → ⊥) → IsNotFirst bad ts
not_in None bad ts f n = λ v q vs e. empty_front v q vs bad (sym f ∙ e)
not_in (Some sign) bad ts f n = λ v q vs e. n (ap Some (same_first sign bad f.0 v f.1 q f.2 vs (sym f.3 ∙ e)))

exp_no_op : (sign : Sign) → after_exp (Some sign) ≡ true → operator sign ≡ None
exp_no_op t.In e = refl
exp_no_op t.CloseBrace e = refl
exp_no_op t.Close e = refl
exp_no_op t.Then e = refl
exp_no_op t.Else e = refl
exp_no_op t.CloseBracket e = refl
exp_no_op t.Comma e = refl
exp_no_op t.Colon e = refl
exp_no_op sign e = false_is_true e

exp_heads : (P : BinOp → Type 0) (h : Option Sign) (ts : Lexemes) → FirstIs h ts → after_exp h ≡ true → Heads P ts
exp_heads P None ts f e = λ op sign w at rest g g'. absurd (empty_front w at rest sign (sym f ∙ g))
exp_heads P (Some s') ts f e = λ op sign w at rest g g'. absurd (none_some (operator s') op (exp_no_op s' e) (ap operator (same_first s' sign f.0 w f.1 at f.2 rest (sym f.3 ∙ g)) ∙ g'))

not_exp : (h : Option Sign) (bad : Sign) → after_exp (Some bad) ≡ false → after_exp h ≡ true → h ≡ Some bad → ⊥
not_exp h bad q e r = false_is_true (sym q ∙ sym (ap after_exp r) ∙ e)

not_trace : (h : Option Sign) (bad : Sign) → after_trace (Some bad) ≡ false → after_trace h ≡ true → h ≡ Some bad → ⊥
not_trace h bad q e r = false_is_true (sym q ∙ sym (ap after_trace r) ∙ e)

not_group : (h : Option Sign) (bad : Sign) → after_group (Some bad) ≡ false → after_group h ≡ true → h ≡ Some bad → ⊥
not_group h bad q e r = false_is_true (sym q ∙ sym (ap after_group r) ∙ e)

not_names : (h : Option Sign) (bad : Sign) → after_names (Some bad) ≡ false → after_names h ≡ true → h ≡ Some bad → ⊥
not_names h bad q e r = false_is_true (sym q ∙ sym (ap after_names r) ∙ e)

not_colon : (h : Option Sign) (bad : Sign) → is_colon (Some bad) ≡ false → is_colon h ≡ true → h ≡ Some bad → ⊥
not_colon h bad q e r = false_is_true (sym q ∙ sym (ap is_colon r) ∙ e)

not_number : (h : Option Sign) (bad : Sign) → is_number (Some bad) ≡ false → is_number h ≡ true → h ≡ Some bad → ⊥
not_number h bad q e r = false_is_true (sym q ∙ sym (ap is_number r) ∙ e)

not_bracket : (h : Option Sign) → h ≡ Some t.CloseBracket → h ≡ Some t.Semicolon → ⊥
not_bracket h e r = cc

pub completes : (g : Goal) (most : ℕ) → 1 ≤ most → Tidy g → Accepts most g (words g)
completes (nothing_more x) most le h = refl
completes (a_sign wanted k) most le h = ([], here, words (k here), refl, completes (k here) most le (h here))
completes (a_name k) most le h = (some_word, words (k some_word), refl, completes (k some_word) most le (h some_word))
completes (an_exp d low k) most le h =
    let e = s.number some_figure in (e, words (k e), tt, (refl, refl), exp_heads (λ op. rank op < low) (head (k e)) (words (k e)) (first_words (k e)) (h e).1, completes (k e) most le (h e).0)
completes (more_exp d low x k) most le h = (x, words (k x), (λ start st dx. (st, dx)), exp_heads (λ op. rank op < low) (head (k x)) (words (k x)) (first_words (k x)) (h x).1, completes (k x) most le (h x).0)
completes (a_right_side d k) most le h = let e = s.number some_figure in (e, words (k e), tt, (refl, refl), completes (k e) most le (h e).0)
completes (after_name d n k) most le h =
    let e = s.named n in (e, words (k e), (λ low. tt), (refl, not_in (head (k e)) t.Open (words (k e)) (first_words (k e)) (not_exp (head (k e)) t.Open refl (h e).1)), completes (k e) most le (h e).0)
completes (some_arguments d k) most le h = (s.no_arguments, words (k s.no_arguments), ([], here, refl), completes (k s.no_arguments) most le (h s.no_arguments))
completes (more_arguments d k) most le h = (s.no_arguments, words (k s.no_arguments), ([], here, refl), completes (k s.no_arguments) most le (h s.no_arguments))
completes (an_argument d k) most le h = let x = s.value_argument (s.number some_figure) in (x, words (k x), (refl, refl), completes (k x) most le (h x).0)
completes (an_item d k) most le h =
    let x = s.value (s.number some_figure) in
    (x, words (k x), ((refl, refl), exp_heads (λ op. ⊥) (head (k x)) (words (k x)) (first_words (k x)) (trace_exp (head (k x)) (h x).1), tt), completes (k x) most le (h x).0)
completes (more_items d k) most le h =
    let x = s.no_traces in (x, words (k x), (refl, not_in (head (k x)) t.Fby (words (k x)) (first_words (k x)) (not_trace (head (k x)) t.Fby refl (h x).1)), completes (k x) most le (h x).0)
completes (a_handler d k) most le h =
    let x = s.no_trace in (x, words (k x), (refl, not_in (head (k x)) t.Do (words (k x)) (first_words (k x)) (not_trace (head (k x)) t.Do refl (h x).1)), completes (k x) most le (h x).0)
completes (some_limits d k) most le h =
    let x = s.forever in
    (x, words (k x), (refl, not_in (head (k x)) t.OpenBracket (words (k x)) (first_words (k x)) (not_number (head (k x)) t.OpenBracket refl (h x).1), not_in (head (k x)) t.Tilde (words (k x)) (first_words (k x)) (not_number (head (k x)) t.Tilde refl (h x).1)), completes (k x) most le (h x).0)
completes (a_bound d k) most le h = let x = s.number some_figure in (x, words (k x), (refl, refl), completes (k x) most le (h x))
completes (some_braced d k) most le h =
    let x = s.plain (s.value (s.number some_figure)) in
    let rest = lexeme t.CloseBrace [] here ∷ words (k x here) in
    (x, here, words (k x here), ([], ((refl, refl), closed t.CloseBrace [] here (words (k x here)) refl, not_first_by t.Fby t.CloseBrace [] here (words (k x here)) refl)), completes (k x here) most le (h x here))
completes (after_first d y k) most le h = (s.plain y, here, words (k (s.plain y) here), (λ start dx. ([], dx)), completes (k (s.plain y) here) most le (h (s.plain y) here))
completes (an_alternative d k) most le h =
    let x = s.unweighted (s.value (s.number some_figure)) in
    let f = first_words (k x) in
    let t' = brace_trace (head (k x)) (h x).1 in
    (x, words (k x), (((refl, refl), exp_heads (λ op. ⊥) (head (k x)) (words (k x)) f (trace_exp (head (k x)) t'), not_in (head (k x)) t.Fby (words (k x)) f (not_trace (head (k x)) t.Fby refl t')), not_in (head (k x)) t.Colon (words (k x)) f (not_trace (head (k x)) t.Colon refl t')), completes (k x) most le (h x).0)
completes (after_weight d e k) most le h =
    let x = s.unweighted (s.value e) in
    let f = first_words (k x) in
    let t' = brace_trace (head (k x)) (h x).1 in
    (x, words (k x), (λ start de no. ((de, no, not_in (head (k x)) t.Fby (words (k x)) f (not_trace (head (k x)) t.Fby refl t')), not_in (head (k x)) t.Colon (words (k x)) f (not_trace (head (k x)) t.Colon refl t'))), completes (k x) most le (h x).0)
completes (more_alternatives d k) most le h = (s.no_alternatives, here, words (k s.no_alternatives here), ([], refl), completes (k s.no_alternatives here) most le (h s.no_alternatives here))
completes (more_traces d sign k) most le h = (s.no_traces, here, words (k s.no_traces here), ([], refl), completes (k s.no_traces here) most le (h s.no_traces here))
completes (some_groups d k) most le h = (s.no_groups, words (k s.no_groups), ([], here, refl), completes (k s.no_groups) most le (h s.no_groups))
completes (more_groups d end k) most le h = (s.no_groups, words (k s.no_groups), ([], here, refl), completes (k s.no_groups) most le (h.1 s.no_groups))
completes (more_names k) most le h =
    (([]), words (k []), (refl, not_in (head (k [])) t.Comma (words (k [])) (first_words (k [])) (not_names (head (k [])) t.Comma refl (h []).1)), completes (k []) most le (h []).0)
completes (a_type k) most le h = (ty.Bool, [], here, words (k ty.Bool), refl, completes (k ty.Bool) most le (h ty.Bool))
completes (a_ref k) most le h = (false, words (k false), (refl, not_in (head (k false)) t.Ref (words (k false)) (first_words (k false)) (not_group (head (k false)) t.Ref refl (h false).1)), completes (k false) most le (h false).0)
completes (a_range k) most le h =
    (None, words (k None), (refl, not_in (head (k None)) t.OpenBracket (words (k None)) (first_words (k None)) (not_group (head (k None)) t.OpenBracket refl (h None).1)), completes (k None) most le (h None).0)
completes (a_step k) most le h =
    (None, words (k None), (refl, not_in (head (k None)) t.Semicolon (words (k None)) (first_words (k None)) (not_bracket (head (k None)) (h None).1)), completes (k None) most le (h None).0)
completes (a_figure k) most le h = (some_figure, words (k some_figure), refl, completes (k some_figure) most le (h some_figure))
completes (a_digits p k) most le h = let x : Figure = record { minus = true; text = []; span = across p here } in ([], here, words (k x), refl, completes (k x) most le (h x))
completes (a_list d k) most le h =
    ([], here, lexeme t.Close [] here ∷ words (k s.no_groups), refl, omega (arith, le, h.0), s.no_groups, words (k s.no_groups), ([], here, refl), completes (k s.no_groups) most le (h.1 s.no_groups))
completes (a_first d k) most le h =
    let x = s.no_exp in (x, words (k x), (refl, not_in (head (k x)) t.Equal (words (k x)) (first_words (k x)) (not_group (head (k x)) t.Equal refl (h x).1)), completes (k x) most le (h x).0)
completes (some_parameters d k) most le h =
    let x = s.no_parameters in (x, words (k x), (refl, not_in (head (k x)) t.Open (words (k x)) (first_words (k x)) (not_colon (head (k x)) t.Open refl (h x).1)), completes (k x) most le (h x).0)
completes (some_expressions d k) most le h = ([], words (k []), ([], here, refl), completes (k []) most le (h []))
completes (more_expressions d k) most le h = ([], words (k []), ([], here, refl), completes (k []) most le (h []))
completes (some_runs d k) most le h =
    let x = s.value (s.number some_figure) in
    let f = first_words (k [] x) in
    let t' = (h [] x).1 in (
      [],
      x,
      words (k [] x),
      ((refl, refl), exp_heads (λ op. ⊥) (head (k [] x)) (words (k [] x)) f (trace_exp (head (k [] x)) t'), not_in (head (k [] x)) t.Fby (words (k [] x)) f (not_trace (head (k [] x)) t.Fby refl t')),
      completes (k [] x) most le (h [] x).0,
    )
completes (declarations k) most le h = ([], words (k []), refl, completes (k []) most le (h []).0)

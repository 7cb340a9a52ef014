-- How many levels a want speaks of: never more than are open where it stands.
use Rattle.std.proofs.Common.{ℕ, suc, ◌≤◌, List, [], ◌∷◌, Bool, true, false, if◌then◌else◌, nat_le, nat_lt, Option, Some, None, arith}
use Rattle.lt_ast.specs.declared.sign.Sign.{Sign}
use Rattle.lt_ast.specs.declared.sign.Sign.TheVariants as t
use Rattle.lt_ast.specs.contracts.sign.Sign.{the_type}
use denote.Enum.Bare.{sameb}
use Rattle.lt_ast.specs.declared.span.Span.{Span}
use Rattle.lt_ast.specs.declared.group.TypeName.{TypeName}
use Rattle.lt_ast.specs.declared.group.TypeName.TheVariants as ty
use Rattle.lt_ast.specs.declared.expr.UnOp.TheVariants as u
use Rattle.lt_ast.specs.declared.expr.BinOp.{BinOp}
use Rattle.lt_ast.specs.declared.expr.BinOp.TheVariants as b
use Rattle.lt_ast.specs.Syntax as s
use Rattle.lt_ast.specs.Syntax.{Word, Figure, WrittenRange, Exp, Argument, Arguments, Limits, Braces, Alternative, Alternatives, Trace, Traces, Grouping, Groupings, MaybeExp, MaybeTrace, Parameters, Meaning, Macro, Run, Declaration}
use Rattle.lt_grammar.specs.Precedence.{rank, operator}
use Rattle.lt_ast.specs.Places.{across, span_of}
use Rattle.lt_parser.specs.inner.Reading.{Goal, Move, stuck, next, opens, step, extend, operand, allowed, top, nothing_more, a_sign, a_name, an_exp, more_exp, a_right_side, after_name, some_arguments, more_arguments, an_argument, an_item, more_items, a_handler, some_limits, a_bound, some_braced, after_first, an_alternative, after_weight, more_alternatives, more_traces, some_groups, more_groups, more_names, a_type, a_ref, a_range, a_step, a_figure, a_digits, a_list, a_first, some_parameters, some_expressions, more_expressions, some_runs, declarations, a_trace, after_group_name, groups, a_meaning, a_macro, sequence_of, begin_exp, begin_item, begin_argument, begin_alternative, begins_item, right_side_low, unary_goal, if_goal}

-- Each number of levels in a want, and in all that is wanted after it, is at most this one.
abbrev pub Low : ℕ → Goal → Type 0
Low n (nothing_more x) = Unit {0}
Low n (a_sign wanted k) = (p : Span) → Low n (k p)
Low n (a_name k) = (x : Word) → Low n (k x)
Low n (an_exp d low k) = (d ≤ n) × ((e : Exp) → Low n (k e))
Low n (more_exp d low x k) = (d ≤ n) × ((e : Exp) → Low n (k e))
Low n (a_right_side d k) = (d ≤ n) × ((e : Exp) → Low n (k e))
Low n (after_name d x k) = (d ≤ n) × ((e : Exp) → Low n (k e))
Low n (some_arguments d k) = (d ≤ n) × ((x : Arguments) → Low n (k x))
Low n (more_arguments d k) = (d ≤ n) × ((x : Arguments) → Low n (k x))
Low n (an_argument d k) = (d ≤ n) × ((x : Argument) → Low n (k x))
Low n (an_item d k) = (d ≤ n) × ((x : Trace) → Low n (k x))
Low n (more_items d k) = (d ≤ n) × ((x : Traces) → Low n (k x))
Low n (a_handler d k) = (d ≤ n) × ((x : MaybeTrace) → Low n (k x))
Low n (some_limits d k) = (d ≤ n) × ((x : Limits) → Low n (k x))
Low n (a_bound d k) = (d ≤ n) × ((e : Exp) → Low n (k e))
Low n (some_braced d k) = (d ≤ n) × ((x : Braces) (q : Span) → Low n (k x q))
Low n (after_first d y k) = (d ≤ n) × ((x : Braces) (q : Span) → Low n (k x q))
Low n (an_alternative d k) = (d ≤ n) × ((x : Alternative) → Low n (k x))
Low n (after_weight d e k) = (d ≤ n) × ((x : Alternative) → Low n (k x))
Low n (more_alternatives d k) = (d ≤ n) × ((x : Alternatives) (q : Span) → Low n (k x q))
Low n (more_traces d sign k) = (d ≤ n) × ((x : Traces) (q : Span) → Low n (k x q))
Low n (some_groups d k) = (d ≤ n) × ((x : Groupings) → Low n (k x))
Low n (more_groups d end k) = (d ≤ n) × ((x : Groupings) → Low n (k x))
Low n (more_names k) = (x : List Word) → Low n (k x)
Low n (a_type k) = (x : TypeName) → Low n (k x)
Low n (a_ref k) = (x : Bool) → Low n (k x)
Low n (a_range k) = (x : Option WrittenRange) → Low n (k x)
Low n (a_step k) = (x : Option Figure) → Low n (k x)
Low n (a_figure k) = (x : Figure) → Low n (k x)
Low n (a_digits p k) = (x : Figure) → Low n (k x)
Low n (a_list d k) = (d ≤ n) × ((x : Groupings) → Low n (k x))
Low n (a_first d k) = (d ≤ n) × ((x : MaybeExp) → Low n (k x))
Low n (some_parameters d k) = (d ≤ n) × ((x : Parameters) → Low n (k x))
Low n (some_expressions d k) = (d ≤ n) × ((x : List Exp) → Low n (k x))
Low n (more_expressions d k) = (d ≤ n) × ((x : List Exp) → Low n (k x))
Low n (some_runs d k) = (suc d ≤ n) × ((x : List Run) (y : Trace) → Low n (k x y))
Low n (declarations k) = (1 ≤ n) × ((x : List Declaration) → Low n (k x))

-- After a token: the level that it opens is at most one more, and where it is none too many, what is wanted next keeps within them.
abbrev pub LowMove : ℕ → Move → Type 0
LowMove n stuck = Unit {0}
LowMove n (next goal) = Low n goal
LowMove n (opens d goal) = (d ≤ suc n) × (d ≤ n → Low n goal)

-- The level above one of at most so many is at most one more.
one_more : (d n : ℕ) → d ≤ n → suc d ≤ suc n
one_more d n l = omega (arith, l)

-- A level below others is one of them.
one_less : (d n : ℕ) → suc d ≤ n → d ≤ n
one_less d n l = omega (arith, l)

-- At the start no level is open.
none_open : (n : ℕ) → 0 ≤ n
none_open n = omega arith

-- WANTS MADE OF OTHERS

-- an answer that may not be given
low_allowed : (b' : Bool) (n : ℕ) (a : Move) → LowMove n a → LowMove n (allowed b' a)
low_allowed true n a h = h
low_allowed false n a h = tt

-- one of two answers
low_if : (b' : Bool) (n : ℕ) (x y : Move) → LowMove n x → LowMove n y → LowMove n (if b' then x else y)
low_if true n x y h g = h
low_if false n x y h g = g

-- a trace
low_trace : (n d : ℕ) (k : Trace → Goal) → d ≤ n → ((x : Trace) → Low n (k x)) → Low n (a_trace d k)
low_trace n d k l h = (l, λ x. (l, λ xs. h (sequence_of x xs)))

-- a group whose first name is found
low_group_name : (n d : ℕ) (k : Grouping → Goal) → d ≤ n → ((g : Grouping) → Low n (k g)) → (x : Word) → Low n (after_group_name d k x)
low_group_name n d k l h x = λ xs p kind r i. (l, λ f. h (s.grouping (x ∷ xs) kind r i f))

-- groups up to a sign
low_groups : (n d : ℕ) (end : Sign) (k : Groupings → Goal) → d ≤ n → ((gs : Groupings) → Low n (k gs)) → Low n (groups d end k)
low_groups n d end k l h = low_group_name n d (λ g. more_groups d end (λ gs. k (s.one_group g gs))) l (λ g. (l, λ gs. h (s.one_group g gs)))

-- what a macro stands for
low_meaning : (kind : TypeName) (n d : ℕ) (k : Meaning → Goal) → d ≤ n → ((y : Meaning) → Low n (k y)) → Low n (a_meaning d kind k)
low_meaning ty.Trace n d k l h = low_trace n d (λ x. k (s.trace_meaning x)) l (λ x. h (s.trace_meaning x))
low_meaning ty.Bool n d k l h = (l, λ e. h (s.value_meaning e))
low_meaning ty.Int n d k l h = (l, λ e. h (s.value_meaning e))
low_meaning ty.Real n d k l h = (l, λ e. h (s.value_meaning e))

-- a macro
low_macro : (n d : ℕ) (k : Macro → Goal) → d ≤ n → ((y : Macro) → Low n (k y)) → Low n (a_macro d k)
low_macro n d k l h = λ x. (l, λ ps p kind q. low_meaning kind n d (λ y. k (s.macro x ps kind y)) l (λ y. h (s.macro x ps kind y)))

-- WHAT A TOKEN BEGINS

-- an expression
low_exp : (n d low : ℕ) (k : Exp → Goal) → d ≤ n → ((e : Exp) → Low n (k e)) → (sign : Sign) (w : List ℕ) (at : Span) → LowMove n (begin_exp d low k sign w at)
low_exp n d low k l h t.Number w at = (l, h)
low_exp n d low k l h t.True w at = (l, h)
low_exp n d low k l h t.False w at = (l, h)
low_exp n d low k l h t.Name w at = (l, λ e. (l, h))
low_exp n d low k l h t.Pre w at = λ x. (l, h)
low_exp n d low k l h t.Open w at = (one_more d n l, λ m. (m, λ e q. (l, h)))
low_exp n d low k l h t.Minus w at = low_allowed (nat_le low 8) n (opens (suc d) (unary_goal (suc d) u.Neg at (λ e. more_exp d low e k))) (one_more d n l, λ m. (m, λ e. (l, h)))
low_exp n d low k l h t.Not w at = low_allowed (nat_le low 4) n (opens (suc d) (unary_goal (suc d) u.Not at (λ e. more_exp d low e k))) (one_more d n l, λ m. (m, λ e. (l, h)))
low_exp n d low k l h t.If w at = low_allowed (nat_le low 0) n (opens (suc d) (if_goal (suc d) at (λ e. more_exp d low e k))) (one_more d n l, λ m. (m, λ e p. (m, λ f q. (m, λ g. (l, h)))))
low_exp n d low k l h sign w at = tt

-- an item
low_item : (n d : ℕ) (k : Trace → Goal) → d ≤ n → ((x : Trace) → Low n (k x)) → (sign : Sign) (w : List ℕ) (at : Span) → LowMove n (begin_item d k sign w at)
low_item n d k l h t.OpenBrace w at = (one_more d n l, λ m. (m, λ x q. h (s.braces x (across at q))))
low_item n d k l h t.Loop w at = (one_more d n l, λ m. (m, λ y. (m, λ x. h (s.loop y x))))
low_item n d k l h t.Raise w at = λ x. h (s.raise x)
low_item n d k l h t.Assert w at = (one_more d n l, λ m. (m, λ e p. low_trace n (suc d) (λ x. k (s.assert e x)) m (λ x. h (s.assert e x))))
low_item n d k l h t.Exist w at =
    (one_more d n l, λ m. low_groups n (suc d) t.In (λ gs. a_trace (suc d) (λ x. k (s.exist gs x))) m (λ gs. low_trace n (suc d) (λ x. k (s.exist gs x)) m (λ x. h (s.exist gs x))))
low_item n d k l h t.Let w at =
    (one_more d n l, λ m. low_macro n (suc d) (λ y. a_sign t.In (λ p. a_trace (suc d) (λ x. k (s.define y x)))) m (λ y p. low_trace n (suc d) (λ x. k (s.define y x)) m (λ x. h (s.define y x))))
low_item n d k l h t.Exception w at = (one_more d n l, λ m y ys p. low_trace n (suc d) (λ x. k (s.exceptions (y ∷ ys) x)) m (λ x. h (s.exceptions (y ∷ ys) x)))
low_item n d k l h t.Catch w at = (one_more d n l, λ m y p. low_trace n (suc d) (λ x. a_handler (suc d) (λ z. k (s.catch y x z))) m (λ x. (m, λ z. h (s.catch y x z))))
low_item n d k l h t.Trap w at = (one_more d n l, λ m y p. low_trace n (suc d) (λ x. a_handler (suc d) (λ z. k (s.trap y x z))) m (λ x. (m, λ z. h (s.trap y x z))))
low_item n d k l h t.Try w at = (one_more d n l, λ m. low_trace n (suc d) (λ x. a_handler (suc d) (λ z. k (s.try x z))) m (λ x. (m, λ z. h (s.try x z))))
low_item n d k l h sign w at = low_exp n d 0 (λ e. k (s.value e)) l (λ e. h (s.value e)) sign w at

-- an argument
low_argument : (n d : ℕ) (k : Argument → Goal) → d ≤ n → ((x : Argument) → Low n (k x)) → (sign : Sign) (w : List ℕ) (at : Span) → LowMove n (begin_argument d k sign w at)
low_argument n d k l h t.OpenBrace w at = (one_more d n l, λ m. (m, λ x q. h (s.trace_argument x (across at q))))
low_argument n d k l h sign w at = low_exp n d 0 (λ e. k (s.value_argument e)) l (λ e. h (s.value_argument e)) sign w at

-- an alternative
low_alternative : (c : Bool) (n d : ℕ) (k : Alternative → Goal) → d ≤ n → ((x : Alternative) → Low n (k x)) → (sign : Sign) (w : List ℕ) (at : Span) → LowMove n (begin_alternative c d k sign w at)
low_alternative true n d k l h sign w at = low_item n d (λ x. more_items d (λ xs. k (s.unweighted (sequence_of x xs)))) l (λ x. (l, λ xs. h (s.unweighted (sequence_of x xs)))) sign w at
low_alternative false n d k l h sign w at = low_exp n d 0 (λ e. after_weight d e k) l (λ e. (l, h)) sign w at

-- the right side of an operator
low_operand : (op : BinOp) (n d : ℕ) (k : Exp → Goal) → d ≤ n → ((e : Exp) → Low n (k e)) → LowMove n (operand d op k)
low_operand b.Implies n d k l h = (one_more d n l, λ m. (m, h))
low_operand b.Eq n d k l h = (l, h)
low_operand b.Ne n d k l h = (l, h)
low_operand b.Lt n d k l h = (l, h)
low_operand b.Le n d k l h = (l, h)
low_operand b.Gt n d k l h = (l, h)
low_operand b.Ge n d k l h = (l, h)
low_operand op n d k l h = (l, h)

-- what extends an expression
low_extend : (o : Option BinOp) (n d low : ℕ) (x : Exp) (k : Exp → Goal) (skip : Move) → d ≤ n → ((e : Exp) → Low n (k e)) → LowMove n skip → LowMove n (extend o d low x k skip)
low_extend None n d low x k skip l h g = g
low_extend (Some op) n d low x k skip l h g =
    low_if (nat_lt (rank op) low) n skip (if nat_le (rank op) (top x) then operand d op (λ y. more_exp d low (s.binary op x y (across (span_of x) (span_of y))) k) else stuck) g
    (low_if (nat_le (rank op) (top x)) n (operand d op (λ y. more_exp d low (s.binary op x y (across (span_of x) (span_of y))) k)) stuck
    (low_operand op n d (λ y. more_exp d low (s.binary op x y (across (span_of x) (span_of y))) k) l (λ y. (l, h))) tt)

-- ONE TOKEN KEEPS IT

-- A token opens at most one level more than a want speaks of.
pub low_step : (g : Goal) (n : ℕ) (sign : Sign) (w : List ℕ) (at : Span) → Low n g → LowMove n (step g sign w at)
low_step (nothing_more x) n sign w at h = tt
low_step (a_sign wanted k) n sign w at h = low_if (sameb the_type wanted sign) n (next (k at)) stuck (h at) tt
low_step (a_name k) n t.Name w at h = h (record { text = w; span = at })
low_step (a_name k) n sign w at h = tt
low_step (an_exp d low k) n sign w at h = low_exp n d low k h.0 h.1 sign w at
low_step (more_exp d low x k) n sign w at h = low_extend (operator sign) n d low x k (step (k x) sign w at) h.0 h.1 (low_step (k x) n sign w at (h.1 x))
low_step (a_right_side d k) n sign w at h = low_exp n d (right_side_low sign) k h.0 h.1 sign w at
low_step (after_name d y k) n t.Open w at h = (one_more d n h.0, λ m. (m, λ x. h.1 (s.called y x)))
low_step (after_name d y k) n sign w at h = low_step (k (s.named y)) n sign w at (h.1 (s.named y))
low_step (some_arguments d k) n t.Close w at h = h.1 s.no_arguments
low_step (some_arguments d k) n sign w at h = low_argument n d (λ a. more_arguments d (λ more. k (s.argument a more))) h.0 (λ a. (h.0, λ more. h.1 (s.argument a more))) sign w at
low_step (more_arguments d k) n t.Close w at h = h.1 s.no_arguments
low_step (more_arguments d k) n t.Comma w at h = (h.0, λ a. (h.0, λ more. h.1 (s.argument a more)))
low_step (more_arguments d k) n sign w at h = tt
low_step (an_argument d k) n sign w at h = low_argument n d k h.0 h.1 sign w at
low_step (an_item d k) n sign w at h = low_item n d k h.0 h.1 sign w at
low_step (more_items d k) n t.Fby w at h = (h.0, λ x. (h.0, λ xs. h.1 (s.one_trace x xs)))
low_step (more_items d k) n sign w at h = low_step (k s.no_traces) n sign w at (h.1 s.no_traces)
low_step (a_handler d k) n t.Do w at h = low_trace n d (λ x. k (s.a_trace x)) h.0 (λ x. h.1 (s.a_trace x))
low_step (a_handler d k) n sign w at h = low_step (k s.no_trace) n sign w at (h.1 s.no_trace)
low_step (some_limits d k) n t.OpenBracket w at h = (h.0, λ e p. (h.0, λ f q. h.1 (s.between e f)))
low_step (some_limits d k) n t.Tilde w at h = (h.0, λ e p. (h.0, λ f. h.1 (s.around e f)))
low_step (some_limits d k) n sign w at h = low_step (k s.forever) n sign w at (h.1 s.forever)
low_step (a_bound d k) n t.Number w at h = h.1 (s.number (record { minus = false; text = w; span = at }))
low_step (a_bound d k) n t.Name w at h = h.1 (s.named (record { text = w; span = at }))
low_step (a_bound d k) n t.Open w at h = (one_more d n h.0, λ m. (m, λ e q. h.1 (s.paren e (across at q))))
low_step (a_bound d k) n sign w at h = tt
low_step (some_braced d k) n t.Bar w at h = (h.0, λ p. (h.0, λ ps q. h.1 (s.choice true (s.alternative p ps)) q))
low_step (some_braced d k) n t.Priority w at h =
    low_trace n d (λ x. more_traces d t.Priority (λ xs q. k (s.priority true (s.one_trace x xs)) q)) h.0 (λ x. (h.0, λ xs q. h.1 (s.priority true (s.one_trace x xs)) q))
low_step (some_braced d k) n t.Parallel w at h =
    low_trace n d (λ x. more_traces d t.Parallel (λ xs q. k (s.parallel true (s.one_trace x xs)) q)) h.0 (λ x. (h.0, λ xs q. h.1 (s.parallel true (s.one_trace x xs)) q))
low_step (some_braced d k) n sign w at h = low_item n d (λ x. more_items d (λ xs. after_first d (sequence_of x xs) k)) h.0 (λ x. (h.0, λ xs. h)) sign w at
low_step (after_first d x k) n t.CloseBrace w at h = h.1 (s.plain x) at
low_step (after_first d x k) n t.Bar w at h = (h.0, λ p. (h.0, λ ps q. h.1 (s.choice false (s.alternative (s.unweighted x) (s.alternative p ps))) q))
low_step (after_first d x k) n t.Priority w at h =
    low_trace n d (λ y. more_traces d t.Priority (λ ys q. k (s.priority false (s.one_trace x (s.one_trace y ys))) q))
    h.0 (λ y. (h.0, λ ys q. h.1 (s.priority false (s.one_trace x (s.one_trace y ys))) q))
low_step (after_first d x k) n t.Parallel w at h =
    low_trace n d (λ y. more_traces d t.Parallel (λ ys q. k (s.parallel false (s.one_trace x (s.one_trace y ys))) q))
    h.0 (λ y. (h.0, λ ys q. h.1 (s.parallel false (s.one_trace x (s.one_trace y ys))) q))
low_step (after_first d x k) n sign w at h = tt
low_step (an_alternative d k) n sign w at h = low_alternative (begins_item sign) n d k h.0 h.1 sign w at
low_step (after_weight d e k) n t.Colon w at h = low_trace n d (λ x. k (s.weighted e x)) h.0 (λ x. h.1 (s.weighted e x))
low_step (after_weight d e k) n t.Fby w at h = (h.0, λ x. (h.0, λ xs. h.1 (s.unweighted (s.sequence (s.one_trace (s.value e) (s.one_trace x xs))))))
low_step (after_weight d e k) n sign w at h = low_step (k (s.unweighted (s.value e))) n sign w at (h.1 (s.unweighted (s.value e)))
low_step (more_alternatives d k) n t.CloseBrace w at h = h.1 s.no_alternatives at
low_step (more_alternatives d k) n t.Bar w at h = (h.0, λ p. (h.0, λ ps q. h.1 (s.alternative p ps) q))
low_step (more_alternatives d k) n sign w at h = tt
low_step (more_traces d wanted k) n t.CloseBrace w at h = h.1 s.no_traces at
low_step (more_traces d wanted k) n sign w at h =
    low_if (sameb the_type wanted sign) n (next (a_trace d (λ x. more_traces d wanted (λ xs q. k (s.one_trace x xs) q)))) stuck
    (low_trace n d (λ x. more_traces d wanted (λ xs q. k (s.one_trace x xs) q)) h.0 (λ x. (h.0, λ xs q. h.1 (s.one_trace x xs) q))) tt
low_step (some_groups d k) n t.Close w at h = h.1 s.no_groups
low_step (some_groups d k) n t.Name w at h = low_groups n d t.Close k h.0 h.1 (record { text = w; span = at })
low_step (some_groups d k) n sign w at h = tt
low_step (more_groups d end k) n t.Semicolon w at h = low_groups n d end k h.0 h.1
low_step (more_groups d end k) n sign w at h = low_if (sameb the_type end sign) n (next (k s.no_groups)) stuck (h.1 s.no_groups) tt
low_step (more_names k) n t.Comma w at h = λ x xs. h (x ∷ xs)
low_step (more_names k) n sign w at h = low_step (k []) n sign w at (h [])
low_step (a_type k) n t.Bool w at h = h ty.Bool
low_step (a_type k) n t.Int w at h = h ty.Int
low_step (a_type k) n t.Real w at h = h ty.Real
low_step (a_type k) n t.Trace w at h = h ty.Trace
low_step (a_type k) n sign w at h = tt
low_step (a_ref k) n t.Ref w at h = h true
low_step (a_ref k) n sign w at h = low_step (k false) n sign w at (h false)
low_step (a_range k) n t.OpenBracket w at h = λ low p high stride q. h (Some (record { low = low; high = high; step = stride }))
low_step (a_range k) n sign w at h = low_step (k None) n sign w at (h None)
low_step (a_step k) n t.Semicolon w at h = λ f. h (Some f)
low_step (a_step k) n sign w at h = low_step (k None) n sign w at (h None)
low_step (a_figure k) n t.Number w at h = h (record { minus = false; text = w; span = at })
low_step (a_figure k) n t.Minus w at h = h
low_step (a_figure k) n sign w at h = tt
low_step (a_digits p k) n t.Number w at h = h (record { minus = true; text = w; span = across p at })
low_step (a_digits p k) n sign w at h = tt
low_step (a_list d k) n t.Open w at h = (one_more d n h.0, λ m. (m, h.1))
low_step (a_list d k) n sign w at h = tt
low_step (a_first d k) n t.Equal w at h = (h.0, λ e. h.1 (s.an_exp e))
low_step (a_first d k) n sign w at h = low_step (k s.no_exp) n sign w at (h.1 s.no_exp)
low_step (some_parameters d k) n t.Open w at h = (one_more d n h.0, λ m. (m, λ gs. h.1 (s.parameters gs)))
low_step (some_parameters d k) n sign w at h = low_step (k s.no_parameters) n sign w at (h.1 s.no_parameters)
low_step (some_expressions d k) n t.Close w at h = h.1 []
low_step (some_expressions d k) n sign w at h =
    low_exp n d 0 (λ e. more_expressions d (λ es. k (e ∷ es))) h.0 (λ e. (h.0, λ es. h.1 (e ∷ es))) sign w at
low_step (more_expressions d k) n t.Close w at h = h.1 []
low_step (more_expressions d k) n t.Comma w at h = (h.0, λ e. (h.0, λ es. h.1 (e ∷ es)))
low_step (more_expressions d k) n sign w at h = tt
low_step (some_runs d k) n t.Run w at h =
    (one_more (suc d) n h.0, λ m x xs p y o. (m, λ es q. (m, λ rs z. h.1 (record { names = x ∷ xs; node = y; arguments = es; span = across at q } ∷ rs) z)))
low_step (some_runs d k) n sign w at h =
    low_item n d (λ x. more_items d (λ xs. k [] (sequence_of x xs))) (one_less d n h.0) (λ x. (one_less d n h.0, λ xs. h.1 [] (sequence_of x xs))) sign w at
low_step (declarations k) n t.Node w at h =
    λ x. (none_open n, λ ins p. (none_open n, λ outs q. (h.0, λ rs y. (h.0, λ xs. h.1 (s.node x ins outs rs y ∷ xs)))))
low_step (declarations k) n t.Let w at h = low_macro n 0 (λ y. declarations (λ xs. k (s.macro_declaration y ∷ xs))) (none_open n) (λ y. (h.0, λ xs. h.1 (s.macro_declaration y ∷ xs)))
low_step (declarations k) n t.Exception w at h = λ x xs. (h.0, λ ys. h.1 (s.exception_declaration (x ∷ xs) ∷ ys))
low_step (declarations k) n sign w at h = low_step (k []) n sign w at (h.1 [])

-- Reading from left to right, by what is still wanted. Proofs tie this to the grammar; the parser's functions answer as it does.
use Rattle.std.specs.Prelude.{◌≡◌, ◌↔◌, ℕ, suc, List, [], ◌∷◌, length, Bool, true, false, Option, Some, None, Result, Ok, Err, nat_le, nat_lt, if◌then◌else◌}
use Rattle.lt_ast.specs.declared.sign.Sign.{Sign}
use Rattle.lt_ast.specs.declared.sign.Sign.TheVariants as t
use Rattle.lt_ast.specs.contracts.sign.Sign.{the_type}
use denote.Enum.Bare.{sameb}
use Rattle.lt_ast.specs.declared.span.Span.{Span}
use Rattle.lt_ast.specs.declared.group.TypeName.{TypeName}
use Rattle.lt_ast.specs.declared.group.TypeName.TheVariants as ty
use Rattle.lt_ast.specs.declared.expr.UnOp.{UnOp}
use Rattle.lt_ast.specs.declared.expr.UnOp.TheVariants as u
use Rattle.lt_ast.specs.declared.expr.BinOp.{BinOp}
use Rattle.lt_ast.specs.declared.expr.BinOp.TheVariants as b
use Rattle.lt_ast.specs.Syntax as s
use Rattle.lt_ast.specs.Syntax.{Word, Figure, WrittenRange, Exp, Argument, Arguments, Limits, Braces, Alternative, Alternatives, Trace, Traces, Grouping, Groupings, MaybeExp, MaybeTrace, Parameters, Meaning, Macro, Run, Declaration}
use Rattle.lt_grammar.specs.Lexemes.{Lexeme, lexeme, Lexemes}
use Rattle.lt_grammar.specs.Program.{IsUnexpected, IsTooDeep}
use Rattle.lt_grammar.specs.Precedence.{rank, under, operator}
use Rattle.lt_ast.specs.Places.{across, span_of}
use Rattle.lt_grammar.specs.Nesting.{most_levels}

-- what is read of a whole text: a program, or one expression
pub data Tree : Type 0 where
  program_tree : List Declaration → Tree
  expression_tree : Exp → Tree

-- What is wanted next, and what is wanted after it, once that is found. The number in front is how many levels of
-- nesting are open; an expression has a second one, how tightly it binds at least.
pub data Goal : Type 0 where
  -- nothing: the whole is found
  nothing_more : Tree → Goal
  -- this sign
  a_sign : Sign → (Span → Goal) → Goal
  -- a name
  a_name : (Word → Goal) → Goal
  -- an expression, what may extend one, and the right side of a comparison
  an_exp : ℕ → ℕ → (Exp → Goal) → Goal
  more_exp : ℕ → ℕ → Exp → (Exp → Goal) → Goal
  a_right_side : ℕ → (Exp → Goal) → Goal
  -- what may follow a name in an expression
  after_name : ℕ → Word → (Exp → Goal) → Goal
  -- arguments with the parenthesis after them, more of them, and one
  some_arguments : ℕ → (Arguments → Goal) → Goal
  more_arguments : ℕ → (Arguments → Goal) → Goal
  an_argument : ℕ → (Argument → Goal) → Goal
  -- an item of a sequence, and the items after it
  an_item : ℕ → (Trace → Goal) → Goal
  more_items : ℕ → (Traces → Goal) → Goal
  -- what follows a `do`, if it is there
  a_handler : ℕ → (MaybeTrace → Goal) → Goal
  -- the bounds of a loop, and a number, a name or a parenthesis in them
  some_limits : ℕ → (Limits → Goal) → Goal
  a_bound : ℕ → (Exp → Goal) → Goal
  -- what stands in braces, with the brace after it, and what follows a first trace in them
  some_braced : ℕ → (Braces → Span → Goal) → Goal
  after_first : ℕ → Trace → (Braces → Span → Goal) → Goal
  -- an alternative, what follows an expression that may be its weight, and more alternatives, with the brace
  an_alternative : ℕ → (Alternative → Goal) → Goal
  after_weight : ℕ → Exp → (Alternative → Goal) → Goal
  more_alternatives : ℕ → (Alternatives → Span → Goal) → Goal
  -- more traces after this sign, with the brace
  more_traces : ℕ → Sign → (Traces → Span → Goal) → Goal
  -- groups with the parenthesis after them, and more groups with this sign after them
  some_groups : ℕ → (Groupings → Goal) → Goal
  more_groups : ℕ → Sign → (Groupings → Goal) → Goal
  -- more names, and the parts of a group
  more_names : (List Word → Goal) → Goal
  a_type : (TypeName → Goal) → Goal
  a_ref : (Bool → Goal) → Goal
  a_range : (Option WrittenRange → Goal) → Goal
  a_step : (Option Figure → Goal) → Goal
  a_figure : (Figure → Goal) → Goal
  -- the number after a minus, and the parenthesis before groups
  a_digits : Span → (Figure → Goal) → Goal
  a_list : ℕ → (Groupings → Goal) → Goal
  a_first : ℕ → (MaybeExp → Goal) → Goal
  -- the parameters of a macro, if they are there
  some_parameters : ℕ → (Parameters → Goal) → Goal
  -- expressions with the parenthesis after them, and more of them
  some_expressions : ℕ → (List Exp → Goal) → Goal
  more_expressions : ℕ → (List Exp → Goal) → Goal
  -- runs of nodes, if any, and the trace in them
  some_runs : ℕ → (List Run → Trace → Goal) → Goal
  -- declarations up to the end
  declarations : (List Declaration → Goal) → Goal

-- what a token does: it has no place, it is taken, or it is taken and opens the level of this number; `run` opens its own
-- level and that of its parentheses, which must come
pub data Move : Type 0 where
  stuck : Move
  next : Goal → Move
  opens : ℕ → Goal → Move

-- how tightly an operator may bind at most that follows an expression of this operator
abbrev pub cap : BinOp → ℕ
cap b.Implies = 0
cap b.Eq = 3
cap b.Ne = 3
cap b.Lt = 3
cap b.Le = 3
cap b.Gt = 3
cap b.Ge = 3
cap op = rank op

-- how tightly an operator may bind at most that follows an expression
abbrev pub top : Exp → ℕ
top (s.choose e f g at) = 0
top (s.binary op e f at) = cap op
top (s.unary u.Not e at) = 3
top e = 7

-- what a token does where it may stand
abbrev pub allowed : Bool → Move → Move
allowed true a = a
allowed false a = stuck

-- WANTS MADE OF OTHERS

-- a first item and more of them; alone, it is the trace
abbrev pub sequence_of : Trace → Traces → Trace
sequence_of x s.no_traces = x
sequence_of x (s.one_trace y ys) = s.sequence (s.one_trace x (s.one_trace y ys))

abbrev pub sequence_goal : ℕ → Trace → (Trace → Goal) → Goal
sequence_goal d x k = more_items d (λ xs. k (sequence_of x xs))

abbrev pub a_trace : ℕ → (Trace → Goal) → Goal
a_trace d k = an_item d (λ x. sequence_goal d x k)

-- a trace after `in`
abbrev pub in_trace : ℕ → (Trace → Goal) → Goal
in_trace d k = a_sign t.In (λ p. a_trace d k)

abbrev pub names : (List Word → Goal) → Goal
names k = a_name (λ n. more_names (λ ns. k (n ∷ ns)))

abbrev pub group_rest : ℕ → (Grouping → Goal) → List Word → Goal
group_rest d k ns = a_sign t.Colon (λ p. a_type (λ kind. a_ref (λ r. a_range (λ i. a_first d (λ f. k (s.grouping ns kind r i f))))))

abbrev pub a_group : ℕ → (Grouping → Goal) → Goal
a_group d k = names (group_rest d k)

abbrev pub after_group_name : ℕ → (Grouping → Goal) → Word → Goal
after_group_name d k n = more_names (λ ns. group_rest d k (n ∷ ns))

abbrev pub groups : ℕ → Sign → (Groupings → Goal) → Goal
groups d end k = a_group d (λ g. more_groups d end (λ gs. k (s.one_group g gs)))

abbrev pub a_meaning : ℕ → TypeName → (Meaning → Goal) → Goal
a_meaning d ty.Trace k' = a_trace d (λ x. k' (s.trace_meaning x))
a_meaning d kind k' = an_exp d 0 (λ e. k' (s.value_meaning e))

abbrev pub a_macro : ℕ → (Macro → Goal) → Goal
a_macro d k =
    a_name (λ n. some_parameters d (λ ps. a_sign t.Colon (λ p. a_type (λ kind. a_sign t.Equal (λ q. a_meaning d kind (λ x. k (s.macro n ps kind x)))))))

-- a run of a node after its `run`, which stands at this place, where the level of its parentheses is open
abbrev pub run_goal : ℕ → Span → (Run → Goal) → Goal
run_goal d at k =
    names (λ ns. a_sign t.Assign (λ p. a_name (λ n. a_sign t.Open (λ o.
    some_expressions d (λ es. a_sign t.In (λ q.
    k (record { names = ns; node = n; arguments = es; span = across at q })))))))

-- a node after its `node`
abbrev pub node_goal : (Declaration → Goal) → Goal
node_goal k =
    a_name (λ n. a_list 0 (λ ins. a_sign t.Returns (λ p. a_list 0 (λ outs. a_sign t.Equal (λ q.
    some_runs 0 (λ rs x. k (s.node n ins outs rs x)))))))

-- nothing more, where a program is found ..
abbrev pub done : List Declaration → Goal
done xs = nothing_more (program_tree xs)

-- .. or an expression
abbrev pub expression_done : Exp → Goal
expression_done e = nothing_more (expression_tree e)

-- one expression up to the end
abbrev pub whole_exp : (Exp → Goal) → Goal
whole_exp k = an_exp 0 0 k

-- WHAT A TOKEN BEGINS

abbrev pub begin_name : (Word → Goal) → Sign → List ℕ → Span → Move
begin_name k t.Name w at = next (k (record { text = w; span = at }))
begin_name k sign w at = stuck

-- an expression after a parenthesis, an operand after its operator, and what follows an `if`, each with the place of its first sign
abbrev pub paren_goal : ℕ → Span → (Exp → Goal) → Goal
paren_goal d at k = an_exp d 0 (λ e. a_sign t.Close (λ q. k (s.paren e (across at q))))

abbrev pub unary_goal : ℕ → UnOp → Span → (Exp → Goal) → Goal
unary_goal d op at k = an_exp d (under op) (λ e. k (s.unary op e (across at (span_of e))))

abbrev pub if_goal : ℕ → Span → (Exp → Goal) → Goal
if_goal d at k = an_exp d 0 (λ e. a_sign t.Then (λ p. an_exp d 0 (λ f. a_sign t.Else (λ q. an_exp d 0 (λ g. k (s.choose e f g (across at (span_of g))))))))

abbrev pub begin_exp : ℕ → ℕ → (Exp → Goal) → Sign → List ℕ → Span → Move
begin_exp d low k t.Number w at = next (more_exp d low (s.number (record { minus = false; text = w; span = at })) k)
begin_exp d low k t.True w at = next (more_exp d low (s.flag true at) k)
begin_exp d low k t.False w at = next (more_exp d low (s.flag false at) k)
begin_exp d low k t.Name w at = next (after_name d (record { text = w; span = at }) (λ e. more_exp d low e k))
begin_exp d low k t.Pre w at = next (a_name (λ n. more_exp d low (s.pre n (across at n.span)) k))
begin_exp d low k t.Open w at = opens (suc d) (paren_goal (suc d) at (λ e. more_exp d low e k))
begin_exp d low k t.Minus w at = allowed (nat_le low 8) (opens (suc d) (unary_goal (suc d) u.Neg at (λ e. more_exp d low e k)))
begin_exp d low k t.Not w at = allowed (nat_le low 4) (opens (suc d) (unary_goal (suc d) u.Not at (λ e. more_exp d low e k)))
begin_exp d low k t.If w at = allowed (nat_le low 0) (opens (suc d) (if_goal (suc d) at (λ e. more_exp d low e k)))
begin_exp d low k sign w at = stuck

-- The right side of a comparison begins with `not`, or is a sum.
abbrev pub right_side_low : Sign → ℕ
right_side_low t.Not = 4
right_side_low sign = 6

-- whether a sign begins an item that begins with no expression
abbrev pub begins_item : Sign → Bool
begins_item t.OpenBrace = true
begins_item t.Loop = true
begins_item t.Raise = true
begins_item t.Assert = true
begins_item t.Exist = true
begins_item t.Let = true
begins_item t.Exception = true
begins_item t.Catch = true
begins_item t.Trap = true
begins_item t.Try = true
begins_item sign = false

-- an expression as an item
abbrev pub value_goal : ℕ → (Trace → Goal) → Goal
value_goal d k = an_exp d 0 (λ e. k (s.value e))

-- what follows the first sign of an item
abbrev pub braces_goal : ℕ → Span → (Trace → Goal) → Goal
braces_goal d at k = some_braced d (λ x q. k (s.braces x (across at q)))

abbrev pub loop_goal : ℕ → (Trace → Goal) → Goal
loop_goal d k = some_limits d (λ l. an_item d (λ x. k (s.loop l x)))

abbrev pub assert_goal : ℕ → (Trace → Goal) → Goal
assert_goal d k = an_exp d 0 (λ e. in_trace d (λ x. k (s.assert e x)))

abbrev pub exist_goal : ℕ → (Trace → Goal) → Goal
exist_goal d k = groups d t.In (λ gs. a_trace d (λ x. k (s.exist gs x)))

abbrev pub define_goal : ℕ → (Trace → Goal) → Goal
define_goal d k = a_macro d (λ m. in_trace d (λ x. k (s.define m x)))

abbrev pub exceptions_goal : ℕ → (Trace → Goal) → Goal
exceptions_goal d k = names (λ ns. in_trace d (λ x. k (s.exceptions ns x)))

abbrev pub catch_goal : ℕ → (Trace → Goal) → Goal
catch_goal d k = a_name (λ n. in_trace d (λ x. a_handler d (λ h. k (s.catch n x h))))

abbrev pub trap_goal : ℕ → (Trace → Goal) → Goal
trap_goal d k = a_name (λ n. in_trace d (λ x. a_handler d (λ h. k (s.trap n x h))))

abbrev pub try_goal : ℕ → (Trace → Goal) → Goal
try_goal d k = a_trace d (λ x. a_handler d (λ h. k (s.try x h)))

abbrev pub begin_item : ℕ → (Trace → Goal) → Sign → List ℕ → Span → Move
begin_item d k t.OpenBrace w at = opens (suc d) (braces_goal (suc d) at k)
begin_item d k t.Loop w at = opens (suc d) (loop_goal (suc d) k)
begin_item d k t.Raise w at = next (a_name (λ n. k (s.raise n)))
begin_item d k t.Assert w at = opens (suc d) (assert_goal (suc d) k)
begin_item d k t.Exist w at = opens (suc d) (exist_goal (suc d) k)
begin_item d k t.Let w at = opens (suc d) (define_goal (suc d) k)
begin_item d k t.Exception w at = opens (suc d) (exceptions_goal (suc d) k)
begin_item d k t.Catch w at = opens (suc d) (catch_goal (suc d) k)
begin_item d k t.Trap w at = opens (suc d) (trap_goal (suc d) k)
begin_item d k t.Try w at = opens (suc d) (try_goal (suc d) k)
begin_item d k sign w at = begin_exp d 0 (λ e. k (s.value e)) sign w at

abbrev pub begin_argument : ℕ → (Argument → Goal) → Sign → List ℕ → Span → Move
begin_argument d k t.OpenBrace w at = opens (suc d) (some_braced (suc d) (λ x q. k (s.trace_argument x (across at q))))
begin_argument d k sign w at = begin_exp d 0 (λ e. k (s.value_argument e)) sign w at

-- A token that begins an expression may begin a weight.
abbrev pub begin_alternative : Bool → ℕ → (Alternative → Goal) → Sign → List ℕ → Span → Move
begin_alternative true d k sign w at = begin_item d (λ x. more_items d (λ xs. k (s.unweighted (sequence_of x xs)))) sign w at
begin_alternative false d k sign w at = begin_exp d 0 (λ e. after_weight d e k) sign w at

-- An operator wants its right side.
abbrev pub operand : ℕ → BinOp → (Exp → Goal) → Move
operand d b.Implies k = opens (suc d) (an_exp (suc d) 1 k)
operand d b.Eq k = next (a_right_side d k)
operand d b.Ne k = next (a_right_side d k)
operand d b.Lt k = next (a_right_side d k)
operand d b.Le k = next (a_right_side d k)
operand d b.Gt k = next (a_right_side d k)
operand d b.Ge k = next (a_right_side d k)
operand d op k = next (an_exp d (suc (rank op)) k)

-- An operator extends an expression where it binds as tightly as wanted; then it has no place where it binds more tightly
-- than the expression lets it. What else comes isn't the expression's.
abbrev pub extend : Option BinOp → ℕ → ℕ → Exp → (Exp → Goal) → Move → Move
extend None d low x k skip = skip
extend (Some op) d low x k skip =
    if nat_lt (rank op) low then skip else (if nat_le (rank op) (top x) then operand d op (λ y. more_exp d low (s.binary op x y (across (span_of x) (span_of y))) k) else stuck)

-- one token
abbrev pub step : Goal → Sign → List ℕ → Span → Move
step (nothing_more x) sign w at = stuck
step (a_sign wanted k) sign w at = if sameb the_type wanted sign then next (k at) else stuck
step (a_name k) sign w at = begin_name k sign w at
step (an_exp d low k) sign w at = begin_exp d low k sign w at
step (more_exp d low x k) sign w at = extend (operator sign) d low x k (step (k x) sign w at)
step (a_right_side d k) sign w at = begin_exp d (right_side_low sign) k sign w at
step (after_name d n k) t.Open w at = opens (suc d) (some_arguments (suc d) (λ args. k (s.called n args)))
step (after_name d n k) sign w at = step (k (s.named n)) sign w at
step (some_arguments d k) t.Close w at = next (k s.no_arguments)
step (some_arguments d k) sign w at = begin_argument d (λ a. more_arguments d (λ more. k (s.argument a more))) sign w at
step (more_arguments d k) t.Close w at = next (k s.no_arguments)
step (more_arguments d k) t.Comma w at = next (an_argument d (λ a. more_arguments d (λ more. k (s.argument a more))))
step (more_arguments d k) sign w at = stuck
step (an_argument d k) sign w at = begin_argument d k sign w at
step (an_item d k) sign w at = begin_item d k sign w at
step (more_items d k) t.Fby w at = next (an_item d (λ x. more_items d (λ xs. k (s.one_trace x xs))))
step (more_items d k) sign w at = step (k s.no_traces) sign w at
step (a_handler d k) t.Do w at = next (a_trace d (λ x. k (s.a_trace x)))
step (a_handler d k) sign w at = step (k s.no_trace) sign w at
step (some_limits d k) t.OpenBracket w at = next (an_exp d 0 (λ e. a_sign t.Comma (λ p. an_exp d 0 (λ f. a_sign t.CloseBracket (λ q. k (s.between e f))))))
step (some_limits d k) t.Tilde w at = next (a_bound d (λ e. a_sign t.Colon (λ p. a_bound d (λ f. k (s.around e f)))))
step (some_limits d k) sign w at = step (k s.forever) sign w at
step (a_bound d k) t.Number w at = next (k (s.number (record { minus = false; text = w; span = at })))
step (a_bound d k) t.Name w at = next (k (s.named (record { text = w; span = at })))
step (a_bound d k) t.Open w at = opens (suc d) (paren_goal (suc d) at k)
step (a_bound d k) sign w at = stuck
step (some_braced d k) t.Bar w at = next (an_alternative d (λ p. more_alternatives d (λ ps q. k (s.choice true (s.alternative p ps)) q)))
step (some_braced d k) t.Priority w at = next (a_trace d (λ x. more_traces d t.Priority (λ xs q. k (s.priority true (s.one_trace x xs)) q)))
step (some_braced d k) t.Parallel w at = next (a_trace d (λ x. more_traces d t.Parallel (λ xs q. k (s.parallel true (s.one_trace x xs)) q)))
step (some_braced d k) sign w at = begin_item d (λ x. more_items d (λ xs. after_first d (sequence_of x xs) k)) sign w at
step (after_first d x k) t.CloseBrace w at = next (k (s.plain x) at)
step (after_first d x k) t.Bar w at = next (an_alternative d (λ p. more_alternatives d (λ ps q. k (s.choice false (s.alternative (s.unweighted x) (s.alternative p ps))) q)))
step (after_first d x k) t.Priority w at = next (a_trace d (λ y. more_traces d t.Priority (λ ys q. k (s.priority false (s.one_trace x (s.one_trace y ys))) q)))
step (after_first d x k) t.Parallel w at = next (a_trace d (λ y. more_traces d t.Parallel (λ ys q. k (s.parallel false (s.one_trace x (s.one_trace y ys))) q)))
step (after_first d x k) sign w at = stuck
step (an_alternative d k) sign w at = begin_alternative (begins_item sign) d k sign w at
step (after_weight d e k) t.Colon w at = next (a_trace d (λ x. k (s.weighted e x)))
step (after_weight d e k) t.Fby w at = next (an_item d (λ x. more_items d (λ xs. k (s.unweighted (s.sequence (s.one_trace (s.value e) (s.one_trace x xs)))))))
step (after_weight d e k) sign w at = step (k (s.unweighted (s.value e))) sign w at
step (more_alternatives d k) t.CloseBrace w at = next (k s.no_alternatives at)
step (more_alternatives d k) t.Bar w at = next (an_alternative d (λ p. more_alternatives d (λ ps q. k (s.alternative p ps) q)))
step (more_alternatives d k) sign w at = stuck
step (more_traces d wanted k) t.CloseBrace w at = next (k s.no_traces at)
step (more_traces d wanted k) sign w at = if sameb the_type wanted sign then next (a_trace d (λ x. more_traces d wanted (λ xs q. k (s.one_trace x xs) q))) else stuck
step (some_groups d k) t.Close w at = next (k s.no_groups)
step (some_groups d k) sign w at = begin_name (after_group_name d (λ g. more_groups d t.Close (λ gs. k (s.one_group g gs)))) sign w at
step (more_groups d end k) t.Semicolon w at = next (a_group d (λ g. more_groups d end (λ gs. k (s.one_group g gs))))
step (more_groups d end k) sign w at = if sameb the_type end sign then next (k s.no_groups) else stuck
step (more_names k) t.Comma w at = next (a_name (λ n. more_names (λ ns. k (n ∷ ns))))
step (more_names k) sign w at = step (k []) sign w at
step (a_type k) t.Bool w at = next (k ty.Bool)
step (a_type k) t.Int w at = next (k ty.Int)
step (a_type k) t.Real w at = next (k ty.Real)
step (a_type k) t.Trace w at = next (k ty.Trace)
step (a_type k) sign w at = stuck
step (a_ref k) t.Ref w at = next (k true)
step (a_ref k) sign w at = step (k false) sign w at
step (a_range k) t.OpenBracket w at = next (a_figure (λ low. a_sign t.Semicolon (λ p. a_figure (λ high. a_step (λ stride. a_sign t.CloseBracket (λ q. k (Some (record { low = low; high = high; step = stride }))))))))
step (a_range k) sign w at = step (k None) sign w at
step (a_step k) t.Semicolon w at = next (a_figure (λ f. k (Some f)))
step (a_step k) sign w at = step (k None) sign w at
step (a_figure k) t.Number w at = next (k (record { minus = false; text = w; span = at }))
step (a_figure k) t.Minus w at = next (a_digits at k)
step (a_figure k) sign w at = stuck
step (a_digits p k) t.Number w at = next (k (record { minus = true; text = w; span = across p at }))
step (a_digits p k) sign w at = stuck
step (a_list d k) t.Open w at = opens (suc d) (some_groups (suc d) k)
step (a_list d k) sign w at = stuck
step (a_first d k) t.Equal w at = next (an_exp d 0 (λ e. k (s.an_exp e)))
step (a_first d k) sign w at = step (k s.no_exp) sign w at
step (some_parameters d k) t.Open w at = opens (suc d) (some_groups (suc d) (λ gs. k (s.parameters gs)))
step (some_parameters d k) sign w at = step (k s.no_parameters) sign w at
step (some_expressions d k) t.Close w at = next (k [])
step (some_expressions d k) sign w at =
    begin_exp d 0 (λ e. more_expressions d (λ es. k (e ∷ es))) sign w at
step (more_expressions d k) t.Close w at = next (k [])
step (more_expressions d k) t.Comma w at =
    next (an_exp d 0 (λ e. more_expressions d (λ es. k (e ∷ es))))
step (more_expressions d k) sign w at = stuck
step (some_runs d k) t.Run w at =
    opens (suc (suc d))
    (run_goal (suc (suc d)) at (λ r. some_runs (suc d) (λ rs x. k (r ∷ rs) x)))
step (some_runs d k) sign w at =
    begin_item d (λ x. more_items d (λ xs. k [] (sequence_of x xs))) sign w at
step (declarations k) t.Node w at = next (node_goal (λ x. declarations (λ xs. k (x ∷ xs))))
step (declarations k) t.Let w at = next (a_macro 0 (λ m. declarations (λ xs. k (s.macro_declaration m ∷ xs))))
step (declarations k) t.Exception w at = next (names (λ ns. declarations (λ xs. k (s.exception_declaration ns ∷ xs))))
step (declarations k) sign w at = step (k []) sign w at

-- why reading stops, and how many tokens are left then
pub data Stop : Type 0 where
  unexpected : ℕ → Stop
  too_deep : ℕ → Stop

-- the end
abbrev pub finish : Goal → Result Tree Stop
finish (nothing_more x) = Ok x
finish (more_exp d low x k) = finish (k x)
finish (after_name d n k) = finish (k (s.named n))
finish (more_items d k) = finish (k s.no_traces)
finish (a_handler d k) = finish (k s.no_trace)
finish (some_limits d k) = finish (k s.forever)
finish (after_weight d e k) = finish (k (s.unweighted (s.value e)))
finish (more_names k) = finish (k [])
finish (a_ref k) = finish (k false)
finish (a_range k) = finish (k None)
finish (a_step k) = finish (k None)
finish (a_first d k) = finish (k s.no_exp)
finish (some_parameters d k) = finish (k s.no_parameters)
finish (declarations k) = finish (k [])
finish goal = Err (unexpected 0)

-- after a token, where at most so many levels may be open
abbrev pub onward : ℕ → Move → ℕ → (Goal → Result Tree Stop) → Result Tree Stop
onward most stuck left go = Err (unexpected (suc left))
onward most (next goal) left go = go goal
onward most (opens d goal) left go = if nat_le d most then go goal else Err (too_deep (suc left))

-- What is read, or where reading stops.
abbrev pub outcome : ℕ → Goal → Lexemes → Result Tree Stop
outcome most goal [] = finish goal
outcome most goal (lexeme sign w at ∷ us) = onward most (step goal sign w at) (length us) (λ goal'. outcome most goal' us)

-- Where tokens spell a tree of some kind within so many levels, reading for that kind gives it.
abbrev pub ReadsTheSpelled :
    {X : Type 0} → (ℕ → Lexemes → X → Type 0) → (X → Tree) → Goal → Type 0
ReadsTheSpelled {X} spells tree wanted =
    (most : ℕ) (ts : Lexemes) (x : X) → spells most ts x → outcome most wanted ts ≡ Ok (tree x)

-- What reading gives is spelled by the tokens.
abbrev pub ReadIsSpelled :
    {X : Type 0} → (ℕ → Lexemes → X → Type 0) → (X → Tree) → Goal → Type 0
ReadIsSpelled {X} spells tree wanted =
    (most : ℕ) (ts : Lexemes) (x : X) → outcome most wanted ts ≡ Ok (tree x) → spells most ts x

-- Reading stops for an unexpected token where so many are left exactly where so many follow from the first unexpected one on.
abbrev pub UnexpectedIsExact : {X : Type 0} → (ℕ → Lexemes → X → Type 0) → Goal → Type 0
UnexpectedIsExact spells wanted =
    (ts : Lexemes) (left : ℕ) → outcome most_levels wanted ts ≡ Err (unexpected left)
    ↔ ((rest : Lexemes) × (length rest ≡ left) × IsUnexpected spells ts rest)

-- Reading stops for a level too many where so many are left exactly where so many follow from the token on that opens it.
abbrev pub TooDeepIsExact : {X : Type 0} → (ℕ → Lexemes → X → Type 0) → Goal → Type 0
TooDeepIsExact spells wanted =
    (ts : Lexemes) (left : ℕ) → outcome most_levels wanted ts ≡ Err (too_deep left)
    ↔ ((token : Lexeme) × (rest : Lexemes) × (suc (length rest) ≡ left)
    × IsTooDeep spells ts token rest)

-- The rules that a program breaks, in the order of its text: the first of them is the answer, and of the rest only that
-- there are none counts. A name that is declared, a name that is used, and each part of a construct come at their places;
-- the construct's own rules come after its parts, the one with the smaller place first. An `assert` judges its condition's
-- type after its trace; a weight, a bound, an item and a macro's body are judged right after their own expression; a range
-- by the types of its literals, then their sizes, then the order of its ends, then its step; the number of arguments before
-- their types. A run has its names, the name of its node and its arguments as parts. A rule that needs the type of an
-- expression is judged only where the expression has one. A list that is named by a rule holds the refusals where the rule
-- is broken.
use Rattle.std.specs.Prelude.{ℕ, nat_le, nat_eq, length, Bool, true, false, not, ◌&&◌, List, [], ◌∷◌, ◌++◌, unsigned_abs, int_lt, pos, option_map, is_none}
use Rattle.std.specs.declared.option.Option.{Option}
use Rattle.std.specs.declared.option.Option.TheVariants.{None, Some}
use Rattle.lt_ast.specs.declared.span.Span.{Span}
use Rattle.lt_ast.specs.declared.group.TypeName.{TypeName}
use Rattle.lt_ast.specs.declared.group.TypeName.TheVariants as t
use Rattle.lt_ast.specs.Syntax as s
use Rattle.lt_ast.specs.Syntax.{Word, Figure, WrittenRange, Exp, Argument, Arguments, Limits, Braces, Alternative, Alternatives, Trace, Traces, Grouping, Groupings, MaybeExp, MaybeTrace, Parameters, Meaning, Macro, Run, Declaration}
use Rattle.lt_ast.specs.Literals.{figure_type}
use Rattle.lt_ast.specs.Places.{span_of}
use Rattle.lt_num.specs.Bounds.{most_raw}
use Rattle.lt_types.specs.Environment.{Parameter, by_value, by_ref, Entry, variable, parameter, macro, Input, Node, Environment, at_start, found, found_node, node_names, is_among, with_names, Role, inputs, variables, parameters, with_group, with_groups, with_group_names, with_groups_names, with_parameters, with_macro, with_run, with_runs, with_exceptions, with_declaration, with_inputs_and_outputs, TypedName, with_variables_alone}
use Rattle.lt_types.specs.Operators.{is_value, same_type, serves_as, unary_takes, binary_takes, unary_gives, binary_gives}
use Rattle.lt_types.specs.Literal.{raw_of}
use Rattle.lt_types.specs.Typing.{may_be_written, has_node}
use Rattle.lt_types.specs.declared.refusal.TypeRefusal.{TypeRefusal}
use Rattle.lt_types.specs.declared.refusal.TypeRefusal.TheVariants.{Unknown, Twice, Mismatch, Arity, PreOfExpression, EmptyRange, RangeTooLarge, NoNode, BadStep}

-- this refusal, where the test fails
abbrev pub unless : Bool → TypeRefusal → List TypeRefusal
unless true refusal = []
unless false refusal = refusal ∷ []

-- the first of two lists that isn't empty, if one isn't
abbrev pub first_nonempty : List TypeRefusal → List TypeRefusal → List TypeRefusal
first_nonempty [] others = others
first_nonempty (r ∷ rs) others = r ∷ rs

-- the type of what a name stands for
abbrev pub entry_type : Entry → TypeName
entry_type (variable k) = k
entry_type (parameter k) = k
entry_type (macro ps k) = k

-- The type of an expression, read off its left operand or its first branch; none where a name on that way is unknown. It is
-- the type wherever the expression breaks no rule.
abbrev pub type_of : Environment → Exp → Option TypeName
type_of env (s.number f) = Some (figure_type f)
type_of env (s.flag b at) = Some t.Bool
type_of env (s.named w) = option_map entry_type (found env.names w.text)
type_of env (s.called w args) = option_map entry_type (found env.names w.text)
type_of env (s.pre w at) = option_map entry_type (found env.names w.text)
type_of env (s.paren e at) = type_of env e
type_of env (s.unary op e at) = option_map (unary_gives op) (type_of env e)
type_of env (s.binary op e f at) = option_map (binary_gives op) (type_of env e)
type_of env (s.choose c e f at) = type_of env e

-- an expression that has a type has one that passes the test
abbrev pub typed : (TypeName → Bool) → Option TypeName → Span → List TypeRefusal
typed test None at = []
typed test (Some k) at = unless (test k) (Mismatch at)

-- an expression that has a type has this one
abbrev pub wanted : TypeName → Environment → Exp → List TypeRefusal
wanted kind env e = typed (λ k. same_type k kind) (type_of env e) (span_of e)

-- an operator takes the types of its operands, which are one
abbrev pub operands : (TypeName → Bool) → Option TypeName → Option TypeName → Span → List TypeRefusal
operands takes None right at = []
operands takes (Some k) right at = typed (λ other. same_type other k && takes k) right at

-- an `if` has a Boolean condition, and branches of one type
abbrev pub branches : Option TypeName → Option TypeName → Option TypeName → Span → List TypeRefusal
branches None left right at = []
branches (Some k) left right at = first_nonempty (unless (same_type k t.Bool) (Mismatch at)) (operands is_value left right at)

-- a name that is used is known
abbrev pub known : Word → Option Entry → List TypeRefusal
known w None = Unknown w.span ∷ []
known w (Some entry) = []

-- a name alone isn't that of a macro with parameters
abbrev pub alone : Word → Option Entry → List TypeRefusal
alone w None = []
alone w (Some (variable k)) = []
alone w (Some (parameter k)) = []
alone w (Some (macro [] k)) = []
alone w (Some (macro (p ∷ ps) k)) = Arity w.span ∷ []

-- a name after `pre` is that of a variable
abbrev pub behind_pre : Word → Option Entry → List TypeRefusal
behind_pre w None = []
behind_pre w (Some (variable k)) = []
behind_pre w (Some (parameter k)) = PreOfExpression w.span ∷ []
behind_pre w (Some (macro ps k)) = PreOfExpression w.span ∷ []

-- the name of an exception is known
abbrev pub known_exception : Environment → Word → List TypeRefusal
known_exception env w = unless (is_among w.text env.exceptions) (Unknown w.span)

-- each of these names is neither taken nor a second one
abbrev pub new_names : List (List ℕ) → List Word → List TypeRefusal
new_names taken [] = []
new_names taken (w ∷ ws) = unless (not (is_among w.text taken)) (Twice w.span) ++ new_names (w.text ∷ taken) ws

-- a name stands for a variable of this type
abbrev pub is_variable_entry : Option Entry → TypeName → Bool
is_variable_entry None kind = false
is_variable_entry (Some (variable k)) kind = same_type k kind
is_variable_entry (Some (parameter k)) kind = false
is_variable_entry (Some (macro ps k)) kind = false

-- an expression is the name of a variable of this type
abbrev pub is_variable : Environment → Exp → TypeName → Bool
is_variable env (s.named w) kind = is_variable_entry (found env.names w.text) kind
is_variable env e kind = false

-- an argument is of the type of its parameter, or a Boolean for a trace, and for one by `ref` the name of a variable
abbrev pub argument_misfit : Environment → Argument → Parameter → List TypeRefusal
argument_misfit env (s.value_argument e) (by_value kind) = typed (λ k. serves_as k kind) (type_of env e) (span_of e)
argument_misfit env (s.value_argument e) (by_ref kind) = unless (is_variable env e kind) (Mismatch (span_of e))
argument_misfit env (s.trace_argument b at) (by_value kind) = unless (same_type kind t.Trace) (Mismatch at)
argument_misfit env (s.trace_argument b at) (by_ref kind) = Mismatch at ∷ []

-- arguments for parameters, as far as both go
abbrev pub arguments_misfit : Environment → Arguments → List Parameter → List TypeRefusal
arguments_misfit env s.no_arguments ps = []
arguments_misfit env (s.argument a rest) [] = []
arguments_misfit env (s.argument a rest) (p ∷ ps) = argument_misfit env a p ++ arguments_misfit env rest ps

-- there are as many arguments as parameters
abbrev pub as_many : Arguments → List Parameter → Bool
as_many s.no_arguments [] = true
as_many s.no_arguments (p ∷ ps) = false
as_many (s.argument a rest) [] = false
as_many (s.argument a rest) (p ∷ ps) = as_many rest ps

-- a name with arguments is that of a macro, which has as many parameters, and each argument is as its parameter wants it
abbrev pub applied : Environment → Word → Arguments → Option Entry → List TypeRefusal
applied env w args None = []
applied env w args (Some (variable k)) = Arity w.span ∷ []
applied env w args (Some (parameter k)) = Arity w.span ∷ []
applied env w args (Some (macro ps k)) = unless (as_many args ps) (Arity w.span) ++ arguments_misfit env args ps

-- an end of a range is a literal of the type
abbrev pub end_type : TypeName → Figure → List TypeRefusal
end_type kind f = unless (same_type (figure_type f) kind) (Mismatch f.span)

-- so is the step of a range, where it has one
abbrev pub step_type : TypeName → Option Figure → List TypeRefusal
step_type kind None = []
step_type kind (Some f) = end_type kind f

-- an end of a range is a number within bounds
abbrev pub end_size : ℕ → Figure → List TypeRefusal
end_size decimals f = unless (nat_le (unsigned_abs (raw_of decimals f)) most_raw) (RangeTooLarge f.span)

-- so is the step of a range, where it has one
abbrev pub step_size : ℕ → Option Figure → List TypeRefusal
step_size decimals None = []
step_size decimals (Some f) = end_size decimals f

-- the low end of a range isn't over the high one
abbrev pub in_order : ℕ → WrittenRange → List TypeRefusal
in_order decimals range = unless (not (int_lt (raw_of decimals range.high) (raw_of decimals range.low))) (EmptyRange range.low.span)

-- a step leads on: its raw number, once it is rounded, is at least 1
abbrev pub leads_on : ℕ → Figure → List TypeRefusal
leads_on decimals f = unless (not (int_lt (raw_of decimals f) (pos 1))) (BadStep f.span)

-- the step of a range leads on, where it has one
abbrev pub step_on : ℕ → Option Figure → List TypeRefusal
step_on decimals None = []
step_on decimals (Some f) = leads_on decimals f

-- a range of numbers of a type: all its literals are of the type, then all are within bounds, then its ends are in order, then
-- its step leads on
abbrev pub range_of : ℕ → TypeName → WrittenRange → List TypeRefusal
range_of decimals kind range =
    first_nonempty (end_type kind range.low ++ (end_type kind range.high ++ step_type kind range.step))
    (first_nonempty (end_size decimals range.low ++ (end_size decimals range.high ++ step_size decimals range.step))
    (first_nonempty (in_order decimals range) (step_on decimals range.step)))

-- the range of a group of this type; of other types it isn't judged
abbrev pub range_refusals : ℕ → TypeName → Option WrittenRange → List TypeRefusal
range_refusals decimals kind None = []
range_refusals decimals t.Int (Some range) = range_of 0 t.Int range
range_refusals decimals t.Real (Some range) = range_of decimals t.Real range
range_refusals decimals kind (Some range) = []

-- the place of the first name; a written group has one
abbrev pub first_place : List Word → Span
first_place [] = record { start = 0; end = 0 }
first_place (w ∷ ws) = w.span

-- a first value, if there is one, is of the type
abbrev pub first_wanted : TypeName → Environment → MaybeExp → List TypeRefusal
first_wanted kind env s.no_exp = []
first_wanted kind env (s.an_exp e) = wanted kind env e

abbrev mutual
  -- an expression
  pub exp_refusals : Environment → Exp → List TypeRefusal
  exp_refusals env (s.number f) = []
  exp_refusals env (s.flag b at) = []
  exp_refusals env (s.named w) = known w (found env.names w.text) ++ alone w (found env.names w.text)
  exp_refusals env (s.called w args) = known w (found env.names w.text) ++ (arguments_refusals env args ++ applied env w args (found env.names w.text))
  exp_refusals env (s.pre w at) = known w (found env.names w.text) ++ behind_pre w (found env.names w.text)
  exp_refusals env (s.paren e at) = exp_refusals env e
  exp_refusals env (s.unary op e at) = exp_refusals env e ++ typed (unary_takes op) (type_of env e) at
  exp_refusals env (s.binary op e f at) = exp_refusals env e ++ (exp_refusals env f ++ operands (binary_takes op) (type_of env e) (type_of env f) at)
  exp_refusals env (s.choose c e f at) = exp_refusals env c ++ (exp_refusals env e ++ (exp_refusals env f ++ branches (type_of env c) (type_of env e) (type_of env f) at))

  -- an argument
  pub argument_refusals : Environment → Argument → List TypeRefusal
  argument_refusals env (s.value_argument e) = exp_refusals env e
  argument_refusals env (s.trace_argument b at) = braces_refusals env b

  -- arguments
  pub arguments_refusals : Environment → Arguments → List TypeRefusal
  arguments_refusals env s.no_arguments = []
  arguments_refusals env (s.argument a rest) = argument_refusals env a ++ arguments_refusals env rest

  -- the bounds of a loop
  pub limits_refusals : Environment → Limits → List TypeRefusal
  limits_refusals env s.forever = []
  limits_refusals env (s.between e f) = exp_refusals env e ++ (wanted t.Int env e ++ (exp_refusals env f ++ wanted t.Int env f))
  limits_refusals env (s.around e f) = exp_refusals env e ++ (wanted t.Int env e ++ (exp_refusals env f ++ wanted t.Int env f))

  -- what stands in braces
  pub braces_refusals : Environment → Braces → List TypeRefusal
  braces_refusals env (s.plain x) = trace_refusals env x
  braces_refusals env (s.choice lead ps) = alternatives_refusals env ps
  braces_refusals env (s.priority lead xs) = traces_refusals env xs
  braces_refusals env (s.parallel lead xs) = traces_refusals env xs

  -- an alternative of a choice
  pub alternative_refusals : Environment → Alternative → List TypeRefusal
  alternative_refusals env (s.unweighted x) = trace_refusals env x
  alternative_refusals env (s.weighted e x) = exp_refusals env e ++ (wanted t.Int env e ++ trace_refusals env x)

  -- alternatives
  pub alternatives_refusals : Environment → Alternatives → List TypeRefusal
  alternatives_refusals env s.no_alternatives = []
  alternatives_refusals env (s.alternative p ps) = alternative_refusals env p ++ alternatives_refusals env ps

  -- traces
  pub traces_refusals : Environment → Traces → List TypeRefusal
  traces_refusals env s.no_traces = []
  traces_refusals env (s.one_trace x xs) = trace_refusals env x ++ traces_refusals env xs

  -- a group: its names, its range, its first value, and then what the group may not be
  pub group_refusals : Role → Environment → List (List ℕ) → Grouping → List TypeRefusal
  group_refusals role env taken (s.grouping ws kind ref range first) =
      new_names taken ws ++ (range_refusals env.decimals kind range ++ (first_refusals env first ++ (unless (may_be_written role kind ref range first) (Mismatch (first_place ws)) ++ first_wanted kind env first)))

  -- groups, where these names stand before in the same list
  pub groups_refusals : Role → Environment → List (List ℕ) → Groupings → List TypeRefusal
  groups_refusals role env taken s.no_groups = []
  groups_refusals role env taken (s.one_group g gs) = group_refusals role env taken g ++ groups_refusals role (with_group role env g) (with_group_names g taken) gs

  -- a first value, if there is one
  pub first_refusals : Environment → MaybeExp → List TypeRefusal
  first_refusals env s.no_exp = []
  first_refusals env (s.an_exp e) = exp_refusals env e

  -- the `do` part, if there is one
  pub handler_refusals : Environment → MaybeTrace → List TypeRefusal
  handler_refusals env s.no_trace = []
  handler_refusals env (s.a_trace x) = trace_refusals env x

  -- the parameters of a macro, if it has any
  pub parameters_refusals : Environment → Parameters → List TypeRefusal
  parameters_refusals env s.no_parameters = []
  parameters_refusals env (s.parameters gs) = groups_refusals parameters env [] gs

  -- what a macro of a type stands for
  pub meaning_refusals : Environment → TypeName → Meaning → List TypeRefusal
  meaning_refusals env kind (s.trace_meaning x) = trace_refusals env x
  meaning_refusals env kind (s.value_meaning e) = exp_refusals env e ++ wanted kind env e

  -- a macro
  pub macro_refusals : Environment → Macro → List TypeRefusal
  macro_refusals env (s.macro w ps kind m) = parameters_refusals env ps ++ meaning_refusals (with_parameters env ps) kind m

  -- a trace
  pub trace_refusals : Environment → Trace → List TypeRefusal
  trace_refusals env (s.sequence xs) = traces_refusals env xs
  trace_refusals env (s.braces b at) = braces_refusals env b
  trace_refusals env (s.loop l x) = limits_refusals env l ++ trace_refusals env x
  trace_refusals env (s.raise w) = known_exception env w
  trace_refusals env (s.assert e x) = exp_refusals env e ++ (trace_refusals env x ++ wanted t.Bool env e)
  trace_refusals env (s.exist gs x) = groups_refusals variables env [] gs ++ trace_refusals (with_groups variables env gs) x
  trace_refusals env (s.define m x) = macro_refusals env m ++ trace_refusals (with_macro env m) x
  trace_refusals env (s.exceptions ws x) = new_names [] ws ++ trace_refusals (with_exceptions env ws) x
  trace_refusals env (s.catch w x h) = known_exception env w ++ (trace_refusals env x ++ handler_refusals env h)
  trace_refusals env (s.trap w x h) = trace_refusals (with_exceptions env (w ∷ [])) x ++ handler_refusals (with_exceptions env (w ∷ [])) h
  trace_refusals env (s.try x h) = trace_refusals env x ++ handler_refusals env h
  trace_refusals env (s.value e) = exp_refusals env e ++ typed (λ k. serves_as k t.Trace) (type_of env e) (span_of e)

-- the node that is run is known
abbrev pub known_node : Word → Option Node → List TypeRefusal
known_node w None = Unknown w.span ∷ []
known_node w (Some n) = []

-- expressions in turn
abbrev pub exps_refusals : Environment → List Exp → List TypeRefusal
exps_refusals env [] = []
exps_refusals env (e ∷ es) = exp_refusals env e ++ exps_refusals env es

-- an expression is of the type of the input that it is given for, and no range is written for that
abbrev pub given_misfit : Environment → Exp → Input → List TypeRefusal
given_misfit env e i = typed (λ k. same_type k i.kind && not i.ranged) (type_of env e) (span_of e)

-- expressions that are given for inputs, as far as both go
abbrev pub all_given_misfit : Environment → List Exp → List Input → List TypeRefusal
all_given_misfit env [] js = []
all_given_misfit env (e ∷ es) [] = []
all_given_misfit env (e ∷ es) (i ∷ js) = given_misfit env e i ++ all_given_misfit env es js

-- a node that is run has as many outputs as there are names, and as many inputs as there are arguments
abbrev pub counts_agree : Run → Node → Bool
counts_agree r n =
    nat_eq (length r.names) (length n.outputs) && nat_eq (length r.arguments) (length n.inputs)

-- what a run asks of the node that it runs
abbrev pub applied_node : Environment → Run → Option Node → List TypeRefusal
applied_node env r None = []
applied_node env r (Some n) =
    unless (counts_agree r n) (Arity r.node.span) ++ all_given_misfit env r.arguments n.inputs

-- a run, where these names are taken
abbrev pub run_refusals : Environment → List (List ℕ) → Run → List TypeRefusal
run_refusals env taken r =
    let node = found_node env.nodes r.node.text in
    new_names taken r.names
    ++ (known_node r.node node ++ (exps_refusals env r.arguments ++ applied_node env r node))

-- runs, each of which sees the names of those before it
abbrev pub runs_refusals : Environment → List (List ℕ) → List Run → List TypeRefusal
runs_refusals env taken [] = []
runs_refusals env taken (r ∷ rs) =
    run_refusals env taken r ++ runs_refusals (with_run env r) (with_names r.names taken) rs

-- no macro of the text before has the macro's name
abbrev pub new_macro : Environment → Macro → List TypeRefusal
new_macro env (s.macro w ps kind m) = unless (is_none (found env.names w.text)) (Twice w.span)

-- a declaration of a text, after those before it
abbrev pub declaration_refusals : Environment → Declaration → List TypeRefusal
declaration_refusals env (s.node w ins outs rs x) =
    let inside = with_inputs_and_outputs env ins outs in
    new_names (node_names env.nodes) (w ∷ [])
    ++ (groups_refusals inputs env [] ins
    ++ (groups_refusals variables (with_groups inputs env ins) (with_groups_names ins []) outs
    ++ (runs_refusals inside (with_groups_names outs (with_groups_names ins [])) rs
    ++ trace_refusals (with_runs inside rs) x)))
declaration_refusals env (s.macro_declaration m) = new_macro env m ++ macro_refusals env m
declaration_refusals env (s.exception_declaration ws) = new_names env.exceptions ws

-- the declarations of a text
abbrev pub declarations_refusals : Environment → List Declaration → List TypeRefusal
declarations_refusals env [] = []
declarations_refusals env (d ∷ ds) = declaration_refusals env d ++ declarations_refusals (with_declaration env d) ds

-- the rules that a text breaks; that it has no node is the last
abbrev pub type_refusals : ℕ → List Declaration → List TypeRefusal
type_refusals decimals ds = declarations_refusals (at_start decimals) ds ++ unless (has_node ds) NoNode

-- the rules that an expression over variables alone breaks, which is to be a Boolean
abbrev pub condition_refusals : ℕ → List TypedName → Exp → List TypeRefusal
condition_refusals decimals vs e =
    let env = with_variables_alone decimals vs in
    exp_refusals env e ++ wanted t.Bool env e

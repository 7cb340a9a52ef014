-- What phrases of a text stand for: names are replaced by what they mean where they were written, macros by what they make of
-- their arguments, and parts are numbered in preorder, the whole before its parts and these from left to right.
use Rattle.std.specs.Prelude.{ℕ, suc, List, [], ◌∷◌, ◌++◌, map}
use Rattle.std.specs.declared.option.Option.{Option}
use Rattle.std.specs.declared.option.Option.TheVariants.{None, Some}
use Rattle.lt_ast.specs.declared.group.TypeName.{TypeName}
use Rattle.lt_ast.specs.declared.span.Span.{Span}
use Rattle.lt_ast.specs.Syntax as s
use Rattle.lt_ast.specs.Syntax.{Word, WrittenRange, Exp, Argument, Arguments, Limits, Braces, Alternative, Alternatives, Trace, Traces, Grouping, Groupings, MaybeExp, MaybeTrace, Parameters, Meaning, Macro}
use Rattle.lt_num.specs.declared.kind.Kind.TheVariants as kind
use Rattle.lt_num.specs.declared.value.Value.TheVariants as value
use Rattle.lt_formula.specs.declared.role.Role.{Role}
use Rattle.lt_formula.specs.declared.role.Role.TheVariants as role
use Rattle.lt_macros.specs.Placed as p
use Rattle.lt_macros.specs.Placed.{Placed, meaningless, unwritten_weight}
use Rattle.lt_macros.specs.Expanded as x
use Rattle.lt_macros.specs.Expanded.{Declared, Exception, Bounds, between, around, Expanded, Parts, no_part, part}
use Rattle.lt_macros.specs.Environment.{Binding, variable, parameter, macro, Raised, deadlock, declared, Environment, found, found_exception, with_name, with_arguments, with_exceptions}
use Rattle.lt_macros.specs.Literals.{kind_of, number_at, range_of, unary_operator, binary_operator}

-- how many terms stand before a place of the expansion, and how many of them declare a local or have a counter: the next ones
-- get these as their numbers
pub record Numbers : Type 0 where
  pub term : ℕ
  pub local : ℕ
  pub counter : ℕ

-- one more term stands before
abbrev pub behind_term : Numbers → Numbers
behind_term n = record n { term = suc n.term }

-- one that declares a local
abbrev pub behind_local : Numbers → Numbers
behind_local n = record n { term = suc n.term; local = suc n.local }

-- one that has a counter
abbrev pub behind_counter : Numbers → Numbers
behind_counter n = record n { term = suc n.term; counter = suc n.counter }

-- a trace, and the numbers behind it
pub record ExpandedTrace : Type 0 where
  pub expanded : Expanded
  pub after : Numbers

-- traces to choose from, and the numbers behind them
pub record ExpandedParts : Type 0 where
  pub parts : Parts
  pub after : Numbers

-- the denotation of a phrase: an expression, or a trace, which is numbered wherever it is put
pub data Denotation : Type 0 where
  expression : Placed → Denotation
  trace : (Numbers → ExpandedTrace) → Denotation

-- as an expression
abbrev pub as_expression : Denotation → Placed
as_expression (expression e) = e
as_expression (trace f) = meaningless

-- a term without parts
abbrev pub alone : Expanded → Numbers → ExpandedTrace
alone x n = record { expanded = x; after = behind_term n }

-- as a trace: an expression is a constraint of one instant
abbrev pub as_trace : Denotation → Numbers → ExpandedTrace
as_trace (expression e) n = alone (x.con e) n
as_trace (trace f) n = f n

-- Names.

-- what a name stands for at this place, with such arguments
abbrev pub standing_for : Span → Option (Binding Denotation) → List Denotation → Denotation
standing_for at None ss = expression meaningless
standing_for at (Some (variable r i)) ss = expression (p.variable r i at)
standing_for at (Some (parameter denotation)) ss = denotation
standing_for at (Some (macro f)) ss = f ss

-- what it was in the instant before: only a variable had a value
abbrev pub before : Span → Denotation → Denotation
before at (expression (p.variable r i there)) = expression (p.previous r i at)
before at other = expression meaningless

-- the names of a group
abbrev pub group_names : Grouping → List (List ℕ)
group_names (s.grouping ws kind ref range first) = map (λ w. w.text) ws

-- the names of groups
abbrev pub groups_names : Groupings → List (List ℕ)
groups_names s.no_groups = []
groups_names (s.one_group g gs) = group_names g ++ groups_names gs

-- the names of a macro's parameters
abbrev pub parameter_names : Parameters → List (List ℕ)
parameter_names s.no_parameters = []
parameter_names (s.parameters gs) = groups_names gs

-- the name of a macro
abbrev pub macro_name : Macro → List ℕ
macro_name (s.macro w ps kind m) = w.text

-- the variable of a role that a name declares
abbrev pub declared_as : Role → Environment Denotation → TypeName → Option WrittenRange → Option Placed → Word → Declared
declared_as r env type range first w = record { name = w.text; kind = kind_of type; range = range_of env.decimals r (kind_of type) range; first = first }

-- Traces out of parts.

-- nothing
abbrev pub empty : Numbers → ExpandedTrace
empty n = alone x.eps n

-- a trace of one part
abbrev pub around_one : (Expanded → Expanded) → ExpandedTrace → ExpandedTrace
around_one f inside = record { expanded = f inside.expanded; after = inside.after }

-- of two parts, the second of which is numbered behind the first
abbrev pub joined : (Expanded → Expanded → Expanded) → ExpandedTrace → ExpandedTrace → ExpandedTrace
joined f first second = record { expanded = f first.expanded second.expanded; after = second.after }

-- a trace of two parts, where the second one is still to be numbered
abbrev pub around_two : (Expanded → Expanded → Expanded) → ExpandedTrace → (Numbers → ExpandedTrace) → ExpandedTrace
around_two f first second = joined f first (second first.after)

-- an alternative before others, which are numbered behind it
abbrev pub part_before : Placed → ExpandedTrace → ExpandedParts → ExpandedParts
part_before weight first rest = record { parts = part weight first.expanded rest.parts; after = rest.after }

-- an alternative before others, where these are still to be numbered
abbrev pub before_parts : Placed → ExpandedTrace → (Numbers → ExpandedParts) → ExpandedParts
before_parts weight first rest = part_before weight first (rest first.after)

-- one of these
abbrev pub chosen : ExpandedParts → ExpandedTrace
chosen ps = record { expanded = x.any ps.parts; after = ps.after }

-- a trace over and over: without end, or as often as a new counter says
abbrev pub repeated : Option Bounds → (Numbers → ExpandedTrace) → Numbers → ExpandedTrace
repeated None body n = around_one x.loop (body (behind_term n))
repeated (Some bounds) body n = around_one (x.count n.counter bounds) (body (behind_counter n))

-- an exception is raised; `Deadlock` is a deadlock
abbrev pub raised_as : Raised → Expanded
raised_as deadlock = x.dead
raised_as (declared z) = x.raise z

-- an exception is caught; `Deadlock` is caught where nothing can be done
abbrev pub caught_as : Raised → Expanded → Expanded → Expanded
caught_as deadlock = x.try
caught_as (declared z) = x.catch z

-- a trace with locals of these names, each inside the one before; what is declared of a name is given
abbrev pub in_locals : (Word → Declared) → List Word → Environment Denotation → (Environment Denotation → Numbers → ExpandedTrace) → Numbers → ExpandedTrace
in_locals declares [] env body n = body env n
in_locals declares (w ∷ ws) env body n =
    around_one (x.exist n.local (declares w)) (in_locals declares ws (with_name w.text (variable role.Local n.local) env) body (behind_local n))

-- a trace with new exceptions of these names
abbrev pub in_exceptions : List Word → Environment Denotation → (Environment Denotation → Numbers → ExpandedTrace) → Numbers → ExpandedTrace
in_exceptions ws env body n = body (with_exceptions n.term ws env) n

-- a trace and its handler, inside what a name of an exception stands for
abbrev pub caught : Word → Environment Denotation → (Environment Denotation → Numbers → ExpandedTrace) → (Environment Denotation → Numbers → ExpandedTrace) → Numbers → ExpandedTrace
caught w env body handler n = around_two (caught_as (found_exception env.exceptions w.text)) (body env (behind_term n)) (handler env)

-- The denotations, a line for each construct.
abbrev mutual
  -- an expression
  pub exp_denotation : Environment Denotation → Exp → Denotation
  exp_denotation env (s.number f) = expression (number_at env.decimals f)
  exp_denotation env (s.flag b at) = expression (p.constant kind.Bool (value.Bool b) at)
  exp_denotation env (s.named w) = standing_for w.span (found env.names w.text) []
  exp_denotation env (s.called w args) = standing_for w.span (found env.names w.text) (argument_denotations env args)
  exp_denotation env (s.pre w at) = before at (standing_for w.span (found env.names w.text) [])
  exp_denotation env (s.paren e at) = exp_denotation env e
  exp_denotation env (s.unary op e at) = expression (p.unary (unary_operator op) (as_expression (exp_denotation env e)) at)
  exp_denotation env (s.binary op d e at) = expression (p.binary (binary_operator op) (as_expression (exp_denotation env d)) (as_expression (exp_denotation env e)) at)
  exp_denotation env (s.choose c d e at) = expression (p.choice (as_expression (exp_denotation env c)) (as_expression (exp_denotation env d)) (as_expression (exp_denotation env e)) at)

  -- an argument
  pub argument_denotation : Environment Denotation → Argument → Denotation
  argument_denotation env (s.value_argument e) = exp_denotation env e
  argument_denotation env (s.trace_argument b at) = braces_denotation env b

  -- arguments
  pub argument_denotations : Environment Denotation → Arguments → List Denotation
  argument_denotations env s.no_arguments = []
  argument_denotations env (s.argument a rest) = argument_denotation env a ∷ argument_denotations env rest

  -- the bounds of a loop, where it has some
  pub bounds_of : Environment Denotation → Limits → Option Bounds
  bounds_of env s.forever = None
  bounds_of env (s.between d e) = Some (between (as_expression (exp_denotation env d)) (as_expression (exp_denotation env e)))
  bounds_of env (s.around d e) = Some (around (as_expression (exp_denotation env d)) (as_expression (exp_denotation env e)))

  -- what stands in braces; one trace alone is itself
  pub braces_denotation : Environment Denotation → Braces → Denotation
  braces_denotation env (s.plain t) = trace_denotation env t
  braces_denotation env (s.choice lead ps) = trace (λ n. chosen (parts_of env ps (behind_term n)))
  braces_denotation env (s.priority lead ts) = traces_denotation env x.pri ts
  braces_denotation env (s.parallel lead ts) = traces_denotation env x.par ts

  -- the weight of an alternative
  pub weight_of : Environment Denotation → Alternative → Placed
  weight_of env (s.unweighted t) = unwritten_weight
  weight_of env (s.weighted e t) = as_expression (exp_denotation env e)

  -- the trace of an alternative
  pub alternative_denotation : Environment Denotation → Alternative → Denotation
  alternative_denotation env (s.unweighted t) = trace_denotation env t
  alternative_denotation env (s.weighted e t) = trace_denotation env t

  -- the alternatives of a choice
  pub parts_of : Environment Denotation → Alternatives → Numbers → ExpandedParts
  parts_of env s.no_alternatives n = record { parts = no_part; after = n }
  parts_of env (s.alternative a rest) n = before_parts (weight_of env a) (as_trace (alternative_denotation env a) n) (parts_of env rest)

  -- traces, the first joined so with those behind it
  pub traces_denotation : Environment Denotation → (Expanded → Expanded → Expanded) → Traces → Denotation
  traces_denotation env f s.no_traces = trace empty
  traces_denotation env f (s.one_trace t s.no_traces) = trace_denotation env t
  traces_denotation env f (s.one_trace t (s.one_trace u us)) = trace (λ n. around_two f (as_trace (trace_denotation env t) (behind_term n)) (as_trace (traces_denotation env f (s.one_trace u us))))

  -- the first value of a group, where it has one
  pub first_of : Environment Denotation → MaybeExp → Option Placed
  first_of env s.no_exp = None
  first_of env (s.an_exp e) = Some (as_expression (exp_denotation env e))

  -- a trace with locals of a group; their first value doesn't see them
  pub in_group : Environment Denotation → Grouping → (Environment Denotation → Numbers → ExpandedTrace) → Numbers → ExpandedTrace
  in_group env (s.grouping ws type ref range first) body = in_locals (declared_as role.Local env type range (first_of env first)) ws env body

  -- a trace with locals of groups, each of which sees the ones before it
  pub in_groups : Environment Denotation → Groupings → (Environment Denotation → Numbers → ExpandedTrace) → Numbers → ExpandedTrace
  in_groups env s.no_groups body = body env
  in_groups env (s.one_group g gs) body = in_group env g (λ inner. in_groups inner gs body)

  -- the `do` part: nothing where there is none
  pub handler_denotation : Environment Denotation → MaybeTrace → Denotation
  handler_denotation env s.no_trace = trace empty
  handler_denotation env (s.a_trace t) = trace_denotation env t

  -- what a macro stands for
  pub meaning_denotation : Environment Denotation → Meaning → Denotation
  meaning_denotation env (s.trace_meaning t) = trace_denotation env t
  meaning_denotation env (s.value_meaning e) = exp_denotation env e

  -- a macro with such arguments
  pub macro_denotation : Environment Denotation → Macro → List Denotation → Denotation
  macro_denotation env (s.macro w ps type m) ss = meaning_denotation (with_arguments (parameter_names ps) ss env) m

  -- a trace
  pub trace_denotation : Environment Denotation → Trace → Denotation
  trace_denotation env (s.sequence ts) = traces_denotation env x.seq ts
  trace_denotation env (s.braces b at) = braces_denotation env b
  trace_denotation env (s.loop l t) = trace (repeated (bounds_of env l) (as_trace (trace_denotation env t)))
  trace_denotation env (s.raise w) = trace (alone (raised_as (found_exception env.exceptions w.text)))
  trace_denotation env (s.assert e t) = trace (λ n. around_one (x.assert (as_expression (exp_denotation env e))) (as_trace (trace_denotation env t) (behind_term n)))
  trace_denotation env (s.exist gs t) = trace (in_groups env gs (λ inner. as_trace (trace_denotation inner t)))
  trace_denotation env (s.define m t) = trace_denotation (with_name (macro_name m) (macro (macro_denotation env m)) env) t
  trace_denotation env (s.exceptions ws t) = trace (in_exceptions ws env (λ inner. as_trace (trace_denotation inner t)))
  trace_denotation env (s.catch w t h) = trace (caught w env (λ inner. as_trace (trace_denotation inner t)) (λ inner. as_trace (handler_denotation inner h)))
  trace_denotation env (s.trap w t h) = trace (in_exceptions (w ∷ []) env (λ inner. caught w inner (λ here. as_trace (trace_denotation here t)) (λ here. as_trace (handler_denotation here h))))
  trace_denotation env (s.try t h) = trace (λ n. around_two x.try (as_trace (trace_denotation env t) (behind_term n)) (as_trace (handler_denotation env h)))
  trace_denotation env (s.value e) = exp_denotation env e

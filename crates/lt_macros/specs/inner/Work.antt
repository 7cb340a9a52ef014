-- How much work expansion is: the steps that it takes, which all have an end.
use Rattle.std.specs.Prelude.{ℕ, suc, ◌+◌, List, [], ◌∷◌}
use Rattle.std.specs.declared.option.Option.{Option}
use Rattle.std.specs.declared.option.Option.TheVariants.{None, Some}
use Rattle.lt_ast.specs.Syntax as s
use Rattle.lt_ast.specs.Syntax.{Word, Exp, Argument, Arguments, Limits, Braces, Alternative, Alternatives, Trace, Traces, Grouping, Groupings, MaybeExp, MaybeTrace, Meaning, Macro}
use Rattle.lt_macros.specs.Environment.{Binding, variable, parameter, macro, Environment, found, with_name, with_arguments, with_exceptions}
use Rattle.lt_macros.specs.Denotation.{macro_name, parameter_names}
use Rattle.lt_macros.specs.inner.Phrase.{Phrase, value, trace, braces, joined, handler}

-- what a name stands for, with arguments of so much work
abbrev pub used : Option (Binding ℕ) → List ℕ → ℕ
used None ws = 1
used (Some (variable r i)) ws = 1
used (Some (parameter work)) ws = work
used (Some (macro f)) ws = f ws

-- where variables of these names are visible too; each is one step
abbrev pub with_ones : List Word → Environment ℕ → Environment ℕ
with_ones [] env = env
with_ones (w ∷ ws) env = with_ones ws (with_name w.text (parameter 1) env)

abbrev mutual
  -- of an expression where names are so much work
  pub exp_work : Environment ℕ → Exp → ℕ
  exp_work env (s.number f) = 1
  exp_work env (s.flag b at) = 1
  exp_work env (s.named w) = suc (used (found env.names w.text) [])
  exp_work env (s.called w args) = suc (used (found env.names w.text) (argument_works env args))
  exp_work env (s.pre w at) = suc (used (found env.names w.text) [])
  exp_work env (s.paren e at) = suc (exp_work env e)
  exp_work env (s.unary op e at) = suc (exp_work env e)
  exp_work env (s.binary op d e at) = suc (exp_work env d + exp_work env e)
  exp_work env (s.choose c d e at) = suc (exp_work env c + (exp_work env d + exp_work env e))

  -- of an argument
  pub argument_work : Environment ℕ → Argument → ℕ
  argument_work env (s.value_argument e) = exp_work env e
  argument_work env (s.trace_argument b at) = braces_work env b

  -- of each argument
  pub argument_works : Environment ℕ → Arguments → List ℕ
  argument_works env s.no_arguments = []
  argument_works env (s.argument a rest) = argument_work env a ∷ argument_works env rest

  -- of the bounds of a loop
  pub limits_work : Environment ℕ → Limits → ℕ
  limits_work env s.forever = 0
  limits_work env (s.between d e) = exp_work env d + exp_work env e
  limits_work env (s.around d e) = exp_work env d + exp_work env e

  -- of what stands in braces
  pub braces_work : Environment ℕ → Braces → ℕ
  braces_work env (s.plain t) = suc (trace_work env t)
  braces_work env (s.choice lead ps) = suc (alternatives_work env ps)
  braces_work env (s.priority lead ts) = suc (traces_work env ts)
  braces_work env (s.parallel lead ts) = suc (traces_work env ts)

  -- of an alternative
  pub alternative_work : Environment ℕ → Alternative → ℕ
  alternative_work env (s.unweighted t) = trace_work env t
  alternative_work env (s.weighted e t) = exp_work env e + trace_work env t

  -- of alternatives
  pub alternatives_work : Environment ℕ → Alternatives → ℕ
  alternatives_work env s.no_alternatives = 1
  alternatives_work env (s.alternative a rest) = suc (alternative_work env a + alternatives_work env rest)

  -- of traces
  pub traces_work : Environment ℕ → Traces → ℕ
  traces_work env s.no_traces = 1
  traces_work env (s.one_trace t ts) = suc (trace_work env t + traces_work env ts)

  -- of a first value
  pub first_work : Environment ℕ → MaybeExp → ℕ
  first_work env s.no_exp = 0
  first_work env (s.an_exp e) = exp_work env e

  -- of a trace with locals of a group
  pub group_work : Environment ℕ → Grouping → (Environment ℕ → ℕ) → ℕ
  group_work env (s.grouping ws type ref range first) body = suc (first_work env first + body (with_ones ws env))

  -- of a trace with locals of groups
  pub groups_work : Environment ℕ → Groupings → (Environment ℕ → ℕ) → ℕ
  groups_work env s.no_groups body = body env
  groups_work env (s.one_group g gs) body = group_work env g (λ inner. groups_work inner gs body)

  -- of a `do` part
  pub handler_work : Environment ℕ → MaybeTrace → ℕ
  handler_work env s.no_trace = 0
  handler_work env (s.a_trace t) = trace_work env t

  -- of what a macro stands for
  pub meaning_work : Environment ℕ → Meaning → ℕ
  meaning_work env (s.trace_meaning t) = trace_work env t
  meaning_work env (s.value_meaning e) = exp_work env e

  -- of a macro's use, with arguments of so much work
  pub macro_work : Environment ℕ → Macro → List ℕ → ℕ
  macro_work env (s.macro w ps type m) ws = meaning_work (with_arguments (parameter_names ps) ws env) m

  -- of a trace
  pub trace_work : Environment ℕ → Trace → ℕ
  trace_work env (s.sequence ts) = suc (traces_work env ts)
  trace_work env (s.braces b at) = suc (braces_work env b)
  trace_work env (s.loop l t) = suc (limits_work env l + trace_work env t)
  trace_work env (s.raise w) = 1
  trace_work env (s.assert e t) = suc (exp_work env e + trace_work env t)
  trace_work env (s.exist gs t) = suc (groups_work env gs (λ inner. trace_work inner t))
  trace_work env (s.define m t) = suc (trace_work (with_name (macro_name m) (macro (macro_work env m)) env) t)
  trace_work env (s.exceptions ws t) = suc (trace_work (with_exceptions 0 ws env) t)
  trace_work env (s.catch w t h) = suc (trace_work env t + suc (handler_work env h))
  trace_work env (s.trap w t h) = suc (suc (trace_work (with_exceptions 0 (w ∷ []) env) t + suc (handler_work (with_exceptions 0 (w ∷ []) env) h)))
  trace_work env (s.try t h) = suc (trace_work env t + suc (handler_work env h))
  trace_work env (s.value e) = suc (exp_work env e)

-- of a phrase
abbrev pub phrase_work : Environment ℕ → Phrase → ℕ
phrase_work env (value e) = exp_work env e
phrase_work env (trace t) = trace_work env t
phrase_work env (braces b) = braces_work env b
phrase_work env (joined j ts) = traces_work env ts
phrase_work env (handler h) = suc (handler_work env h)

-- How much is written, as far as names alone lead: through parentheses, plain braces, lists of one trace, `let` and
-- `exception .. in`.
use Rattle.std.specs.Prelude.{ℕ, suc, ◌+◌}
use Rattle.lt_ast.specs.Syntax as s
use Rattle.lt_ast.specs.Syntax.{Exp, Argument, Arguments, Braces, MaybeTrace, Meaning, Macro, Trace, Traces}
use Rattle.lt_macros.specs.inner.Phrase.{Phrase, value, trace, braces, joined, handler}

abbrev mutual
  -- in an expression
  pub exp_size : Exp → ℕ
  exp_size (s.called w args) = suc (arguments_size args)
  exp_size (s.paren e at) = suc (exp_size e)
  exp_size other = 1

  -- in an argument
  pub argument_size : Argument → ℕ
  argument_size (s.value_argument e) = exp_size e
  argument_size (s.trace_argument b at) = braces_size b

  -- in arguments
  pub arguments_size : Arguments → ℕ
  arguments_size s.no_arguments = 0
  arguments_size (s.argument a rest) = argument_size a + arguments_size rest

  -- in braces
  pub braces_size : Braces → ℕ
  braces_size (s.plain t) = suc (trace_size t)
  braces_size (s.choice lead ps) = 1
  braces_size (s.priority lead ts) = suc (traces_size ts)
  braces_size (s.parallel lead ts) = suc (traces_size ts)

  -- in traces
  pub traces_size : Traces → ℕ
  traces_size s.no_traces = 1
  traces_size (s.one_trace t ts) = suc (trace_size t + traces_size ts)

  -- in a `do` part
  pub handler_size : MaybeTrace → ℕ
  handler_size s.no_trace = 1
  handler_size (s.a_trace t) = suc (trace_size t)

  -- in what a macro stands for
  pub meaning_size : Meaning → ℕ
  meaning_size (s.trace_meaning t) = trace_size t
  meaning_size (s.value_meaning e) = exp_size e

  -- in a macro
  pub macro_size : Macro → ℕ
  macro_size (s.macro w ps type m) = meaning_size m

  -- in a trace
  pub trace_size : Trace → ℕ
  trace_size (s.value e) = suc (exp_size e)
  trace_size (s.sequence ts) = suc (traces_size ts)
  trace_size (s.braces b at) = suc (braces_size b)
  trace_size (s.define m t) = suc (macro_size m + trace_size t)
  trace_size (s.exceptions ws t) = suc (trace_size t)
  trace_size other = 1

-- in a phrase
abbrev pub phrase_size : Phrase → ℕ
phrase_size (value e) = exp_size e
phrase_size (trace t) = trace_size t
phrase_size (braces b) = braces_size b
phrase_size (joined j ts) = traces_size ts
phrase_size (handler h) = handler_size h

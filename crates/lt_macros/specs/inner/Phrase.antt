-- What is expanded: an expression, a trace, what stands in braces, traces that are joined, or a `do` part.
use Rattle.lt_ast.specs.Syntax as s
use Rattle.lt_ast.specs.Syntax.{Exp, Argument, Trace, Traces, Braces, MaybeTrace, Meaning}
use Rattle.lt_macros.specs.Environment.{Environment}
use Rattle.lt_macros.specs.Expanded as x
use Rattle.lt_macros.specs.Expanded.{Expanded}
use Rattle.lt_macros.specs.Denotation.{Denotation, exp_denotation, trace_denotation, braces_denotation, traces_denotation, handler_denotation}
use Rattle.lt_macros.specs.declared.scope.Join.{Join}
use Rattle.lt_macros.specs.declared.scope.Join.TheVariants.{Seq, Pri, Par}

-- a phrase
pub data Phrase : Type 0 where
  value : Exp → Phrase
  trace : Trace → Phrase
  braces : Braces → Phrase
  joined : Join → Traces → Phrase
  handler : MaybeTrace → Phrase

-- the trace of two that are joined so
abbrev pub joined_by : Join → Expanded → Expanded → Expanded
joined_by Seq = x.seq
joined_by Pri = x.pri
joined_by Par = x.par

-- what it stands for
abbrev pub phrase_denotation : Environment Denotation → Phrase → Denotation
phrase_denotation env (value e) = exp_denotation env e
phrase_denotation env (trace t) = trace_denotation env t
phrase_denotation env (braces b) = braces_denotation env b
phrase_denotation env (joined j ts) = traces_denotation env (joined_by j) ts
phrase_denotation env (handler h) = handler_denotation env h

-- an argument
abbrev pub argument_phrase : Argument → Phrase
argument_phrase (s.value_argument e) = value e
argument_phrase (s.trace_argument b at) = braces b

-- what a macro stands for
abbrev pub meaning_phrase : Meaning → Phrase
meaning_phrase (s.trace_meaning t) = trace t
meaning_phrase (s.value_meaning e) = value e

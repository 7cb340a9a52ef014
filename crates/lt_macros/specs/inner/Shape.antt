-- The shape of a phrase: what is seen of it without going into it.
use Rattle.std.specs.Prelude.{◌≡◌, ◌≤◌, ℕ, Bool, true, false, IsTrue, List, map}
use Rattle.lt_ast.specs.Syntax as s
use Rattle.lt_ast.specs.Syntax.{Traces}
use Rattle.lt_ast.specs.View.{argument, macro as macro_view, trace as trace_view, word, words}
use Rattle.lt_ast.specs.inner.Rows.{maybe_trace}
use Rattle.lt_macros.specs.inner.Phrase.{Phrase, value, trace, braces, joined, handler, phrase_denotation}
use Rattle.lt_macros.specs.inner.Work.{phrase_work}
use Rattle.lt_macros.specs.inner.HeadNormalForm.{IsWithin, form_reads}
use Rattle.lt_macros.specs.inner.Inside.{IsInside}
use Rattle.lt_macros.specs.inner.Reading.{environment, meant, phrase_view, worked}
use Rattle.lt_macros.specs.inner.Uses.{IsUse}
use Rattle.lt_macros.specs.declared.scope.Entry.{Entry}
use Rattle.lt_macros.specs.declared.head_normal_form.HeadNormalForm.{HeadNormalForm}
use Rattle.lt_macros.specs.declared.shape.Shape.{Shape}
use Rattle.lt_macros.specs.declared.shape.Shape.TheVariants.{Cover, Use, Pre, Let, Exceptions, Trap}
use Rattle.lt_macros.specs.declared.shape.Shape.TheVariants as shape

-- A head normal form is what a phrase stands for in an environment, and no more.
pub record Shows (k : ℕ) (h : HeadNormalForm) (p : Phrase) : Type 0 where
  pub denotation : (decimals : ℕ) (rows : List Entry) → form_reads (meant decimals) rows h ≡ phrase_denotation (environment (meant decimals) rows k) p
  pub work : (rows : List Entry) → form_reads worked rows h ≤ phrase_work (environment worked rows k) p
  pub within : (count : ℕ) → k ≤ count → IsWithin count h

-- whether traces are some, but not one
abbrev pub is_joined : Traces → Bool
is_joined s.no_traces = true
is_joined (s.one_trace t s.no_traces) = false
is_joined (s.one_trace t (s.one_trace u us)) = true

-- whether no name has to be replaced for a phrase, nor a cover or a declaration be passed
abbrev pub is_head_normal : Phrase → Bool
is_head_normal (value (s.number f)) = true
is_head_normal (value (s.flag b at)) = true
is_head_normal (value (s.named w)) = false
is_head_normal (value (s.called w args)) = false
is_head_normal (value (s.pre w at)) = false
is_head_normal (value (s.paren e at)) = false
is_head_normal (value (s.unary op e at)) = true
is_head_normal (value (s.binary op d e at)) = true
is_head_normal (value (s.choose c d e at)) = true
is_head_normal (trace (s.sequence ts)) = false
is_head_normal (trace (s.braces b at)) = false
is_head_normal (trace (s.loop l t)) = true
is_head_normal (trace (s.raise w)) = true
is_head_normal (trace (s.assert e t)) = true
is_head_normal (trace (s.exist gs t)) = true
is_head_normal (trace (s.define m t)) = false
is_head_normal (trace (s.exceptions ws t)) = false
is_head_normal (trace (s.catch w t h)) = true
is_head_normal (trace (s.trap w t h)) = false
is_head_normal (trace (s.try t h)) = true
is_head_normal (trace (s.value e)) = false
is_head_normal (braces (s.plain t)) = false
is_head_normal (braces (s.choice lead ps)) = true
is_head_normal (braces (s.priority lead ts)) = false
is_head_normal (braces (s.parallel lead ts)) = false
is_head_normal (joined j ts) = is_joined ts
is_head_normal (handler s.no_trace) = true
is_head_normal (handler (s.a_trace t)) = false

-- A phrase has this shape.
abbrev pub HasShape : Shape → Phrase → Type 0
HasShape (Cover inner) p = IsInside p (phrase_view inner)
HasShape (Use u) p = IsUse p (word u.name.now) (map argument u.args.now)
HasShape (Pre n at) p = p ≡ value (s.pre (word n.now) at)
HasShape (Let d t) p = p ≡ trace (s.define (macro_view d.now) (trace_view t.now))
HasShape (Exceptions ns t) p = p ≡ trace (s.exceptions (words ns.now) (trace_view t.now))
HasShape (Trap n t h) p = p ≡ trace (s.trap (word n.now) (trace_view t.now) (maybe_trace h.now))
HasShape shape.HeadNormalForm p = IsTrue (is_head_normal p)

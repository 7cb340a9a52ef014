-- Head normal forms: what is met where a phrase is expanded, once names, covers and declarations are passed.
use Rattle.std.specs.Prelude.{◌≡◌, ◌≤◌, ◌<◌, ℕ, false, List, ◌++◌, length, map}
use Rattle.lt_ast.specs.Syntax as s
use Rattle.lt_ast.specs.View.{alternatives, exp, figure, groupings, limits, trace as trace_view, word}
use Rattle.lt_ast.specs.inner.Lists.{traces_of}
use Rattle.lt_ast.specs.inner.Rows.{maybe_trace}
use Rattle.lt_macros.specs.inner.Phrase.{value, trace, braces, joined, handler}
use Rattle.lt_macros.specs.inner.Reading.{Reading, environment}
use Rattle.lt_macros.specs.declared.scope.Entry.{Entry}
use Rattle.lt_macros.specs.declared.head_normal_form.HeadNormalForm.{HeadNormalForm}
use Rattle.lt_macros.specs.declared.head_normal_form.HeadNormalForm.TheVariants.{Meaningless, Variable, Previous, Number, Flag, Unary, Binary, If, Nothing, Joined, Loop, Choice, Raise, Assert, Exist, Catch, Try}

-- what a head normal form reads as
abbrev pub form_reads : {S : Type 0} → Reading S → List Entry → HeadNormalForm → S
form_reads r rows Meaningless = r.meaningless
form_reads r rows (Variable role place at) = r.named role place at
form_reads r rows (Previous role place at) = r.previous role place at
form_reads r rows (Number l) = r.phrase (environment r rows 0) (value (s.number (figure l.now)))
form_reads r rows (Flag b at) = r.phrase (environment r rows 0) (value (s.flag b at))
form_reads r rows (Unary op e at k) = r.phrase (environment r rows k) (value (s.unary op (exp e.now) at))
form_reads r rows (Binary op d e at k) = r.phrase (environment r rows k) (value (s.binary op (exp d.now) (exp e.now) at))
form_reads r rows (If c d e at k) = r.phrase (environment r rows k) (value (s.choose (exp c.now) (exp d.now) (exp e.now) at))
form_reads r rows Nothing = r.phrase (environment r rows 0) (handler s.no_trace)
form_reads r rows (Joined join first rest k) = r.phrase (environment r rows k) (joined join (s.one_trace (trace_view first.now) (traces_of (map trace_view rest.now))))
form_reads r rows (Loop l t k) = r.phrase (environment r rows k) (trace (s.loop (limits l.now) (trace_view t.now)))
form_reads r rows (Choice ps k) = r.phrase (environment r rows k) (braces (s.choice false (alternatives ps.now)))
form_reads r rows (Raise n k) = r.phrase (environment r rows k) (trace (s.raise (word n.now)))
form_reads r rows (Assert e t k) = r.phrase (environment r rows k) (trace (s.assert (exp e.now) (trace_view t.now)))
form_reads r rows (Exist gs t k) = r.phrase (environment r rows k) (trace (s.exist (groupings gs.now) (trace_view t.now)))
form_reads r rows (Catch n t h k) = r.phrase (environment r rows k) (trace (s.catch (word n.now) (trace_view t.now) (maybe_trace h.now)))
form_reads r rows (Try t h k) = r.phrase (environment r rows k) (trace (s.try (trace_view t.now) (maybe_trace h.now)))

-- The environment of a head normal form is among so many, and a trace that is joined with others has some behind it.
abbrev pub IsWithin : ℕ → HeadNormalForm → Type 0
IsWithin count (Unary op e at k) = k ≤ count
IsWithin count (Binary op d e at k) = k ≤ count
IsWithin count (If c d e at k) = k ≤ count
IsWithin count (Joined join first rest k) = (k ≤ count) × (0 < length rest.now)
IsWithin count (Loop l t k) = k ≤ count
IsWithin count (Choice ps k) = k ≤ count
IsWithin count (Raise n k) = k ≤ count
IsWithin count (Assert e t k) = k ≤ count
IsWithin count (Exist gs t k) = k ≤ count
IsWithin count (Catch n t h k) = k ≤ count
IsWithin count (Try t h k) = k ≤ count
IsWithin count h = Unit {0}

-- Entries were added, and none was taken back.
pub record AddsTo (old new : List Entry) : Type 0 where
  pub newer : List Entry
  pub is : new ≡ newer ++ old

-- Phrases for which no name has to be replaced are their own head normal forms.
use Rattle.std.proofs.Common.{◌≡◌, ◌<◌, ℕ, false, IsTrue, List, [], ◌∷◌, Global, length, map, Bool, Box, Option, refl, ap, sym, subst, ◌∙◌, arith}
use Rattle.std.specs.Borrow.{Bor}
use Rattle.lt_ast.specs.declared.span.Span.{Span}
use Rattle.lt_ast.specs.declared.expr.Expr.{Expr}
use Rattle.lt_ast.specs.declared.expr.Expr.TheVariants.{Number}
use Rattle.lt_ast.specs.declared.expr.UnOp.{UnOp}
use Rattle.lt_ast.specs.declared.expr.BinOp.{BinOp}
use Rattle.lt_ast.specs.declared.name.Name.{Name}
use Rattle.lt_ast.specs.declared.name.Literal.{Literal}
use Rattle.lt_ast.specs.declared.trace.TraceExpr.{TraceExpr, back-TraceExpr-Catch-2}
use Rattle.lt_ast.specs.Syntax as s
use Rattle.lt_ast.specs.Syntax.{Argument, Exp, Trace, Traces, Braces}
use Rattle.lt_ast.specs.View.{alternatives, exp, figure, groupings, limits, maybe_trace as held_trace, trace as trace_view, word}
use Rattle.lt_ast.specs.declared.trace.Bounds.{Bounds}
use Rattle.lt_ast.specs.declared.trace.Parts.{Parts}
use Rattle.lt_ast.specs.declared.group.Groups.{Groups}
use Rattle.lt_ast.specs.inner.Lists.{traces_of}
use Rattle.lt_macros.specs.Literals.{number_at}
use Rattle.lt_macros.specs.Denotation.{expression}
use Rattle.lt_macros.specs.inner.Shape.{Shows, is_joined}
use Rattle.lt_macros.specs.inner.Phrase.{value, trace, braces, joined}
use Rattle.lt_macros.specs.inner.Reading.{meant}
use Rattle.lt_macros.specs.declared.head_normal_form.HeadNormalForm.TheVariants as form
use Rattle.lt_macros.specs.declared.scope.Join.{Join}
use Rattle.lt_macros.proofs.Decimals.{decimals_same}
use Rattle.lt_macros.proofs.Covers.{handler_held}

pub shows_number : (k : ℕ) (l : Bor Literal) → Shows k (form.Number l) (value (s.number (figure l.now)))
shows_number k l =
    record {
      denotation = λ d rows. ap (λ n. expression (number_at n (figure l.now))) (decimals_same (meant d) rows 0 ∙ sym (decimals_same (meant d) rows k));
      work = λ rows. omega arith;
      within = λ n h. tt;
    }

pub number_shown : (k : ℕ) (e : Expr) (l : Bor Literal) → e ≡ Number l.now → Shows k (form.Number l) (value (exp e))
number_shown k e l is = subst (λ e. Shows k (form.Number l) (value (exp e))) (sym is) (shows_number k l)

pub shows_flag : (k : ℕ) (b : Bool) (at : Span) → Shows k (form.Flag b at) (value (s.flag b at))
shows_flag k b at = record { denotation = λ d rows. refl; work = λ rows. omega arith; within = λ n h. tt }

pub shows_unary : (k : ℕ) (op : UnOp) (e : Bor Expr) (at : Span) → Shows k (form.Unary op e at k) (value (s.unary op (exp e.now) at))
shows_unary k op e at = record { denotation = λ d rows. refl; work = λ rows. omega arith; within = λ n h. h }

pub shows_binary : (k : ℕ) (op : BinOp) (d e : Bor Expr) (at : Span) → Shows k (form.Binary op d e at k) (value (s.binary op (exp d.now) (exp e.now) at))
shows_binary k op d e at = record { denotation = λ d rows. refl; work = λ rows. omega arith; within = λ n h. h }

pub shows_if : (k : ℕ) (c d e : Bor Expr) (at : Span) → Shows k (form.If c d e at k) (value (s.choose (exp c.now) (exp d.now) (exp e.now) at))
shows_if k c d e at = record { denotation = λ d rows. refl; work = λ rows. omega arith; within = λ n h. h }

pub shows_none : (k : ℕ) (j : Join) → Shows k form.Nothing (joined j s.no_traces)
shows_none k j = record { denotation = λ d rows. refl; work = λ rows. omega arith; within = λ n h. tt }

pub shows_empty : (k : ℕ) (j : Join) (ts : List TraceExpr) → ts ≡ [] → Shows k form.Nothing (joined j (traces_of (map trace_view ts)))
shows_empty k j ts is = subst (λ ts. Shows k form.Nothing (joined j (traces_of (map trace_view ts)))) (sym is) (shows_none k j)

pub shows_joined : (k : ℕ) (j : Join) (ts : List TraceExpr) (first : Bor TraceExpr) (rest : Bor (List TraceExpr)) → ts ≡ first.now ∷ rest.now → 0 < length rest.now
    → Shows k (form.Joined j first rest k) (joined j (traces_of (map trace_view ts)))
shows_joined k j ts first rest is some =
    subst (λ ts. Shows k (form.Joined j first rest k) (joined j (traces_of (map trace_view ts)))) (sym is)
    (record { denotation = λ d rows. refl; work = λ rows. omega arith; within = λ n h. (h, some) })

pub shows_loop : (k : ℕ) (l : Bor Bounds) (t : Bor TraceExpr) → Shows k (form.Loop l t k) (trace (s.loop (limits l.now) (trace_view t.now)))
shows_loop k l t = record { denotation = λ d rows. refl; work = λ rows. omega arith; within = λ n h. h }

pub shows_choice : (k : ℕ) (lead : Bool) (ps : Bor Parts) → Shows k (form.Choice ps k) (braces (s.choice lead (alternatives ps.now)))
shows_choice k lead ps = record { denotation = λ d rows. refl; work = λ rows. omega arith; within = λ n h. h }

pub shows_raise : (k : ℕ) (n : Bor Name) → Shows k (form.Raise n k) (trace (s.raise (word n.now)))
shows_raise k n = record { denotation = λ d rows. refl; work = λ rows. omega arith; within = λ n h. h }

pub shows_assert : (k : ℕ) (e : Bor Expr) (t : Bor TraceExpr) → Shows k (form.Assert e t k) (trace (s.assert (exp e.now) (trace_view t.now)))
shows_assert k e t = record { denotation = λ d rows. refl; work = λ rows. omega arith; within = λ n h. h }

pub shows_exist : (k : ℕ) (gs : Bor Groups) (t : Bor TraceExpr) → Shows k (form.Exist gs t k) (trace (s.exist (groupings gs.now) (trace_view t.now)))
shows_exist k gs t = record { denotation = λ d rows. refl; work = λ rows. omega arith; within = λ n h. h }

pub shows_catch : (k : ℕ) (n : Bor Name) (t : Bor TraceExpr) (h : Bor (Option (Box TraceExpr Global))) → Shows k (form.Catch n t h k) (trace (s.catch (word n.now) (trace_view t.now) (held_trace (back-TraceExpr-Catch-2 h.now))))
shows_catch k n t h =
    subst (λ m. Shows k (form.Catch n t h k) (trace (s.catch (word n.now) (trace_view t.now) m))) (sym (handler_held h.now))
    (record { denotation = λ d rows. refl; work = λ rows. omega arith; within = λ n h. h })

pub shows_try : (k : ℕ) (t : Bor TraceExpr) (h : Bor (Option (Box TraceExpr Global))) → Shows k (form.Try t h k) (trace (s.try (trace_view t.now) (held_trace (back-TraceExpr-Catch-2 h.now))))
shows_try k t h =
    subst (λ m. Shows k (form.Try t h k) (trace (s.try (trace_view t.now) m))) (sym (handler_held h.now))
    (record { denotation = λ d rows. refl; work = λ rows. omega arith; within = λ n h. h })

-- more than one
joined_rest : (ts : List TraceExpr) (t : TraceExpr) (rest : List TraceExpr) → ts ≡ t ∷ rest → IsTrue (is_joined (traces_of (map trace_view ts))) → 0 < length rest
joined_rest ts t [] is h = let no : IsTrue false = subst (λ ts. IsTrue (is_joined (traces_of (map trace_view ts)))) is h in absurd (cc)
joined_rest ts t (u ∷ rest) is h = omega arith

pub shows_joined_form : (k : ℕ) (j : Join) (ts : List TraceExpr) (first : Bor TraceExpr) (rest : Bor (List TraceExpr)) → ts ≡ first.now ∷ rest.now → IsTrue (is_joined (traces_of (map trace_view ts)))
    → Shows k (form.Joined j first rest k) (joined j (traces_of (map trace_view ts)))
shows_joined_form k j ts first rest is h = shows_joined k j ts first rest is (joined_rest ts first.now rest.now is h)

pub ruleset expressions = (shows_number, shows_flag, shows_unary, shows_binary, shows_if)

pub ruleset traces = (shows_loop, shows_choice, shows_raise, shows_assert, shows_exist, shows_catch, shows_try)

pub ruleset lists = (shows_empty, shows_joined_form)

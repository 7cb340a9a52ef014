-- What is seen of a phrase is so.
use Rattle.std.proofs.Common.{◌≡◌, ◌<◌, IsTrue, List, [], ◌∷◌, Vec, Global, length, map, Bool, Box, Option, None, Some, refl, ap, sym, subst, arith}
use Rattle.std.specs.Borrow.{Bor}
use Rattle.lt_ast.specs.declared.span.Span.{Span}
use Rattle.lt_ast.specs.declared.expr.Arg.TheBlock.{hidden-the_row-TraceExpr-1}
use Rattle.lt_ast.specs.declared.name.Name.{Name}
use Rattle.lt_ast.specs.declared.trace.TraceExpr.{TraceExpr, back-TraceExpr-Catch-2}
use Rattle.lt_ast.specs.Syntax as s
use Rattle.lt_ast.specs.Syntax.{Argument, Exp, Trace, Traces, Braces}
use Rattle.lt_ast.specs.View.{maybe_trace as held_trace, trace as trace_view, trace_row, word}
use Rattle.lt_ast.specs.inner.Rows.{maybe_trace}
use Rattle.lt_ast.specs.inner.Lists.{traces_of}
use Rattle.lt_ast.proofs.Public.{traces_list}
use Rattle.lt_macros.specs.inner.Inside.{IsInside}
use Rattle.lt_macros.specs.inner.Shape.{is_joined}
use Rattle.lt_macros.specs.inner.Phrase.{Phrase, value, trace, braces, joined, handler}
use Rattle.lt_macros.specs.declared.scope.Join.{Join}
use Rattle.lt_macros.specs.declared.scope.Join.TheVariants.{Seq, Pri, Par}

pub in_parentheses : (e : Exp) (at : Span) → IsInside (value (s.paren e at)) (value e)
in_parentheses e at = record { denotation = λ env. refl; work = λ env. omega arith; size = omega arith }

pub in_trace : (e : Exp) → IsInside (trace (s.value e)) (value e)
in_trace e = record { denotation = λ env. refl; work = λ env. omega arith; size = omega arith }

pub in_braces : (b : Braces) (at : Span) → IsInside (trace (s.braces b at)) (braces b)
in_braces b at = record { denotation = λ env. refl; work = λ env. omega arith; size = omega arith }

pub in_plain : (t : Trace) → IsInside (braces (s.plain t)) (trace t)
in_plain t = record { denotation = λ env. refl; work = λ env. omega arith; size = omega arith }

-- a list as the code has it
inside_list : (p : Traces → Phrase) (j : Join) (v : Vec TraceExpr Global) → ((ts : Traces) → IsInside (p ts) (joined j ts)) → IsInside (p (trace_row (hidden-the_row-TraceExpr-1 v))) (joined j (traces_of (map trace_view v.items)))
inside_list p j v h = subst (λ ts. IsInside (p (trace_row (hidden-the_row-TraceExpr-1 v))) (joined j ts)) (traces_list v) (h (trace_row (hidden-the_row-TraceExpr-1 v)))

pub in_sequence : (v : Vec TraceExpr Global) → IsInside (trace (s.sequence (trace_row (hidden-the_row-TraceExpr-1 v)))) (joined Seq (traces_of (map trace_view v.items)))
in_sequence v = inside_list (λ ts. trace (s.sequence ts)) Seq v (λ ts. record { denotation = λ env. refl; work = λ env. omega arith; size = omega arith })

pub in_priority : (lead : Bool) (v : Vec TraceExpr Global) → IsInside (braces (s.priority lead (trace_row (hidden-the_row-TraceExpr-1 v)))) (joined Pri (traces_of (map trace_view v.items)))
in_priority lead v = inside_list (λ ts. braces (s.priority lead ts)) Pri v (λ ts. record { denotation = λ env. refl; work = λ env. omega arith; size = omega arith })

pub in_parallel : (lead : Bool) (v : Vec TraceExpr Global) → IsInside (braces (s.parallel lead (trace_row (hidden-the_row-TraceExpr-1 v)))) (joined Par (traces_of (map trace_view v.items)))
in_parallel lead v = inside_list (λ ts. braces (s.parallel lead ts)) Par v (λ ts. record { denotation = λ env. refl; work = λ env. omega arith; size = omega arith })

pub in_one : (j : Join) (t : Trace) → IsInside (joined j (s.one_trace t s.no_traces)) (trace t)
in_one j t = record { denotation = λ env. refl; work = λ env. omega arith; size = omega arith }

pub in_list : (j : Join) (ts : List TraceExpr) (t : Bor TraceExpr) (rest : List TraceExpr) → ts ≡ t.now ∷ rest → length rest ≡ 0 → IsInside (joined j (traces_of (map trace_view ts))) (trace (trace_view t.now))
in_list j ts t [] is none = subst (λ ts. IsInside (joined j (traces_of (map trace_view ts))) (trace (trace_view t.now))) (sym is) (in_one j (trace_view t.now))
in_list j ts t (u ∷ rest) is none = absurd (omega (arith, none))

pub in_handler : (t : Trace) → IsInside (handler (s.a_trace t)) (trace t)
in_handler t = record { denotation = λ env. refl; work = λ env. omega arith; size = omega arith }

-- a `do` part as the code has it
pub handler_held : (o : Option (Box TraceExpr Global)) → held_trace (back-TraceExpr-Catch-2 o) ≡ maybe_trace o
handler_held None = refl
handler_held (Some t) = refl

pub trapped : (n : Bor Name) (t : Bor TraceExpr) (h : Option (Box TraceExpr Global)) → trace (s.trap (word n.now) (trace_view t.now) (held_trace (back-TraceExpr-Catch-2 h))) ≡ trace (s.trap (word n.now) (trace_view t.now) (maybe_trace h))
trapped n t h = ap (λ m. trace (s.trap (word n.now) (trace_view t.now) m)) (handler_held h)

-- whether there is more than one
pub joined_none : (ts : List TraceExpr) → ts ≡ [] → IsTrue (is_joined (traces_of (map trace_view ts)))
joined_none [] is = refl
joined_none (t ∷ ts) is = absurd (cc)

pub joined_some : (ts : List TraceExpr) (t : TraceExpr) (rest : List TraceExpr) → ts ≡ t ∷ rest → 0 < length rest → IsTrue (is_joined (traces_of (map trace_view ts)))
joined_some ts t [] is some = absurd (omega (arith, some))
joined_some ts t (u ∷ rest) is some = subst (λ ts. IsTrue (is_joined (traces_of (map trace_view ts)))) (sym is) refl

pub ruleset covers = (in_parentheses, in_trace, in_braces, in_plain, in_sequence, in_priority, in_parallel, trapped)

pub ruleset lists = (in_list, in_handler, joined_none, joined_some)

use Rattle.std.proofs.Common.{List, map, subst, sym, arith}
use Rattle.lt_ast.specs.View.{trace}
use Rattle.lt_ast.specs.declared.trace.TraceExpr.{TraceExpr}
use Rattle.lt_ast.specs.inner.Lists.{traces_of}
use Rattle.lt_macros.specs.inner.Inside.{IsInside}
use Rattle.lt_macros.specs.inner.Phrase.{joined, trace as trace_phrase}
use Rattle.lt_macros.specs.declared.scope.Join.TheVariants.{Seq}
use Rattle.lt_macros.proofs.Covers.{in_sequence, covers}
use Rattle.lt_macros.proofs.shape.shape_of_trace.Goals as goal

pub returns-in-Seq : goal.returns-in-Seq
returns-in-Seq c =
    let P : TraceExpr → Type 0 = λ t. IsInside (trace_phrase (trace t)) (joined Seq (traces_of (map trace c.in-Seq.traces.items.items))) in
    let Q : List TraceExpr → Type 0 = λ ts. IsInside (trace_phrase (trace c.args.written.now)) (joined Seq (traces_of (map trace ts))) in
    subst Q (sym c.deref.ensures.value) (subst P (sym c.in-Seq.is) (in_sequence c.in-Seq.traces.items))

pub returns-in-Value : goal.returns-in-Value
returns-in-Value c = grind (arith, covers)

pub returns-in-Braces : goal.returns-in-Braces
returns-in-Braces c = grind (arith, covers)

pub returns-in-Trap : goal.returns-in-Trap
returns-in-Trap c = grind (arith, covers)

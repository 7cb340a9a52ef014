use Rattle.std.proofs.Common.{List, map, subst, sym, arith}
use Rattle.lt_ast.specs.View.{braced, trace}
use Rattle.lt_ast.specs.declared.trace.Braced.{Braced}
use Rattle.lt_ast.specs.declared.trace.TraceExpr.{TraceExpr}
use Rattle.lt_ast.specs.inner.Lists.{traces_of}
use Rattle.lt_macros.specs.inner.Inside.{IsInside}
use Rattle.lt_macros.specs.inner.Phrase.{braces, joined}
use Rattle.lt_macros.specs.declared.scope.Join.TheVariants.{Pri, Par}
use Rattle.lt_macros.proofs.Covers.{in_parallel, in_priority, covers}
use Rattle.lt_macros.proofs.shape.shape_of_braces.Goals as goal

pub returns-in-Priority : goal.returns-in-Priority
returns-in-Priority c =
    let P : Braced → Type 0 = λ b. IsInside (braces (braced b)) (joined Pri (traces_of (map trace c.in-Priority.parts.items.items))) in
    let Q : List TraceExpr → Type 0 = λ ts. IsInside (braces (braced c.args.inside.now)) (joined Pri (traces_of (map trace ts))) in
    subst Q (sym c.deref-in-Priority.ensures.value) (subst P (sym c.in-Priority.is) (in_priority c.in-Priority.lead c.in-Priority.parts.items))

pub returns-in-Parallel : goal.returns-in-Parallel
returns-in-Parallel c =
    let P : Braced → Type 0 = λ b. IsInside (braces (braced b)) (joined Par (traces_of (map trace c.in-Parallel.parts.items.items))) in
    let Q : List TraceExpr → Type 0 = λ ts. IsInside (braces (braced c.args.inside.now)) (joined Par (traces_of (map trace ts))) in
    subst Q (sym c.deref-in-Parallel.ensures.value) (subst P (sym c.in-Parallel.is) (in_parallel c.in-Parallel.lead c.in-Parallel.parts.items))

pub returns-in-Plain : goal.returns-in-Plain
returns-in-Plain c = grind (arith, covers)

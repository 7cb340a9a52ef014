use Rattle.std.proofs.Common.{ℕ, List, length, subst}
use Rattle.lt_ast.specs.View.{word}
use Rattle.lt_macros.specs.Denotation.{Denotation}
use Rattle.lt_macros.specs.inner.Handing.{HasTarget}
use Rattle.lt_macros.specs.inner.Reading.{IsFound, Reading}
use Rattle.lt_macros.specs.inner.Rows.{rows}
use Rattle.lt_macros.proofs.Targets.{used_outer}
use Rattle.lt_macros.proofs.resolution.reached_by.Goals as goal

pub returns-in-Outer : goal.returns-in-Outer
returns-in-Outer c =
    let P : List ℕ → Type 0 = λ n. (r : Reading Denotation) → IsFound r (rows c.args.scope.now) c.args.environment n c.number-number.result in
    let Q : List ℕ → Type 0 = λ n. (r : Reading ℕ) → IsFound r (rows c.args.scope.now) c.args.environment n c.number-number.result in
    used_outer (rows c.args.scope.now) c.args.environment (word c.args.used.name.now) (length c.args.used.args.now) c.number-number.result c.in-Some.entry c.in-Outer.reached
    (subst P c.as_str.ensures c.number-number.ensures.denotation) (subst Q c.as_str.ensures c.number-number.ensures.work)
    c.in-Some.ensures.denotation c.in-Some.ensures.work c.in-Some.ensures.linked (c.in-Some.ensures.right c.requires.right)
    (subst (HasTarget c.in-Some.entry.binding (length c.args.used.args.now)) c.in-Outer.is c.in-Some-target_of.ensures)

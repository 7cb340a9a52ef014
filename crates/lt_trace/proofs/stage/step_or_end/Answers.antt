use Rattle.std.proofs.Common.{None, Some, map, string_bytes, subst, sym, ◌∙◌}
use Rattle.lt_trace.specs.View.{shape_view}
use Rattle.lt_trace.specs.inner.Ends.{FindsTold}
use Rattle.lt_trace.proofs.Steps.{end-next, no-step-next, number-next}
use Rattle.lt_trace.proofs.stage.step_or_end.Goals as goal

pub returns-then-is_numbered : goal.returns-then-is_numbered
returns-then-is_numbered c = number-next (shape_view c.args.shape.now) c.args.steps c.args.text.now (sym c.is_numbered.ensures ∙ c.if-is_numbered.true)

pub returns-in-Some : goal.returns-in-Some
returns-in-Some c =
    end-next (shape_view c.args.shape.now) c.args.steps c.args.text.now c.in-Some.end
    (subst (λ names. FindsTold (map string_bytes names) c.args.steps c.args.text.now (Some c.in-Some.end)) c.deref.ensures.value c.in-Some.ensures)

pub returns-in-None : goal.returns-in-None
returns-in-None c =
    no-step-next (shape_view c.args.shape.now) c.args.steps c.args.text.now (sym c.is_numbered.ensures ∙ c.if-is_numbered.false)
    (subst (λ names. FindsTold (map string_bytes names) c.args.steps c.args.text.now None) c.deref.ensures.value c.in-None.ensures)

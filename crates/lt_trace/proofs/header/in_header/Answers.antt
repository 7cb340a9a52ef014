use Rattle.std.proofs.Common.{ap, codes, map, sym, ◌∙◌}
use Rattle.lt_rif.specs.Trace.{declared_variable}
use Rattle.lt_trace.specs.Lines.{declaration}
use Rattle.lt_trace.specs.View.{shape_view}
use Rattle.lt_trace.specs.inner.Front.{is_same}
use Rattle.lt_trace.proofs.Headers.{inputs-next, locals-next, no-rule-next, outputs-next, rule-next, seed-next}
use Rattle.lt_trace.proofs.header.in_header.Goals as goal

pub returns-in-Seed : goal.returns-in-Seed
returns-in-Seed c = rw c.in-Seed.is (seed-next (shape_view c.args.shape.now) c.args.text.now c.is_seed.result c.on.result c.on.ensures c.is_seed.ensures.yes c.is_seed.ensures.no)

pub returns-then-is_rule : goal.returns-then-is_rule
returns-then-is_rule c = rw c.in-Rule.is (rule-next (shape_view c.args.shape.now) c.args.text.now (c.is_rule.ensures.yes c.if-is_rule.true))

pub returns-else-is_rule : goal.returns-else-is_rule
returns-else-is_rule c =
    rw c.in-Rule.is
    (no-rule-next (shape_view c.args.shape.now) c.args.text.now c.declares.result c.on-in-Rule.result c.on-in-Rule.ensures (λ draw e. cc (sym (c.is_rule.ensures.no draw e) ∙ c.if-is_rule.false))
    (c.declares.ensures ∙ ap (λ vs. is_same c.args.text.now (declaration (codes "#inputs") (map declared_variable vs))) c.deref.ensures.value))

pub returns-in-Outputs : goal.returns-in-Outputs
returns-in-Outputs c =
    rw c.in-Outputs.is
    (outputs-next (shape_view c.args.shape.now) c.args.text.now c.declares-in-Outputs.result c.on-in-Outputs.result c.on-in-Outputs.ensures
    (c.declares-in-Outputs.ensures ∙ ap (λ vs. is_same c.args.text.now (declaration (codes "#inputs") (map declared_variable vs))) c.deref-in-Outputs.ensures.value))

pub returns-in-Inputs : goal.returns-in-Inputs
returns-in-Inputs c =
    rw c.in-Inputs.is
    (inputs-next (shape_view c.args.shape.now) c.args.text.now c.declares-in-Inputs.result c.on-in-Inputs.result c.on-in-Inputs.ensures
    (c.declares-in-Inputs.ensures ∙ ap (λ vs. is_same c.args.text.now (declaration (codes "#outputs") (map declared_variable vs))) c.deref-in-Inputs.ensures.value))

pub returns-in-Locals : goal.returns-in-Locals
returns-in-Locals c =
    rw c.in-Locals.is
    (locals-next (shape_view c.args.shape.now) c.args.text.now c.declares-in-Locals.result c.on-in-Locals.result c.on-in-Locals.ensures
    (c.declares-in-Locals.ensures ∙ ap (λ vs. is_same c.args.text.now (declaration (codes "#locals") (map declared_variable vs))) c.deref-in-Locals.ensures.value))

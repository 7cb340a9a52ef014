use Rattle.std.proofs.Common.{◌++◌, ap, codes, decimal, sym, ◌∙◌}
use Rattle.std.proofs.lemmas.List.{length-map}
use Rattle.lt_rif.specs.Trace.{line}
use Rattle.lt_trace.specs.View.{step_view, told}
use Rattle.lt_call.specs.Given.{verdict_text}
use Rattle.lt_call.proofs.Texts.{IsPut-same}
use Rattle.lt_call.proofs.check.put_verdict.Goals as goal

pub returns-in-Legal : goal.returns-in-Legal
returns-in-Legal g c =
    IsPut-same c.put_steps.result _ _ _ _
    (ap (λ n. line (codes "legal " ++ decimal n)) (c.len.ensures ∙ c.args.recorded.now.steps.ok.0 ∙ sym (length-map c.args.recorded.now.steps.items step_view)) ∙ ap (verdict_text (told c.args.recorded.now)) (sym c.in-Legal.is))
    c.put_steps.ensures

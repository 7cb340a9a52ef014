use Rattle.std.proofs.Common.{[], ◌∷◌, ◌++◌, ap, codes, decimal, sym, ◌∙◌}
use Rattle.lt_call.specs.Lines.{verdict_lines}
use Rattle.lt_call.proofs.Checks.{three_parts}
use Rattle.lt_call.proofs.Texts.{IsPut-same}
use Rattle.lt_call.proofs.say.say_verdict.Goals as goal

pub returns-in-TooMany : goal.returns-in-TooMany
returns-in-TooMany g c =
    IsPut-same c.put_all-in-TooMany.result _ _ _ _
    (ap (λ d. codes "lurette: candidates " ++ (d ++ (10 ∷ []))) (c.as_bytes-step-in-TooMany.ensures.value ∙ c.format-in-TooMany.ensures.text)
    ∙ three_parts (codes "lurette: candidates ") (decimal c.in-TooMany.step) ∙ ap verdict_lines (sym c.in-TooMany.is))
    c.put_all-in-TooMany.ensures

use Rattle.std.proofs.Common.{[], ◌∷◌, ◌++◌, codes, decimal, ap, ◌∙◌}
use Rattle.lt_call.proofs.Checks.{three_parts}
use Rattle.lt_call.proofs.Texts.{IsPut-same}
use Rattle.lt_call.proofs.check.put_steps.Goals as goal

pub returns : goal.returns
returns g c =
    IsPut-same c.put_all.result _ _ _ _
    (ap (λ d. codes "legal " ++ (d ++ (10 ∷ []))) (c.as_bytes.ensures.value ∙ c.format.ensures.text) ∙ three_parts (codes "legal ") (decimal c.args.steps)) c.put_all.ensures

use Rattle.std.proofs.Common.{ap, ◌∙◌}
use Rattle.std.proofs.lemmas.Result.{IfOk-weaker}
use Rattle.lt_macros.specs.Denotation.{alone}
use Rattle.lt_macros.specs.inner.Numbers.{numbers_view}
use Rattle.lt_macros.proofs.build.build_raise.Goals as goal

pub returns : goal.returns
returns c =
    IfOk-weaker c.put_alone.result _ _ (λ _ is d. is ∙ ap (λ t. alone t (numbers_view c.args.numbers)) (c.in_ok-raised.ensures d)) c.put_alone.ensures

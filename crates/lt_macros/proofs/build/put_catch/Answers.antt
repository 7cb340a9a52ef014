use Rattle.std.proofs.Common.{ap, sym, ◌∙◌}
use Rattle.std.proofs.lemmas.Result.{IfOk-weaker}
use Rattle.lt_macros.specs.Expanded as x
use Rattle.lt_macros.specs.Denotation.{caught_as}
use Rattle.lt_macros.specs.inner.Built.{in_two}
use Rattle.lt_macros.specs.inner.Reading.{meant, raised_by}
use Rattle.lt_macros.proofs.build.put_catch.Goals as goal

pub returns-in-None : goal.returns-in-None
returns-in-None c =
    IfOk-weaker c.put_try.result _ _ (λ _ is d. is ∙ ap (λ caught. in_two (caught_as (raised_by (meant d) caught)) c.args.two) (sym c.in-None.is)) c.put_try.ensures

pub returns-in_ok-exception-in-Some : goal.returns-in_ok-exception-in-Some
returns-in_ok-exception-in-Some c =
    IfOk-weaker c.put.result _ _
    (λ _ is d.
    is
    ∙ ap (λ z. in_two (x.catch z) c.args.two) (c.in_ok-exception-in-Some.ensures d)
    ∙ ap (λ caught. in_two (caught_as (raised_by (meant d) caught)) c.args.two) (sym c.in-Some.is))
    c.put.ensures

use Rattle.std.proofs.Common.{ap, sym, ◌∙◌}
use Rattle.lt_macros.specs.Expanded as x
use Rattle.lt_macros.specs.Denotation.{raised_as}
use Rattle.lt_macros.specs.inner.Reading.{meant, raised_by}
use Rattle.lt_macros.proofs.build.put_raise.Goals as goal

pub returns-in_ok-put_exception-in-Some : goal.returns-in_ok-put_exception-in-Some
returns-in_ok-put_exception-in-Some c = λ d. ap x.raise (c.in_ok-put_exception-in-Some.ensures d) ∙ ap (λ raised. raised_as (raised_by (meant d) raised)) (sym c.in-Some.is)

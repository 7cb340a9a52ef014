use Rattle.lt_loop.proofs.GivingUpLemmas.{budgets_have_a_cause}
use Rattle.lt_loop.proofs.laws.budgets_have_a_cause.Goals as goal

pub returns : goal.returns
returns g c = budgets_have_a_cause

use Rattle.std.proofs.Common.{subst, sym}
use Rattle.lt_check.specs.inner.MemoView.{Tells}
use Rattle.lt_check.proofs.following.Following.begin.Goals as goal

pub returns-clause-tells : goal.returns-clause-tells
returns-clause-tells c = λ holds. subst (Tells holds) (sym c.new.ensures) (c.in_ok-forget.ensures holds)

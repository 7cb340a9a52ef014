use Rattle.std.proofs.Common.{length}
use Rattle.lt_space.specs.inner.Memo.{memo_numbers}
use Rattle.lt_space.specs.inner.Work.{formulas_in}
use Rattle.lt_space.proofs.Notings.{free_below}
use Rattle.lt_space.proofs.space.Space.make.Goals as goal

pub invariant_of-result-clause-below : goal.invariant_of-result-clause-below
invariant_of-result-clause-below c = free_below (length (formulas_in c.empty-root.new.self)) (memo_numbers c.in_ok-noted.noted) c.in_ok-noted.ensures.free

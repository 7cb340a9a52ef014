use Rattle.std.proofs.Common.{length}
use Rattle.lt_formula.specs.View.{valuation_of_known}
use Rattle.lt_space.specs.inner.Memo.{memo_numbers}
use Rattle.lt_space.proofs.Notings.{AreNotedSoFar}
use Rattle.lt_space.proofs.noting.note_all.Given as goal

-- what is noted so far, with what is left, is what is evaluated
abbrev pub invariant-loop-exp : goal.invariant-loop-exp
invariant-loop-exp l =
    AreNotedSoFar (valuation_of_known l.known) l.table l.wanted l.rest l.fn.work l.work (memo_numbers l.fn.noted) (memo_numbers l.noted)

abbrev pub decreases-loop-exp : goal.decreases-loop-exp
decreases-loop-exp l = length l.rest

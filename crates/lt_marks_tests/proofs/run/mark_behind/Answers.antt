use Rattle.std.proofs.Common.{suc, [], subst, sym}
use Rattle.lt_term.specs.Counted.{IsDoneTo}
use Rattle.lt_term.specs.View.{kinds_of}
use Rattle.lt_marks.specs.View.{standing}
use Rattle.lt_marks_tests.proofs.run.mark_behind.Goals as goal

pub returns-in-Go-clause-done : goal.returns-in-Go-clause-done
returns-in-Go-clause-done c = λ k done.
    subst (IsDoneTo (suc k)) (sym c.go_on.ensures.goes_on)
    (c.steps_grow_by_one.ensures.grow k (kinds_of c.args.locals.now) (standing c.args.track.now) _ _ _ c.args.values.now done (c.in-Go.ensures.follows [] tt))

use Rattle.std.proofs.Common.{ap, sym, ◌∙◌, subst}
use Rattle.lt_term.proofs.Advances.{advanced-done, advanced-natural, advanced-passes}
use Rattle.lt_term.specs.Counted.{IsDoneTo}
use Rattle.lt_term.specs.Process.{Process, with_constraints}
use Rattle.lt_term.specs.View.{process}
use Rattle.lt_term.specs.Within.{passes}
use Rattle.lt_term.proofs.advancing.advance.Goals as goal

pub returns-clause-expressions : goal.returns-clause-expressions
returns-clause-expressions c = λ f. ap (with_constraints f) c.in_ok-next.ensures ∙ advanced-natural c.args.values.now f (process c.args.term.now)

pub returns-clause-passes : goal.returns-clause-passes
returns-clause-passes c = λ ts. ap (passes ts) c.in_ok-next.ensures ∙ advanced-passes c.args.values.now ts (process c.args.term.now)

pub returns-clause-done : goal.returns-clause-done
returns-clause-done c = λ k h.
    let P : Process _ → Type 0 = IsDoneTo k in subst P (sym c.in_ok-next.ensures) (advanced-done c.args.values.now k (process c.args.term.now) h)

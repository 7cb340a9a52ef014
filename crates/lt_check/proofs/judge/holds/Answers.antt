use Rattle.std.proofs.Common.{◌∙◌, ap, sym}
use Rattle.lt_check.specs.inner.JudgeView.{context_of, step_of}
use Rattle.lt_check.specs.inner.QuestionView.{constraint_holds}
use Rattle.lt_check.proofs.judge.holds.Goals as goal

pub returns-clause-tells : goal.returns-clause-tells
returns-clause-tells c =
    let are = constraint_holds (context_of c.args.question.now) (step_of c.args.question.now) in
    c.keep.ensures.tells are (c.in_ok-found.ensures.holds ∙ ap (λ ls. are ls c.args.constraint) (sym c.requires.lasts)) c.requires.tells

use Rattle.std.proofs.Common.{◌∙◌, ap}
use Rattle.lt_instant.specs.Solved.{values_of}
use Rattle.lt_term.specs.Advanced.{advanced}
use Rattle.lt_term.specs.View.{process}
use Rattle.lt_check.specs.inner.JudgeView.{context_of, step_of}
use Rattle.lt_check.specs.inner.QuestionView.{kinds_in}
use Rattle.lt_check.specs.inner.TermSet.{terms_of}
use Rattle.lt_check.specs.inner.Terms.{with_one}
use Rattle.lt_check.proofs.TermSets.{one_more}
use Rattle.lt_check.proofs.following.put_next.Goals as goal

pub returns : goal.returns
returns c =
    let keys = c.args.terms.now.keys in
    let locals = (step_of c.args.question.now).locals.items in
    let values = c.deref-4.ensures.value ∙ c.in_ok-values.ensures ∙ (λ i. values_of ((c.deref.ensures.value ∙ c.in_ok-put_instant.ensures.locals (kinds_in (context_of c.args.question.now))) i) (c.deref-2.ensures.value i)) in
    ap terms_of c.in_ok-insert.ensures.keys
    ∙ one_more keys c.new.result
    ∙ ap (with_one (terms_of keys)) (c.new.ensures ∙ c.in_ok-term.ensures.numbers ∙ (λ i. advanced (values i) ((ap process c.deref-3.ensures ∙ c.in_ok-next.ensures) i)))

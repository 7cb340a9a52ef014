use Rattle.std.proofs.Common.{length, subst, ap, ◌∙◌, arith}
use Rattle.lt_macros.specs.inner.Reading.{phrase_view}
use Rattle.lt_macros.specs.inner.Rows.{rows}
use Rattle.lt_macros.specs.inner.Seen.{seen}
use Rattle.lt_macros.specs.inner.Steps.{StepsTo, phrase_meant, phrase_worked}
use Rattle.lt_macros.proofs.Adding.{adds_both}
use Rattle.lt_macros.proofs.head_normal_form.step_in.Goals as goal

pub returns-in-Done-clause-advances : goal.returns-in-Done-clause-advances
returns-in-Done-clause-advances c =
    let new = rows c.take_step.new.scope in
    let steps = subst (StepsTo c.args.position new (phrase_meant (rows c.args.scope.now) c.args.environment (phrase_view c.args.phrase)) (phrase_worked (rows c.args.scope.now) c.args.environment (phrase_view c.args.phrase))) c.in-Done.is c.in_ok-form.ensures.steps in
    record {
      denotation = λ d. c.fitting.ensures.denotation d (length new) new steps.within ∙ steps.denotation d;
      work = omega (arith, c.fitting.ensures.work new, steps.work);
      within = (c.fitting.ensures.within (length new) steps.within, c.fitting.ensures.fits);
    }

pub returns-in-Further-clause-advances : goal.returns-in-Further-clause-advances
returns-in-Further-clause-advances c =
    let new = rows c.take_step.new.scope in
    let steps = subst (StepsTo c.args.position new (phrase_meant (rows c.args.scope.now) c.args.environment (phrase_view c.args.phrase)) (phrase_worked (rows c.args.scope.now) c.args.environment (phrase_view c.args.phrase))) c.in-Further.is c.in_ok-form.ensures.steps in
    record { denotation = steps.denotation; work = steps.work; within = steps.within }

pub returns-in_ok-form-in-Previous-clause-advances : goal.returns-in_ok-form-in-Previous-clause-advances
returns-in_ok-form-in-Previous-clause-advances c =
    let new = rows c.take_step.new.scope in
    let steps = subst (StepsTo c.args.position new (phrase_meant (rows c.args.scope.now) c.args.environment (phrase_view c.args.phrase)) (phrase_worked (rows c.args.scope.now) c.args.environment (phrase_view c.args.phrase))) c.in-Previous.is c.in_ok-form.ensures.steps in
    let all = rows c.previous.new.scope in
    record {
      denotation = λ d.
          c.fitting-in-Previous.ensures.denotation d (length all) all c.in_ok-form-in-Previous.ensures.within
          ∙ ap (seen c.args.position) (c.in_ok-form-in-Previous.ensures.denotation d) ∙ steps.denotation d;
      work = omega (arith, c.fitting-in-Previous.ensures.work all, c.in_ok-form-in-Previous.ensures.work, steps.work);
      within = (c.fitting-in-Previous.ensures.within (length all) c.in_ok-form-in-Previous.ensures.within, c.fitting-in-Previous.ensures.fits);
    }

pub returns-in_ok-form-in-Previous-clause-adds : goal.returns-in_ok-form-in-Previous-clause-adds
returns-in_ok-form-in-Previous-clause-adds c = adds_both _ _ _ c.in_ok-form.ensures.adds c.in_ok-form-in-Previous.ensures.adds

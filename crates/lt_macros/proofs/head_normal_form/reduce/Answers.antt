use Rattle.std.proofs.Common.{length, subst, ap, sym, ◌∙◌, arith}
use Rattle.lt_macros.specs.inner.Reading.{environment, meant, phrase_view, worked}
use Rattle.lt_macros.specs.inner.Rows.{rows}
use Rattle.lt_macros.specs.inner.Seen.{seen}
use Rattle.lt_macros.specs.inner.Shape.{Shows}
use Rattle.lt_macros.specs.inner.Steps.{AdvancesTo, phrase_meant, phrase_worked}
use Rattle.lt_macros.proofs.Adding.{adds_both, adds_none}
use Rattle.lt_macros.proofs.head_normal_form.reduce.Goals as goal

pub returns-in-HeadNormalForm-clause-denotation : goal.returns-in-HeadNormalForm-clause-denotation
returns-in-HeadNormalForm-clause-denotation c =
    let all = rows c.args.scope.now in
    let shown : Shows c.args.environment c.form_at.result (phrase_view c.inside_cover-bare.result) = c.form_at.ensures c.in-HeadNormalForm.ensures in
    λ d.
    c.fitting.ensures.denotation d (length all) all (shown.within (length all) c.requires.within)
    ∙ ap (seen c.args.position) (shown.denotation d all ∙ sym (c.inside_cover-bare.ensures.denotation (environment (meant d) all c.args.environment)))

pub returns-in-HeadNormalForm-clause-work : goal.returns-in-HeadNormalForm-clause-work
returns-in-HeadNormalForm-clause-work c =
    let all = rows c.args.scope.now in
    let shown : Shows c.args.environment c.form_at.result (phrase_view c.inside_cover-bare.result) = c.form_at.ensures c.in-HeadNormalForm.ensures in
    omega (arith, c.fitting.ensures.work all, shown.work all, c.inside_cover-bare.ensures.work (environment worked all c.args.environment))

pub returns-in-HeadNormalForm-clause-within : goal.returns-in-HeadNormalForm-clause-within
returns-in-HeadNormalForm-clause-within c =
    let all = rows c.args.scope.now in
    let shown : Shows c.args.environment c.form_at.result (phrase_view c.inside_cover-bare.result) = c.form_at.ensures c.in-HeadNormalForm.ensures in
    c.fitting.ensures.within (length all) (shown.within (length all) c.requires.within)

pub returns-in-HeadNormalForm-clause-fits : goal.returns-in-HeadNormalForm-clause-fits
returns-in-HeadNormalForm-clause-fits c = c.fitting.ensures.fits

pub loop-form-init : goal.loop-form-init
loop-form-init c =
    let all = rows c.args.scope.now in
    record {
      denotation = λ d. ap (seen c.args.position) (sym (c.inside_cover-bare.ensures.denotation (environment (meant d) all c.args.environment)));
      work = c.inside_cover-bare.ensures.work (environment worked all c.args.environment);
      within = c.requires.within;
      adds = adds_none all;
      right = c.requires.right;
    }

pub returns-in-Met-clause-denotation : goal.returns-in-Met-clause-denotation
returns-in-Met-clause-denotation c =
    let to = subst (AdvancesTo c.args.position (rows c.step_in.new.scope) (phrase_meant (rows c.loop-form.scope) c.loop-form.environment (phrase_view c.loop-form.phrase)) (phrase_worked (rows c.loop-form.scope) c.loop-form.environment (phrase_view c.loop-form.phrase))) c.in-Met.is c.in_ok-form.ensures.advances in
    λ d. to.denotation d ∙ c.loop-form.invariant.denotation d

pub returns-in-Met-clause-work : goal.returns-in-Met-clause-work
returns-in-Met-clause-work c =
    let to = subst (AdvancesTo c.args.position (rows c.step_in.new.scope) (phrase_meant (rows c.loop-form.scope) c.loop-form.environment (phrase_view c.loop-form.phrase)) (phrase_worked (rows c.loop-form.scope) c.loop-form.environment (phrase_view c.loop-form.phrase))) c.in-Met.is c.in_ok-form.ensures.advances in
    omega (arith, to.work, c.loop-form.invariant.work)

pub returns-in-Met-clause-within : goal.returns-in-Met-clause-within
returns-in-Met-clause-within c =
    (subst (AdvancesTo c.args.position (rows c.step_in.new.scope) (phrase_meant (rows c.loop-form.scope) c.loop-form.environment (phrase_view c.loop-form.phrase)) (phrase_worked (rows c.loop-form.scope) c.loop-form.environment (phrase_view c.loop-form.phrase))) c.in-Met.is c.in_ok-form.ensures.advances).within.0

pub returns-in-Met-clause-fits : goal.returns-in-Met-clause-fits
returns-in-Met-clause-fits c =
    (subst (AdvancesTo c.args.position (rows c.step_in.new.scope) (phrase_meant (rows c.loop-form.scope) c.loop-form.environment (phrase_view c.loop-form.phrase)) (phrase_worked (rows c.loop-form.scope) c.loop-form.environment (phrase_view c.loop-form.phrase))) c.in-Met.is c.in_ok-form.ensures.advances).within.1

pub returns-in-Met-clause-adds : goal.returns-in-Met-clause-adds
returns-in-Met-clause-adds c = adds_both _ _ _ c.loop-form.invariant.adds c.in_ok-form.ensures.adds

pub loop-form-preserved : goal.loop-form-preserved
loop-form-preserved c =
    let to = subst (AdvancesTo c.args.position (rows c.step_in.new.scope) (phrase_meant (rows c.loop-form.scope) c.loop-form.environment (phrase_view c.loop-form.phrase)) (phrase_worked (rows c.loop-form.scope) c.loop-form.environment (phrase_view c.loop-form.phrase))) c.in-Further.is c.in_ok-form.ensures.advances in
    record {
      denotation = λ d. to.denotation d ∙ c.loop-form.invariant.denotation d;
      work = omega (arith, to.work, c.loop-form.invariant.work);
      within = to.within;
      adds = adds_both _ _ _ c.loop-form.invariant.adds c.in_ok-form.ensures.adds;
      right = c.in_ok-form.ensures.right;
    }

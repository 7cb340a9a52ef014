use Rattle.std.proofs.Common.{length, ap, subst, sym, ◌∙◌, arith}
use Rattle.lt_ast.specs.View.{word}
use Rattle.lt_macros.specs.inner.HeadNormalForm.{IsWithin, form_reads}
use Rattle.lt_macros.specs.inner.Reading.{meant, phrase_view, worked}
use Rattle.lt_macros.specs.inner.Rows.{rows}
use Rattle.lt_macros.specs.inner.Seen.{seen}
use Rattle.lt_macros.specs.inner.Steps.{phrase_worked, step_reads, work_left}
use Rattle.lt_macros.specs.declared.position.Position.TheVariants.{Expression}
use Rattle.lt_macros.proofs.Adding.{adds_both}
use Rattle.lt_macros.proofs.Stepping.{before_within, before_work, left_less, previous_done, previous_twice}
use Rattle.lt_macros.proofs.head_normal_form.previous.Goals as goal

pub loop-step-preserved : goal.loop-step-preserved
loop-step-preserved c =
    record {
      denotation = λ d. c.in_ok-step-in-Further.ensures.steps.denotation d ∙ ap (λ s. seen Expression (step_reads (meant d) (rows c.loop-step.scope) s)) (sym c.in-Further.is) ∙ c.loop-step.invariant.denotation d;
      within = c.in_ok-step-in-Further.ensures.steps.within;
      adds = adds_both _ _ _ c.loop-step.invariant.adds c.in_ok-step-in-Further.ensures.adds;
      right = c.in_ok-step-in-Further.ensures.right;
    }

pub loop-step-smaller : goal.loop-step-smaller
loop-step-smaller c =
    omega (
      arith,
      left_less (rows c.take_step.new.scope) c.in_ok-step-in-Further.step (phrase_worked (rows c.loop-step.scope) c.in-Further.written (phrase_view c.in-Further.phrase)) c.in_ok-step-in-Further.ensures.steps.work,
      ap (work_left (rows c.loop-step.scope)) c.in-Further.is,
    )

pub returns-in-Done-clause-denotation : goal.returns-in-Done-clause-denotation
returns-in-Done-clause-denotation c =
    previous_done c.args.at (rows c.loop-step.scope) (rows c.args.scope.now) c.args.environment (word c.args.name.now) c.loop-step.step c.in-Done.form c.before_form.result c.in-Done.is c.before_form.ensures c.loop-step.invariant.denotation c.loop-step.invariant.within

pub returns-in-Done-clause-work : goal.returns-in-Done-clause-work
returns-in-Done-clause-work c = omega (arith, ap (form_reads worked (rows c.loop-step.scope)) c.before_form.ensures, before_work c.args.at (rows c.loop-step.scope) c.in-Done.form)

pub returns-in-Done-clause-within : goal.returns-in-Done-clause-within
returns-in-Done-clause-within c = subst (IsWithin (length (rows c.loop-step.scope))) (sym c.before_form.ensures) (before_within c.args.at (length (rows c.loop-step.scope)) c.in-Done.form)

pub returns-in-Previous-clause-denotation : goal.returns-in-Previous-clause-denotation
returns-in-Previous-clause-denotation c =
    previous_twice c.args.at (rows c.loop-step.scope) (rows c.args.scope.now) c.args.environment (word c.args.name.now) c.loop-step.step _ _ _ c.in-Previous.is c.loop-step.invariant.denotation

pub returns-in-Done-clause-adds : goal.returns-in-Done-clause-adds
returns-in-Done-clause-adds c = c.loop-step.invariant.adds

use Rattle.std.proofs.Common.{◌≡◌, ℕ, [], length}
use Rattle.lt_ast.specs.View.{word}
use Rattle.lt_macros.specs.inner.Handing.{AreRight}
use Rattle.lt_macros.specs.inner.HeadNormalForm.{AddsTo}
use Rattle.lt_macros.specs.inner.Reading.{meant}
use Rattle.lt_macros.specs.inner.Rows.{rows}
use Rattle.lt_macros.specs.inner.Seen.{seen}
use Rattle.lt_macros.specs.inner.Steps.{StepIsWithin, step_reads, use_meant, work_left}
use Rattle.lt_macros.specs.declared.position.Position.TheVariants.{Expression}
use Rattle.lt_macros.proofs.head_normal_form.previous.Given as goal

-- what is left is the same expression
abbrev pub invariant-loop-step : goal.invariant-loop-step
invariant-loop-step l =
    record {
      denotation : (decimals : ℕ) → seen Expression (step_reads (meant decimals) (rows l.scope) l.step) ≡ seen Expression (use_meant (rows l.fn.scope) l.environment (word l.name) [] decimals);
      within : StepIsWithin (length (rows l.scope)) l.step;
      adds : AddsTo (rows l.fn.scope) (rows l.scope);
      right : AreRight (rows l.scope);
    }

abbrev pub decreases-loop-step : goal.decreases-loop-step
decreases-loop-step l = work_left (rows l.scope) l.step

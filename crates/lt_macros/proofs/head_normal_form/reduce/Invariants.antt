use Rattle.std.proofs.Common.{◌≡◌, ◌≤◌, ℕ, length}
use Rattle.lt_macros.specs.inner.Handing.{AreRight}
use Rattle.lt_macros.specs.inner.HeadNormalForm.{AddsTo}
use Rattle.lt_macros.specs.inner.Reading.{phrase_view}
use Rattle.lt_macros.specs.inner.Rows.{rows}
use Rattle.lt_macros.specs.inner.Seen.{seen}
use Rattle.lt_macros.specs.inner.Steps.{phrase_meant, phrase_worked}
use Rattle.lt_macros.proofs.head_normal_form.reduce.Given as goal

-- what is left stands for the same
abbrev pub invariant-loop-form : goal.invariant-loop-form
invariant-loop-form l =
    record {
      denotation : (decimals : ℕ) → seen l.position (phrase_meant (rows l.scope) l.environment (phrase_view l.phrase) decimals) ≡ seen l.position (phrase_meant (rows l.fn.scope) l.fn.environment (phrase_view l.fn.phrase) decimals);
      work : phrase_worked (rows l.scope) l.environment (phrase_view l.phrase) ≤ phrase_worked (rows l.fn.scope) l.fn.environment (phrase_view l.fn.phrase);
      within : l.environment ≤ length (rows l.scope);
      adds : AddsTo (rows l.fn.scope) (rows l.scope);
      right : AreRight (rows l.scope);
    }

abbrev pub decreases-loop-form : goal.decreases-loop-form
decreases-loop-form l = phrase_worked (rows l.scope) l.environment (phrase_view l.phrase)

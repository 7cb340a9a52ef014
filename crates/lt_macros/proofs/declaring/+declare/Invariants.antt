use Rattle.std.proofs.Common.{◌≤◌, ◌*◌, ◌+◌, length}
use Rattle.lt_ast.specs.View.{macro}
use Rattle.lt_macros.specs.inner.Handing.{AreRight}
use Rattle.lt_macros.specs.inner.HeadNormalForm.{AddsTo}
use Rattle.lt_macros.specs.inner.Leads.{LeadsOn}
use Rattle.lt_macros.specs.inner.Reading.{phrase_view}
use Rattle.lt_macros.specs.inner.Rows.{rows}
use Rattle.lt_macros.specs.inner.Size.{macro_size, phrase_size}
use Rattle.lt_macros.proofs.declaring.+declare.Given as goal

-- what is left to look at is less
abbrev pub decreases-declare : goal.decreases-declare
decreases-declare l = 2 * macro_size (macro l.declared.now) + 1

abbrev pub decreases-led_to : goal.decreases-led_to
decreases-led_to l = 2 * phrase_size (phrase_view l.phrase)

-- what is left stands for the same, with what is around it
abbrev pub invariant-led_to-loop-inner : goal.invariant-led_to-loop-inner
invariant-led_to-loop-inner l =
    record {
      on : LeadsOn (rows l.fn.scope) (rows l.scope) l.fn.environment (phrase_view l.fn.phrase) l.environment (phrase_view l.phrase) l.cover;
      within : l.environment ≤ length (rows l.scope);
      adds : AddsTo (rows l.fn.scope) (rows l.scope);
      right : AreRight (rows l.scope);
    }

abbrev pub decreases-led_to-loop-inner : goal.decreases-led_to-loop-inner
decreases-led_to-loop-inner l = phrase_size (phrase_view l.phrase)

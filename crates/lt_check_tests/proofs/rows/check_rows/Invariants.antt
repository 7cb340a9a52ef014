-- The loop keeps that the head of a table, which it changes, is text.
use denote.Text.{Utf8}
use denote.Shadow.{shadow}
use Rattle.lt_check_tests.proofs.rows.check_rows.Given as goal

abbrev pub invariant-loop-block : goal.invariant-loop-block
invariant-loop-block g l =
    (goal.iterator-loop-block g).can_next l.block-iterator ×
    (goal.iterator-loop-block g).is_finite l.block-iterator ×
    shadow (Utf8 l.head)

use Rattle.std.proofs.Common.{◌+◌, ◌≤◌, length, sym, ap, ◌∙◌, arith}
use Rattle.std.specs.List.{before_first, after_first}
use Rattle.std.proofs.lemmas.Bool.{eqb-false}
use Rattle.lt_rif.specs.Number.{is_point}
use Rattle.lt_rif.proofs.RealLemmas.{scaled-parts}
use Rattle.lt_rif.proofs.number.scaled_of.Goals as goal
use Rattle.lt_rif.proofs.number.scaled_of.Goals.{else-is_empty-via-then-is_empty+else-is_empty-2, else-is_empty-via-else-is_empty}

pub returns : goal.returns
returns c =
    let some : 1 ≤ length c.split_at_point.result.0.now + length c.split_at_point.result.1.now =
    elim c.else-is_empty.branch [
      | else-is_empty-via-then-is_empty+else-is_empty-2 w ↦ let h = eqb-false _ _ (sym w.is_empty-then-is_empty.ensures ∙ w.if-is_empty-2.false) in omega arith
      | else-is_empty-via-else-is_empty w ↦ let h = eqb-false _ _ (sym c.is_empty.ensures ∙ w.if-is_empty.false) in omega arith
    ] in
    rw (c.from.ensures, c.pow.ensures, c.from-2.ensures)
    (scaled-parts c.args.number.now c.split_at_point.result.0.now c.split_at_point.result.1.now _ c.in_ok-before.before c.in_ok-after.after c.in_ok-right.right c.in_ok-right.left
    (c.split_at_point.ensures.before ∙ ap (before_first is_point) c.split_at_mark.ensures.before) (c.split_at_point.ensures.after ∙ ap (after_first is_point) c.split_at_mark.ensures.before) c.split_at_mark.ensures.after c.in_ok-before.ensures.value c.in_ok-after.ensures.value some c.in_ok-before.ensures.small c.in_ok-after.ensures.small c.in_ok-right.ensures)

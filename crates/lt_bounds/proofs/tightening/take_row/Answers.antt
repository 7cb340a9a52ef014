use Rattle.std.proofs.Common.{rules, ℕ, ◌≡◌, ◌<◌, ◌-◌, suc, length, get_or, set, List, Some, None, ℤ, pos, refl, ap, sym, ◌∙◌, arith, add-one, to_z, of_z}
use Rattle.std.specs.Int.{w128}
use Rattle.lt_bounds.specs.Tightening.{least_of, least_sum, others_least, cut, where_some, variables_taken}
use Rattle.lt_bounds.specs.Ranges.{range_at}
use Rattle.lt_num.specs.declared.interval.Interval.{Interval}
use Rattle.lt_bounds.proofs.Cuts.{cut_least, where_is}
use Rattle.lt_bounds.proofs.SumLemmas.{term_reach, least_kept}
use Rattle.lt_bounds.proofs.Steps.{taken_none, taken_some, taken_all, narrower_same, narrower_set, narrower_some, reach_less, some_at, row_broken, row_walked, set_same, same_range, cut_is}
use Rattle.lt_bounds.proofs.tightening.take_row.Goals as goal
use Rattle.lt_bounds.proofs.tightening.take_row.Goals.{then-ne, else-ne}

pub returns-then-is_broken-clause-outcome : goal.returns-then-is_broken-clause-outcome
returns-then-is_broken-clause-outcome c =
    sym (row_broken c.args.row.now c.args.ranges.now (length c.args.row.now - 1) (omega arith) (sym c.is_broken.ensures ∙ c.if-is_broken.true))

pub returns-then-is_broken-clause-narrower : goal.returns-then-is_broken-clause-narrower
returns-then-is_broken-clause-narrower c = narrower_same c.args.ranges.now c.requires.some

pub loop-i-init : goal.loop-i-init
loop-i-init c = record {
  left = ap (λ n. variables_taken c.args.row.now 0 n c.args.ranges.now) (omega arith);
  least = search rules;
  narrower = narrower_same c.args.ranges.now c.requires.some;
  same = λ e. refl;
}

pub cut_in_row-requires-clause-reach : goal.cut_in_row-requires-clause-reach
cut_in_row-requires-clause-reach c =
    let cell : to_z w128 (of_z w128 (get_or c.args.row.now c.loop-i.i (pos 0))) ≡ get_or c.args.row.now c.loop-i.i (pos 0) = search rules in
    let term = term_reach c.args.row.now c.loop-i.ranges c.loop-i.i (omega arith) in
    let less = reach_less c.args.row.now c.args.ranges.now c.loop-i.ranges c.loop-i.invariant.narrower in
    let all = c.requires.reach in
    rw cell (omega arith)

pub cut_in_row-requires-clause-some : goal.cut_in_row-requires-clause-some
cut_in_row-requires-clause-some c = some_at c.loop-i.ranges c.loop-i.i (narrower_some _ _ c.loop-i.invariant.narrower) (omega arith)

pub returns-in_default-clause-outcome : goal.returns-in_default-clause-outcome
returns-in_default-clause-outcome c =
    let walked = row_walked c.args.row.now c.args.ranges.now (length c.args.row.now - 1) (omega arith) (sym c.is_broken.ensures ∙ c.if-is_broken.false) in
    let least : to_z w128 (of_z w128 c.least_sum-least.result) ≡ least_sum c.args.row.now c.loop-i.ranges = c.loop-i.invariant.least in
    let cell : to_z w128 (of_z w128 (get_or c.args.row.now c.loop-i.i (pos 0))) ≡ get_or c.args.row.now c.loop-i.i (pos 0) = search rules in
    sym (walked ∙ c.loop-i.invariant.left
    ∙ taken_none c.args.row.now c.loop-i.i _ (length c.args.ranges.now - suc c.loop-i.i) c.loop-i.ranges _ (omega arith) refl
    (cut_is c.args.row.now c.loop-i.ranges c.loop-i.i _ _ None cell least (sym c.cut_in_row.ensures.value ∙ c.in_default.is)))

step : (row : List ℤ) (old ranges new : List Interval) (i n k : ℕ) (r : Interval) → i < length ranges → n ≡ suc k → new ≡ set ranges i r → where_some (cut (get_or row i (pos 0)) (others_least row ranges i) (range_at ranges i)) ≡ Some r
    → (variables_taken row i n ranges ≡ variables_taken row (suc i) k new) × (least_sum row new ≡ least_sum row ranges)
step row old ranges new i n k r l e is some = (
  taken_some row i n k ranges (others_least row ranges i) r e refl some ∙ ap (λ rs. variables_taken row (suc i) k rs) (sym is),
  ap (least_sum row) is ∙ least_kept row ranges i r l (ap (least_of (get_or row i (pos 0))) (sym (where_is _ r some)) ∙ cut_least (get_or row i (pos 0)) (others_least row ranges i) (range_at ranges i)),
)

pub loop-i-preserved : goal.loop-i-preserved
loop-i-preserved c =
    let least : to_z w128 (of_z w128 c.least_sum-least.result) ≡ least_sum c.args.row.now c.loop-i.ranges = c.loop-i.invariant.least in
    let cell : to_z w128 (of_z w128 (get_or c.args.row.now c.loop-i.i (pos 0))) ≡ get_or c.args.row.now c.loop-i.i (pos 0) = search rules in
    let some = cut_is c.args.row.now c.loop-i.ranges c.loop-i.i _ _ (Some c.in-Some.cut) cell least (sym c.cut_in_row.ensures.value ∙ c.in-Some.is) in
    let written : c.if-ne.ranges ≡ set c.loop-i.ranges c.loop-i.i c.in-Some.cut = elim c.if-ne.branch [ then-ne w ↦ w.ranges-is | else-ne w ↦ w.ranges-is ∙ sym (set_same c.loop-i.ranges c.loop-i.i c.in-Some.cut (same_range c.in-Some.cut (range_at c.loop-i.ranges c.loop-i.i) c.ne.result c.ne.ensures w.if-ne.false)) ] in
    let s = step c.args.row.now c.args.ranges.now c.loop-i.ranges c.if-ne.ranges c.loop-i.i (length c.args.ranges.now - c.loop-i.i) (length c.args.ranges.now - suc c.loop-i.i) c.in-Some.cut (omega arith) (omega arith) written some in
    record {
      left = rw add-one (c.loop-i.invariant.left ∙ s.0);
      least = least ∙ sym s.1;
      narrower = rw written (narrower_set c.args.ranges.now c.loop-i.ranges c.loop-i.i c.in-Some.cut c.loop-i.invariant.narrower c.in-Some.ensures.inside);
      same = elim c.if-ne.branch [ then-ne w ↦ (λ e. absurd (cc)) | else-ne w ↦ (λ e. w.ranges-is ∙ c.loop-i.invariant.same (sym w.changed-is ∙ e)) ];
    }

pub returns-then-changed-clause-outcome : goal.returns-then-changed-clause-outcome
returns-then-changed-clause-outcome c =
    sym (row_walked c.args.row.now c.args.ranges.now (length c.args.row.now - 1) (omega arith) (sym c.is_broken.ensures ∙ c.if-is_broken.false) ∙ c.loop-i.invariant.left
    ∙ taken_all c.args.row.now c.loop-i.i _ c.loop-i.ranges (omega arith))

pub returns-else-changed-clause-outcome : goal.returns-else-changed-clause-outcome
returns-else-changed-clause-outcome c =
    sym (row_walked c.args.row.now c.args.ranges.now (length c.args.row.now - 1) (omega arith) (sym c.is_broken.ensures ∙ c.if-is_broken.false) ∙ c.loop-i.invariant.left
    ∙ taken_all c.args.row.now c.loop-i.i _ c.loop-i.ranges (omega arith))

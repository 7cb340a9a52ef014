use Rattle.std.proofs.Common.{rules, ◌≡◌, ◌≤◌, ◌<◌, ◌*◌, ◌+ℤ◌, length, get_or, ℤ, pos, unsigned_abs, ap, ◌∙◌, arith, to_z, of_z}
use Rattle.std.specs.Int.{w128}
use Rattle.std.proofs.lemmas.Int.{ints}
use Rattle.lt_bounds.specs.Tightening.{least_of}
use Rattle.lt_bounds.specs.Ranges.{size_of, range_at}
use Rattle.lt_bounds.proofs.SumLemmas.{least_parts, reach_parts, sum_more, within_more, sum_bound}
use Rattle.lt_bounds.proofs.sums.least_sum.Goals as goal

pub loop-i-init : goal.loop-i-init
loop-i-init c =
    let constant : to_z w128 (of_z w128 (get_or c.args.row.now (length c.args.ranges.now) (pos 0))) ≡ get_or c.args.row.now (length c.args.ranges.now) (pos 0) = search rules in
    let all = reach_parts c.args.row.now c.args.ranges.now c.requires.width in
    record {
      left = rw constant (least_parts c.args.row.now c.args.ranges.now c.requires.width);
      within = rw constant (omega arith);
    }

pub loop-i-preserved : goal.loop-i-preserved
loop-i-preserved c =
    let row = c.args.row.now in
    let ranges = c.args.ranges.now in
    let i = c.loop-i.i in
    let cell : to_z w128 (of_z w128 (get_or row i (pos 0))) ≡ get_or row i (pos 0) = search rules in
    let term : c.least_of-sum.result ≡ least_of (get_or row i (pos 0)) (range_at ranges i) = c.least_of-sum.ensures.value ∙ ap (λ (z : ℤ). least_of z (range_at ranges i)) cell in
    let bound : unsigned_abs c.least_of-sum.result ≤ unsigned_abs (get_or row i (pos 0)) * size_of (range_at ranges i) = rw cell at c.least_of-sum.ensures.bound in
    let in_row : i < length row = omega arith in
    let sizes = sum_bound row ranges i _ (to_z w128 c.loop-i.sum-bits) c.least_of-sum.result in_row c.loop-i-test.true c.loop-i.invariant.within bound in
    let next : to_z w128 (of_z w128 (to_z w128 c.loop-i.sum-bits +ℤ to_z w128 (of_z w128 c.least_of-sum.result))) ≡ to_z w128 c.loop-i.sum-bits +ℤ c.least_of-sum.result = omega (arith, ints) in
    record {
      left = sum_more row ranges i _ _ _ c.least_of-sum.result in_row c.loop-i-test.true c.loop-i.invariant.left term next;
      within = within_more row ranges i _ _ _ c.least_of-sum.result in_row c.loop-i-test.true c.loop-i.invariant.within bound next;
    }

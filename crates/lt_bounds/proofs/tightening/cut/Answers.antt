use Rattle.std.proofs.Common.{◌≡◌, sym, arith, to_z, of_z, w64}
use Rattle.std.specs.Int.{w128}
use Rattle.std.proofs.lemmas.Int.{ints, to_z-of_z}
use Rattle.lt_bounds.proofs.Cuts.{cut_high_none, cut_high_is, cut_high_kept, cut_low_none, cut_low_is, cut_low_kept, quotient_is}
use Rattle.lt_bounds.proofs.tightening.cut.Goals as goal

pub returns-then-bound-low-clause-value : goal.returns-then-bound-low-clause-value
returns-then-bound-low-clause-value c =
    sym (cut_high_none c.args.coefficient c.args.others c.args.range.low c.args.range.high c.quotient-bound.result (omega (arith, ints)) (quotient_is _ _ _ c.args.others c.args.coefficient c.quotient-bound.ensures (to_z-of_z w128 c.args.others c.ranges.others) (to_z-of_z w128 c.args.coefficient c.ranges.coefficient)) (omega (arith, ints)) c.requires.some)

pub returns-then-bound-high-clause-value : goal.returns-then-bound-high-clause-value
returns-then-bound-high-clause-value c =
    let low : to_z w64 (of_z w64 c.args.range.low) ≡ c.args.range.low = omega (arith, ints) in
    let high : to_z w64 (of_z w64 (to_z w128 (of_z w128 c.quotient-bound.result))) ≡ c.quotient-bound.result = omega (arith, ints) in
    rw (low, high) (sym (cut_high_is c.args.coefficient c.args.others c.args.range.low c.args.range.high c.quotient-bound.result (omega (arith, ints)) (quotient_is _ _ _ c.args.others c.args.coefficient c.quotient-bound.ensures (to_z-of_z w128 c.args.others c.ranges.others) (to_z-of_z w128 c.args.coefficient c.ranges.coefficient)) (omega (arith, ints)) (omega (arith, ints))))

pub returns-else-bound-high-clause-value : goal.returns-else-bound-high-clause-value
returns-else-bound-high-clause-value c =
    sym (cut_high_kept c.args.coefficient c.args.others c.args.range.low c.args.range.high c.quotient-bound.result (omega (arith, ints)) (quotient_is _ _ _ c.args.others c.args.coefficient c.quotient-bound.ensures (to_z-of_z w128 c.args.others c.ranges.others) (to_z-of_z w128 c.args.coefficient c.ranges.coefficient)) c.requires.some (omega (arith, ints)))

pub returns-then-bound-high-2-clause-value : goal.returns-then-bound-high-2-clause-value
returns-then-bound-high-2-clause-value c =
    sym (cut_low_none c.args.coefficient c.args.others c.args.range.low c.args.range.high c.quotient-bound.result (omega (arith, ints)) (quotient_is _ _ _ c.args.others c.args.coefficient c.quotient-bound.ensures (to_z-of_z w128 c.args.others c.ranges.others) (to_z-of_z w128 c.args.coefficient c.ranges.coefficient)) (omega (arith, ints)) c.requires.some)

pub returns-then-bound-low-2-clause-value : goal.returns-then-bound-low-2-clause-value
returns-then-bound-low-2-clause-value c =
    let high : to_z w64 (of_z w64 c.args.range.high) ≡ c.args.range.high = omega (arith, ints) in
    let low : to_z w64 (of_z w64 (to_z w128 (of_z w128 c.quotient-bound.result))) ≡ c.quotient-bound.result = omega (arith, ints) in
    rw (low, high) (sym (cut_low_is c.args.coefficient c.args.others c.args.range.low c.args.range.high c.quotient-bound.result (omega (arith, ints)) (quotient_is _ _ _ c.args.others c.args.coefficient c.quotient-bound.ensures (to_z-of_z w128 c.args.others c.ranges.others) (to_z-of_z w128 c.args.coefficient c.ranges.coefficient)) (omega (arith, ints)) (omega (arith, ints))))

pub returns-else-bound-low-2-clause-value : goal.returns-else-bound-low-2-clause-value
returns-else-bound-low-2-clause-value c =
    sym (cut_low_kept c.args.coefficient c.args.others c.args.range.low c.args.range.high c.quotient-bound.result (omega (arith, ints)) (quotient_is _ _ _ c.args.others c.args.coefficient c.quotient-bound.ensures (to_z-of_z w128 c.args.others c.ranges.others) (to_z-of_z w128 c.args.coefficient c.ranges.coefficient)) c.requires.some (omega (arith, ints)))

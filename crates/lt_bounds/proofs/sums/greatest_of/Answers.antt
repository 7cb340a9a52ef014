use Rattle.std.proofs.Common.{◌≡◌, ◌≤◌, ◌<ℤ◌, ◌≤ℤ◌, pos, unsigned_abs, sym, ◌∙◌, arith, to_z, of_z}
use Rattle.std.specs.Int.{w128}
use Rattle.std.proofs.lemmas.Int.{ints, to_z-of_z}
use Rattle.lt_bounds.specs.Ranges.{size_of}
use Rattle.lt_bounds.proofs.Cuts.{greatest_low, greatest_high, product_bound, product_fits, product_kept}
use Rattle.lt_bounds.proofs.sums.greatest_of.Goals as goal

pub overflow_mul-result : goal.overflow_mul-result
overflow_mul-result c =
    let a = to_z-of_z w128 c.args.coefficient c.ranges.coefficient in
    let v : to_z w128 (of_z w128 c.from.result) ≡ c.args.range.low = omega (arith, ints) in
    product_fits _ _ c.args.coefficient c.args.range.low (size_of c.args.range) a v (omega arith) c.requires

pub overflow_mul-result-else-coefficient-lt0 : goal.overflow_mul-result-else-coefficient-lt0
overflow_mul-result-else-coefficient-lt0 c =
    let a = to_z-of_z w128 c.args.coefficient c.ranges.coefficient in
    let v : to_z w128 (of_z w128 c.from-else-coefficient-lt0.result) ≡ c.args.range.high = omega (arith, ints) in
    product_fits _ _ c.args.coefficient c.args.range.high (size_of c.args.range) a v (omega arith) c.requires

pub returns-then-coefficient-lt0 : goal.returns-then-coefficient-lt0
returns-then-coefficient-lt0 c =
    let a = to_z-of_z w128 c.args.coefficient c.ranges.coefficient in
    let v : to_z w128 (of_z w128 c.from.result) ≡ c.args.range.low = omega (arith, ints) in
    let within : unsigned_abs c.args.range.low ≤ size_of c.args.range = omega arith in
    let kept = product_kept _ _ c.args.coefficient c.args.range.low (size_of c.args.range) a v within c.requires in
    let negative : c.args.coefficient <ℤ pos 0 = omega (arith, ints) in
    record {
      value = kept ∙ sym (greatest_low c.args.coefficient c.args.range.low c.args.range.high negative);
      bound = rw kept (product_bound c.args.coefficient c.args.range.low (size_of c.args.range) within);
    }

pub returns-else-coefficient-lt0 : goal.returns-else-coefficient-lt0
returns-else-coefficient-lt0 c =
    let a = to_z-of_z w128 c.args.coefficient c.ranges.coefficient in
    let v : to_z w128 (of_z w128 c.from-else-coefficient-lt0.result) ≡ c.args.range.high = omega (arith, ints) in
    let within : unsigned_abs c.args.range.high ≤ size_of c.args.range = omega arith in
    let kept = product_kept _ _ c.args.coefficient c.args.range.high (size_of c.args.range) a v within c.requires in
    let other : pos 0 ≤ℤ c.args.coefficient = omega (arith, ints) in
    record {
      value = kept ∙ sym (greatest_high c.args.coefficient c.args.range.low c.args.range.high other);
      bound = rw kept (product_bound c.args.coefficient c.args.range.high (size_of c.args.range) within);
    }

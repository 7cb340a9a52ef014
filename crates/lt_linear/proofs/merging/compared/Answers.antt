use Rattle.std.proofs.Common.{◌-ℤ◌, w64, arith}
use Rattle.std.proofs.lemmas.Int.{ints, to_z-of_z}
use Rattle.lt_linear.proofs.Mergings.{compared_fits, compared_kept}
use Rattle.lt_linear.proofs.merging.compared.Goals as goal

pub overflow_mul-result : goal.overflow_mul-result
overflow_mul-result c =
    compared_fits _ _ (c.args.a -ℤ c.args.b) c.args.factor (omega (arith, ints)) (to_z-of_z w64 c.args.factor c.ranges.factor) (omega (arith, ints)) c.requires.factor

pub returns : goal.returns
returns c =
    compared_kept _ _ (c.args.a -ℤ c.args.b) c.args.factor (omega (arith, ints)) (to_z-of_z w64 c.args.factor c.ranges.factor) (omega (arith, ints)) c.requires.factor

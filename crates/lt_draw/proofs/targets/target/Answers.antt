use Rattle.std.proofs.Common.{◌≡◌, sym, subst, arith}
use Rattle.std.proofs.lemmas.Int.{ints}
use Rattle.std.specs.Prelude.{ℤ, unsigned_abs}
use Rattle.lt_num.specs.Range.{IsPoint}
use Rattle.lt_draw.proofs.TargetLemmas.{above_is, targets_are_points}
use Rattle.lt_draw.proofs.targets.target.Goals as goal

pub overflow_mul-above : goal.overflow_mul-above
overflow_mul-above c =
    let step : c.unsigned_abs.result ≡ unsigned_abs c.args.range.step = omega (arith, ints, c.unsigned_abs.ensures.value) in
    let is = above_is c.args.range c.args.word c.place.result c.unsigned_abs.result c.requires c.place.ensures step in
    let point = targets_are_points c.args.range c.args.word c.requires in
    omega (arith, ints, is, point.2, c.type_inv)

pub overflow_cast-result : goal.overflow_cast-result
overflow_cast-result c =
    let step : c.unsigned_abs.result ≡ unsigned_abs c.args.range.step = omega (arith, ints, c.unsigned_abs.ensures.value) in
    let is = above_is c.args.range c.args.word c.place.result c.unsigned_abs.result c.requires c.place.ensures step in
    let point = targets_are_points c.args.range c.args.word c.requires in
    omega (arith, ints, is, point.2)

pub returns-clause-target : goal.returns-clause-target
returns-clause-target c =
    let step : c.unsigned_abs.result ≡ unsigned_abs c.args.range.step = omega (arith, ints, c.unsigned_abs.ensures.value) in
    let is = above_is c.args.range c.args.word c.place.result c.unsigned_abs.result c.requires c.place.ensures step in
    let point = targets_are_points c.args.range c.args.word c.requires in
    omega (arith, ints, is, point.2)

pub returns-clause-point : goal.returns-clause-point
returns-clause-point c = subst (λ (z : ℤ). IsPoint c.args.range z) (sym (returns-clause-target c)) (targets_are_points c.args.range c.args.word c.requires)

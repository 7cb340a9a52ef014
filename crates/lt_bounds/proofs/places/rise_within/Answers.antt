use Rattle.std.proofs.Common.{arith}
use Rattle.std.proofs.lemmas.Int.{ints}
use Rattle.lt_bounds.proofs.Scales.{rise_down, rise_up}
use Rattle.lt_bounds.proofs.places.rise_within.Goals as goal

pub returns-then-scale-lt0-clause-kept : goal.returns-then-scale-lt0-clause-kept
returns-then-scale-lt0-clause-kept c place w =
    let all = rise_down c.args.scale.base c.args.scale.slope c.args.values.low c.args.values.high place (omega (arith, ints)) w in
    let low = all.0 in
    let high = all.1 in
    (omega (arith, ints, low), omega (arith, ints, high))

pub returns-else-scale-lt0-clause-kept : goal.returns-else-scale-lt0-clause-kept
returns-else-scale-lt0-clause-kept c place w =
    let all = rise_up c.args.scale.base c.args.scale.slope c.args.values.low c.args.values.high place (omega (arith, ints)) w in
    let low = all.0 in
    let high = all.1 in
    (omega (arith, ints, low), omega (arith, ints, high))

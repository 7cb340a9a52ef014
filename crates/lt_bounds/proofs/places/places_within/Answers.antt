use Rattle.std.proofs.Common.{to_z, of_z, w64, arith}
use Rattle.std.proofs.lemmas.Int.{clamps, ints}
use Rattle.lt_bounds.proofs.Scales.{placed, size_over}
use Rattle.lt_bounds.proofs.places.places_within.Goals as goal

pub rounded_down-requires-clause-step : goal.rounded_down-requires-clause-step
rounded_down-requires-clause-step c = let over = size_over c.args.scale.slope c.requires.scaled.slope in let steep = c.requires.scaled.steep in omega (arith, ints, over, steep)

pub returns-then-high-low-clause-kept : goal.returns-then-high-low-clause-kept
returns-then-high-low-clause-kept c place w v =
    let steep = c.requires.scaled.steep in
    let within = placed c.args.scale.slope place c.rise_within-rise.result.low c.rise_within-rise.result.high (to_z w64 (of_z w64 c.size_of-step.result)) (to_z w64 (of_z w64 c.rise_within-rise.result.low)) (to_z w64 (of_z w64 c.rise_within-rise.result.high)) c.rounded_up.result c.rounded_down.result c.requires.scaled.slope (omega (arith, ints, steep)) (omega (arith, ints)) (omega (arith, ints)) c.rounded_up.ensures.value c.rounded_down.ensures.value (c.rise_within-rise.ensures.kept place v) in
    let low = within.0 in
    let high = within.1 in
    let from = w.0 in
    let to = w.1 in
    omega (arith, ints, clamps, low, high, from, to)

pub returns-else-high-low-clause-kept : goal.returns-else-high-low-clause-kept
returns-else-high-low-clause-kept c place w v =
    let steep = c.requires.scaled.steep in
    let within = placed c.args.scale.slope place c.rise_within-rise.result.low c.rise_within-rise.result.high (to_z w64 (of_z w64 c.size_of-step.result)) (to_z w64 (of_z w64 c.rise_within-rise.result.low)) (to_z w64 (of_z w64 c.rise_within-rise.result.high)) c.rounded_up.result c.rounded_down.result c.requires.scaled.slope (omega (arith, ints, steep)) (omega (arith, ints)) (omega (arith, ints)) c.rounded_up.ensures.value c.rounded_down.ensures.value (c.rise_within-rise.ensures.kept place v) in
    let low = within.0 in
    let high = within.1 in
    let from = w.0 in
    let to = w.1 in
    (omega (arith, ints, clamps, low, from), omega (arith, ints, clamps, high, to))

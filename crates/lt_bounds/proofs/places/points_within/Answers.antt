use Rattle.std.proofs.Common.{◌≡◌, ◌+ℤ◌, ◌-ℤ◌, ◌≤ℤ◌, true, ℤ, to_z, of_z, w64, arith}
use Rattle.std.specs.Prelude.{int_lt}
use Rattle.std.proofs.lemmas.Int.{ints}
use Rattle.lt_bounds.proofs.Scales.{pointed}
use Rattle.lt_bounds.proofs.places.points_within.Goals as goal

crossed : (low v high : ℤ) → low ≤ℤ v → v ≤ℤ high → int_lt high low ≡ true → ⊥
crossed low v high a b c = grind (arith, ints)

pub overflow_add-high : goal.overflow_add-high
overflow_add-high c = let under = c.multiple_under-2.ensures.under in let near = c.multiple_under-2.ensures.near in omega (arith, ints, under, near)

pub returns-then-high-low-clause-kept : goal.returns-then-high-low-clause-kept
returns-then-high-low-clause-kept c place w =
    let steep = c.requires.steep in
    let one = c.multiple_under.ensures.under in
    let other = c.multiple_under-2.ensures.under in
    let near = c.multiple_under.ensures.near in
    let far = c.multiple_under-2.ensures.near in
    let first : to_z w64 (of_z w64 (to_z w64 (of_z w64 c.args.scale.base) -ℤ to_z w64 (of_z w64 c.multiple_under.result))) ≡ c.args.scale.base -ℤ c.multiple_under.result = omega (arith, ints, one, near) in
    let last : to_z w64 (of_z w64 (to_z w64 (of_z w64 c.args.scale.base) +ℤ to_z w64 (of_z w64 c.multiple_under-2.result))) ≡ c.args.scale.base +ℤ c.multiple_under-2.result = omega (arith, ints, other, far) in
    let within = pointed c.args.scale.slope c.args.scale.base c.args.values.low c.args.values.high place (to_z w64 (of_z w64 c.size_of-step.result)) (to_z w64 (of_z w64 (to_z w64 (of_z w64 c.args.scale.base) -ℤ to_z w64 (of_z w64 c.args.values.low)))) (to_z w64 (of_z w64 (to_z w64 (of_z w64 c.args.values.high) -ℤ to_z w64 (of_z w64 c.args.scale.base)))) c.multiple_under.result c.multiple_under-2.result c.requires.slope (omega (arith, ints, steep)) (omega (arith, ints)) (omega (arith, ints)) c.multiple_under.ensures.greatest c.multiple_under-2.ensures.greatest w in
    let apart : int_lt (c.args.scale.base +ℤ c.multiple_under-2.result) (c.args.scale.base -ℤ c.multiple_under.result) ≡ true = rw (first, last) at c.if-high-low.true in
    let low = within.0 in
    let high = within.1 in
    crossed _ _ _ low high apart

pub returns-else-high-low-clause-kept : goal.returns-else-high-low-clause-kept
returns-else-high-low-clause-kept c place w =
    let steep = c.requires.steep in
    let one = c.multiple_under.ensures.under in
    let other = c.multiple_under-2.ensures.under in
    let near = c.multiple_under.ensures.near in
    let far = c.multiple_under-2.ensures.near in
    let first : to_z w64 (of_z w64 (to_z w64 (of_z w64 c.args.scale.base) -ℤ to_z w64 (of_z w64 c.multiple_under.result))) ≡ c.args.scale.base -ℤ c.multiple_under.result = omega (arith, ints, one, near) in
    let last : to_z w64 (of_z w64 (to_z w64 (of_z w64 c.args.scale.base) +ℤ to_z w64 (of_z w64 c.multiple_under-2.result))) ≡ c.args.scale.base +ℤ c.multiple_under-2.result = omega (arith, ints, other, far) in
    let within = pointed c.args.scale.slope c.args.scale.base c.args.values.low c.args.values.high place (to_z w64 (of_z w64 c.size_of-step.result)) (to_z w64 (of_z w64 (to_z w64 (of_z w64 c.args.scale.base) -ℤ to_z w64 (of_z w64 c.args.values.low)))) (to_z w64 (of_z w64 (to_z w64 (of_z w64 c.args.values.high) -ℤ to_z w64 (of_z w64 c.args.scale.base)))) c.multiple_under.result c.multiple_under-2.result c.requires.slope (omega (arith, ints, steep)) (omega (arith, ints)) (omega (arith, ints)) c.multiple_under.ensures.greatest c.multiple_under-2.ensures.greatest w in
    (rw first within.0, rw last within.1)

pub returns-else-high-low-clause-inside : goal.returns-else-high-low-clause-inside
returns-else-high-low-clause-inside c =
    let one = c.multiple_under.ensures.under in
    let other = c.multiple_under-2.ensures.under in
    let near = c.multiple_under.ensures.near in
    let far = c.multiple_under-2.ensures.near in
    (omega (arith, ints, one, near), omega (arith, ints, one, other, near, far), omega (arith, ints, other, far))

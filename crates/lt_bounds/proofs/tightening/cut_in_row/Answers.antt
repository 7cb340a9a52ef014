use Rattle.std.proofs.Common.{◌≡◌, ◌≤◌, ◌*◌, ℤ, ◌-ℤ◌, unsigned_abs, ap, ◌∙◌, arith, to_z, of_z}
use Rattle.std.specs.Int.{w128}
use Rattle.std.proofs.lemmas.Int.{ints, to_z-of_z}
use Rattle.lt_bounds.specs.Tightening.{least_of, cut, where_some}
use Rattle.lt_bounds.specs.Ranges.{size_of}
use Rattle.lt_bounds.proofs.tightening.cut_in_row.Goals as goal

pub returns-clause-value : goal.returns-clause-value
returns-clause-value c =
    let least = to_z-of_z w128 c.args.least c.ranges.least in
    let coefficient = to_z-of_z w128 c.args.coefficient c.ranges.coefficient in
    let term : c.least_of.result ≡ least_of c.args.coefficient c.args.range = c.least_of.ensures.value ∙ ap (λ (z : ℤ). least_of z c.args.range) coefficient in
    let bound : unsigned_abs c.least_of.result ≤ unsigned_abs c.args.coefficient * size_of c.args.range = rw coefficient at c.least_of.ensures.bound in
    let others : to_z w128 (of_z w128 (to_z w128 (of_z w128 c.args.least) -ℤ to_z w128 (of_z w128 c.least_of.result))) ≡ c.args.least -ℤ c.least_of.result = omega (arith, ints) in
    c.cut.ensures.value
    ∙ ap (λ (z : ℤ). where_some (cut z (to_z w128 (of_z w128 (to_z w128 (of_z w128 c.args.least) -ℤ to_z w128 (of_z w128 c.least_of.result)))) c.args.range)) coefficient
    ∙ ap (λ (z : ℤ). where_some (cut c.args.coefficient z c.args.range)) (others ∙ ap (λ (z : ℤ). c.args.least -ℤ z) term)

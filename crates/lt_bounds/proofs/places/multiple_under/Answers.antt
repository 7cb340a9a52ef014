use Rattle.std.proofs.Common.{◌≡◌, ◌≤ℤ◌, ◌*ℤ◌, ◌+ℤ◌, FitsSigned, ℤ, pos, to_z, of_z, w64, ◌∙◌, arith}
use Rattle.std.specs.Int.{int_div_euclid}
use Rattle.std.proofs.lemmas.Int.{ints, to_z-of_z}
use Rattle.lt_num.specs.Bounds.{most_raw}
use Rattle.lt_bounds.proofs.Scales.{multiple_is}
use Rattle.lt_bounds.proofs.places.multiple_under.Goals as goal
use Rattle.lt_bounds.proofs.places.multiple_under.Goals.{After-rounded_down}

module _ (c : After-rounded_down) where
  step : to_z w64 (of_z w64 c.args.step) ≡ c.args.step
  step = to_z-of_z w64 c.args.step c.ranges.step

  quotient : c.rounded_down.result ≡ int_div_euclid c.args.number c.args.step
  quotient = c.rounded_down.ensures.value ∙ (λ i. int_div_euclid (to_z-of_z w64 c.args.number c.ranges.number i) (step i))

  multiple : ((c.args.step *ℤ c.rounded_down.result) ≤ℤ c.args.number) × (c.args.number ≤ℤ (c.args.step *ℤ c.rounded_down.result +ℤ pos most_raw)) × ((times : ℤ) → (c.args.step *ℤ times) ≤ℤ c.args.number → (c.args.step *ℤ times) ≤ℤ (c.args.step *ℤ c.rounded_down.result))
  multiple = multiple_is c.args.number c.args.step c.rounded_down.result c.requires.step.0 c.requires.step.1 quotient

  cast : to_z w64 (of_z w64 c.rounded_down.result) ≡ c.rounded_down.result
  cast = omega (arith, ints)

  fits : FitsSigned w64 (c.args.step *ℤ c.rounded_down.result)
  fits = let low = multiple.0 in let high = multiple.1 in omega (arith, ints, low, high)

  product : to_z w64 (of_z w64 (to_z w64 (of_z w64 c.args.step) *ℤ to_z w64 (of_z w64 c.rounded_down.result))) ≡ c.args.step *ℤ c.rounded_down.result
  product = rw (step, cast) (to_z-of_z w64 (c.args.step *ℤ c.rounded_down.result) fits)

pub overflow_mul-result : goal.overflow_mul-result
overflow_mul-result c = rw (step c, cast c) (fits c)

pub returns-clause-greatest : goal.returns-clause-greatest
returns-clause-greatest c times h = rw (product c) ((multiple c).2 times h)

pub returns-clause-under : goal.returns-clause-under
returns-clause-under c = rw (product c) ((multiple c).0)

pub returns-clause-near : goal.returns-clause-near
returns-clause-near c = rw (product c) ((multiple c).1)

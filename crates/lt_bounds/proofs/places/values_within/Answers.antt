use Rattle.std.proofs.Common.{◌≡◌, ◌+ℤ◌, ◌≤ℤ◌, ◌<ℤ◌, ℤ, pos, to_z, of_z, w64, ap, sym, ◌∙◌, arith}
use Rattle.std.proofs.lemmas.Int.{ints}
use Rattle.lt_bounds.proofs.Cuts.{greatest_high, greatest_low, least_high, least_low}
use Rattle.lt_bounds.proofs.places.values_within.Goals as goal
use Rattle.lt_formula.specs.Translation.{value_by}
use Rattle.lt_num.specs.declared.interval.Interval.{Interval}

-- an interval by its ends
abbrev interval_of : ℤ → ℤ → Interval
interval_of low high = record { low = low; high = high }

pub returns-then-scale-lt0 : goal.returns-then-scale-lt0
returns-then-scale-lt0 c =
    let low : to_z w64 (of_z w64 c.value_at-other.result) ≡ c.value_at-other.result = omega (arith, ints) in
    let high : to_z w64 (of_z w64 c.value_at-one.result) ≡ c.value_at-one.result = omega (arith, ints) in
    let under : c.args.scale.slope <ℤ pos 0 = omega (arith, ints) in
    let here : to_z w64 (of_z w64 c.args.places.low) ≡ c.args.places.low = omega (arith, ints) in
    let there : to_z w64 (of_z w64 c.args.places.high) ≡ c.args.places.high = omega (arith, ints) in
    record {
      value =
          (λ i. interval_of
          ((low ∙ c.value_at-other.ensures ∙ ap (value_by c.args.scale) there ∙ ap (λ z. c.args.scale.base +ℤ z) (sym (least_high c.args.scale.slope c.args.places.low c.args.places.high under))) i)
          ((high ∙ c.value_at-one.ensures ∙ ap (value_by c.args.scale) here ∙ ap (λ z. c.args.scale.base +ℤ z) (sym (greatest_low c.args.scale.slope c.args.places.low c.args.places.high under))) i));
    }

pub returns-else-scale-lt0 : goal.returns-else-scale-lt0
returns-else-scale-lt0 c =
    let low : to_z w64 (of_z w64 c.value_at-one.result) ≡ c.value_at-one.result = omega (arith, ints) in
    let high : to_z w64 (of_z w64 c.value_at-other.result) ≡ c.value_at-other.result = omega (arith, ints) in
    let over : pos 0 ≤ℤ c.args.scale.slope = omega (arith, ints) in
    let here : to_z w64 (of_z w64 c.args.places.low) ≡ c.args.places.low = omega (arith, ints) in
    let there : to_z w64 (of_z w64 c.args.places.high) ≡ c.args.places.high = omega (arith, ints) in
    record {
      value =
          (λ i. interval_of
          ((low ∙ c.value_at-one.ensures ∙ ap (value_by c.args.scale) here ∙ ap (λ z. c.args.scale.base +ℤ z) (sym (least_low c.args.scale.slope c.args.places.low c.args.places.high over))) i)
          ((high ∙ c.value_at-other.ensures ∙ ap (value_by c.args.scale) there ∙ ap (λ z. c.args.scale.base +ℤ z) (sym (greatest_high c.args.scale.slope c.args.places.low c.args.places.high over))) i));
    }

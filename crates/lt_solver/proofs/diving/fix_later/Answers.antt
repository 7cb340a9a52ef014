use Rattle.std.proofs.Common.{◌≡◌, ◌<◌, ℕ, ℤ, FitsSigned, List, ◌+ℤ◌, ◌-ℤ◌, ◌≤ℤ◌, false, length, set, get_or, pos, of_z, to_z, w64, rules, Some, refl, ap, sym, subst, ◌∙◌, arith}
use Rattle.std.proofs.lemmas.Int.{ints}
use Rattle.lt_bounds.proofs.Public.{narrower_more}
use Rattle.lt_bounds.specs.Places.{IsScaled}
use Rattle.lt_bounds.specs.Ranges.{range_at}
use Rattle.lt_formula.specs.Box.{IsInBox, first_in_box}
use Rattle.lt_formula.specs.declared.scale.Scale.{Scale}
use Rattle.lt_num.specs.Interval.{IsWithin}
use Rattle.lt_num.specs.declared.interval.Interval.{Interval}
use Rattle.lt_space.specs.declared.circuit.Circuit.{Circuit}
use Rattle.lt_solver.specs.inner.Dive.{IsDiving, IsUpward, Leads, test_of}
use Rattle.lt_solver.specs.inner.Points.{first_raw}
use Rattle.lt_solver.proofs.Dives.{dive_scaled, first_there, here}
use Rattle.lt_solver.proofs.Order.{range_of}
use Rattle.lt_solver.specs.declared.diving.PartEnd.{PartEnd}
use Rattle.lt_solver.specs.declared.diving.PartEnd.TheVariants.{Fixed, Passed}
use Rattle.lt_solver.proofs.Parts.{upward_above, upward_below}
use Rattle.lt_solver.proofs.Passing.{above_leads, below_leads}
use Rattle.lt_solver.proofs.Scaled.{scale_at}
use Rattle.lt_solver.proofs.diving.fix_later.Goals as goal

passed_not_fixed : (end : PartEnd) → end ≡ Passed → end ≡ Fixed → ⊥
passed_not_fixed end passed fixed = absurd (cc)

-- the places of a variable beside its first one
module _ (decimals : ℕ) (circuit : Circuit) (root : ℕ) (scales : List Scale) (starts : List ℤ) (i : ℕ) (point spare : List Interval)
    (dives : IsDiving decimals circuit root scales starts i point spare) (within : i < length starts)
    (first : ℤ) (is : first ≡ first_raw (get_or starts i (pos 0)) (range_at point i)) where
  scaled : IsScaled (scale_at scales i) (range_at point i)
  scaled = dive_scaled decimals circuit root scales starts i point spare dives within

  there : IsWithin (range_at point i) first
  there = first_there decimals circuit root scales starts i point spare dives within first is

  next_fits : to_z w64 (of_z w64 (first +ℤ pos 1)) ≡ first +ℤ pos 1
  next_fits = omega (arith, ints, scaled.low, scaled.high, there.0, there.1)

  before_fits : to_z w64 (of_z w64 (first -ℤ pos 1)) ≡ first -ℤ pos 1
  before_fits = omega (arith, ints, scaled.low, scaled.high, there.0, there.1)

  next_in : FitsSigned w64 (first +ℤ pos 1)
  next_in = omega (arith, ints, scaled.low, scaled.high, there.0, there.1)

  before_in : FitsSigned w64 (first -ℤ pos 1)
  before_in = omega (arith, ints, scaled.low, scaled.high, there.0, there.1)

  next_over : (range_at point i).low ≤ℤ to_z w64 (of_z w64 (first +ℤ pos 1))
  next_over = rw next_fits (omega (arith, ints, there.0))

  before_under : to_z w64 (of_z w64 (first -ℤ pos 1)) ≤ℤ (range_at point i).high
  before_under = rw before_fits (omega (arith, ints, there.1))

  low_fits : to_z w64 (of_z w64 (range_at point i).low) ≡ (range_at point i).low
  low_fits = omega (arith, ints, scaled.low)

  high_fits : to_z w64 (of_z w64 (range_at point i).high) ≡ (range_at point i).high
  high_fits = omega (arith, ints, scaled.high)

  -- the places above it and those below it, as the code has them
  abbrev above : Interval
  above = record { low = to_z w64 (of_z w64 (first +ℤ pos 1)); high = to_z w64 (of_z w64 (range_at point i).high) }

  abbrev below : Interval
  below = record { low = to_z w64 (of_z w64 (range_at point i).low); high = to_z w64 (of_z w64 (first -ℤ pos 1)) }

  above_upward : IsUpward (get_or starts i (pos 0)) above
  above_upward = upward_above (get_or starts i (pos 0)) first (range_at point i) above is (omega (arith, ints, next_fits)) high_fits

  below_upward : IsUpward (get_or starts i (pos 0)) below
  below_upward = upward_below (get_or starts i (pos 0)) first (range_at point i) below is (omega (arith, ints, low_fits)) (omega (arith, ints, before_fits))

  module _ (none : (ks : List ℤ) → IsInBox (set point i (record { low = first_raw (get_or starts i (pos 0)) (range_at point i); high = first_raw (get_or starts i (pos 0)) (range_at point i) })) ks → test_of decimals circuit root scales ks ≡ false) where
    none_first : (ks : List ℤ) → IsInBox (set point i (range_of first first)) ks → test_of decimals circuit root scales ks ≡ false
    none_first ks p = none ks (subst (λ (z : ℤ). IsInBox (set point i (range_of z z)) ks) is p)

    above_left : (above : Interval) → above.low ≡ first +ℤ pos 1 → above.high ≡ (range_at point i).high → Leads (test_of decimals circuit root scales) starts point (set point i above)
    above_left above up last x h =
        above_leads (test_of decimals circuit root scales) point starts i dives.fixed (here decimals circuit root scales starts i point spare dives within) dives.count first above (range_of (range_at point i).low (first -ℤ pos 1)) scaled.some is up last refl refl none_first x h

    below_left : (above below : Interval) → above.low ≡ first +ℤ pos 1 → above.high ≡ (range_at point i).high → below.low ≡ (range_at point i).low → below.high ≡ first -ℤ pos 1
        → ((ks : List ℤ) → IsInBox (set point i above) ks → test_of decimals circuit root scales ks ≡ false) → Leads (test_of decimals circuit root scales) starts point (set point i below)
    below_left above below up last least down empty x h =
        below_leads (test_of decimals circuit root scales) point starts i dives.fixed (here decimals circuit root scales starts i point spare dives within) dives.count first above below scaled.some is up last least down none_first empty x h

pub overflow_add-above : goal.overflow_add-above
overflow_add-above c =
    let k = to_z w64 (of_z w64 c.first_raw-first.result) in
    let start : to_z w64 (of_z w64 (get_or c.args.starts.now c.args.i (pos 0))) ≡ get_or c.args.starts.now c.args.i (pos 0) = search rules in
    let place : k ≡ c.first_raw-first.result = search rules in
    let is : k ≡ first_raw (get_or c.args.starts.now c.args.i (pos 0)) (range_at c.args.point.now c.args.i) = place ∙ c.first_raw-first.ensures ∙ ap (λ t. first_raw t (range_at c.args.point.now c.args.i)) start in
    next_in c.args.decimals c.args.circuit.now c.args.root c.args.scales.now c.args.starts.now c.args.i c.args.point.now c.args.spare.now c.requires.dives c.requires.within k is

pub overflow_sub-below : goal.overflow_sub-below
overflow_sub-below c =
    let k = to_z w64 (of_z w64 c.first_raw-first.result) in
    let start : to_z w64 (of_z w64 (get_or c.args.starts.now c.args.i (pos 0))) ≡ get_or c.args.starts.now c.args.i (pos 0) = search rules in
    let place : k ≡ c.first_raw-first.result = search rules in
    let is : k ≡ first_raw (get_or c.args.starts.now c.args.i (pos 0)) (range_at c.args.point.now c.args.i) = place ∙ c.first_raw-first.ensures ∙ ap (λ t. first_raw t (range_at c.args.point.now c.args.i)) start in
    before_in c.args.decimals c.args.circuit.now c.args.root c.args.scales.now c.args.starts.now c.args.i c.args.point.now c.args.spare.now c.requires.dives c.requires.within k is

pub fix_within-end-requires-clause-low : goal.fix_within-end-requires-clause-low
fix_within-end-requires-clause-low c =
    let k = to_z w64 (of_z w64 c.first_raw-first.result) in
    let start : to_z w64 (of_z w64 (get_or c.args.starts.now c.args.i (pos 0))) ≡ get_or c.args.starts.now c.args.i (pos 0) = search rules in
    let place : k ≡ c.first_raw-first.result = search rules in
    let is : k ≡ first_raw (get_or c.args.starts.now c.args.i (pos 0)) (range_at c.args.point.now c.args.i) = place ∙ c.first_raw-first.ensures ∙ ap (λ t. first_raw t (range_at c.args.point.now c.args.i)) start in
    next_over c.args.decimals c.args.circuit.now c.args.root c.args.scales.now c.args.starts.now c.args.i c.args.point.now c.args.spare.now c.requires.dives c.requires.within k is

pub fix_within-end-requires-clause-high : goal.fix_within-end-requires-clause-high
fix_within-end-requires-clause-high c =
    let k = to_z w64 (of_z w64 c.first_raw-first.result) in
    let start : to_z w64 (of_z w64 (get_or c.args.starts.now c.args.i (pos 0))) ≡ get_or c.args.starts.now c.args.i (pos 0) = search rules in
    let place : k ≡ c.first_raw-first.result = search rules in
    let is : k ≡ first_raw (get_or c.args.starts.now c.args.i (pos 0)) (range_at c.args.point.now c.args.i) = place ∙ c.first_raw-first.ensures ∙ ap (λ t. first_raw t (range_at c.args.point.now c.args.i)) start in
    let e = high_fits c.args.decimals c.args.circuit.now c.args.root c.args.scales.now c.args.starts.now c.args.i c.args.point.now c.args.spare.now c.requires.dives c.requires.within k is in omega (arith, ints, e)

pub fix_within-end-requires-clause-upward : goal.fix_within-end-requires-clause-upward
fix_within-end-requires-clause-upward c =
    let k = to_z w64 (of_z w64 c.first_raw-first.result) in
    let start : to_z w64 (of_z w64 (get_or c.args.starts.now c.args.i (pos 0))) ≡ get_or c.args.starts.now c.args.i (pos 0) = search rules in
    let place : k ≡ c.first_raw-first.result = search rules in
    let is : k ≡ first_raw (get_or c.args.starts.now c.args.i (pos 0)) (range_at c.args.point.now c.args.i) = place ∙ c.first_raw-first.ensures ∙ ap (λ t. first_raw t (range_at c.args.point.now c.args.i)) start in
    above_upward c.args.decimals c.args.circuit.now c.args.root c.args.scales.now c.args.starts.now c.args.i c.args.point.now c.args.spare.now c.requires.dives c.requires.within k is

pub fix_within-last-requires-clause-dives : goal.fix_within-last-requires-clause-dives
fix_within-last-requires-clause-dives c =
    let k = to_z w64 (of_z w64 c.first_raw-first.result) in
    let start : to_z w64 (of_z w64 (get_or c.args.starts.now c.args.i (pos 0))) ≡ get_or c.args.starts.now c.args.i (pos 0) = search rules in
    let place : k ≡ c.first_raw-first.result = search rules in
    let is : k ≡ first_raw (get_or c.args.starts.now c.args.i (pos 0)) (range_at c.args.point.now c.args.i) = place ∙ c.first_raw-first.ensures ∙ ap (λ t. first_raw t (range_at c.args.point.now c.args.i)) start in
    let stays = c.fix_within-end.ensures.stays (λ fixed. passed_not_fixed c.fix_within-end.result (c.is_passed.ensures c.if-not-is_passed.false) fixed) in
    subst (λ (box : List Interval). IsDiving c.args.decimals c.args.circuit.now c.args.root c.args.scales.now c.args.starts.now c.args.i box c.args.spare.now) (sym stays) c.requires.dives

pub fix_within-last-requires-clause-low : goal.fix_within-last-requires-clause-low
fix_within-last-requires-clause-low c =
    let k = to_z w64 (of_z w64 c.first_raw-first.result) in
    let start : to_z w64 (of_z w64 (get_or c.args.starts.now c.args.i (pos 0))) ≡ get_or c.args.starts.now c.args.i (pos 0) = search rules in
    let place : k ≡ c.first_raw-first.result = search rules in
    let is : k ≡ first_raw (get_or c.args.starts.now c.args.i (pos 0)) (range_at c.args.point.now c.args.i) = place ∙ c.first_raw-first.ensures ∙ ap (λ t. first_raw t (range_at c.args.point.now c.args.i)) start in
    let stays = c.fix_within-end.ensures.stays (λ fixed. passed_not_fixed c.fix_within-end.result (c.is_passed.ensures c.if-not-is_passed.false) fixed) in
    let e = low_fits c.args.decimals c.args.circuit.now c.args.root c.args.scales.now c.args.starts.now c.args.i c.args.point.now c.args.spare.now c.requires.dives c.requires.within k is in subst (λ (box : List Interval). (range_at box c.args.i).low ≤ℤ (below c.args.decimals c.args.circuit.now c.args.root c.args.scales.now c.args.starts.now c.args.i c.args.point.now c.args.spare.now c.requires.dives c.requires.within k is).low) (sym stays) (omega (arith, ints, e))

pub fix_within-last-requires-clause-high : goal.fix_within-last-requires-clause-high
fix_within-last-requires-clause-high c =
    let k = to_z w64 (of_z w64 c.first_raw-first.result) in
    let start : to_z w64 (of_z w64 (get_or c.args.starts.now c.args.i (pos 0))) ≡ get_or c.args.starts.now c.args.i (pos 0) = search rules in
    let place : k ≡ c.first_raw-first.result = search rules in
    let is : k ≡ first_raw (get_or c.args.starts.now c.args.i (pos 0)) (range_at c.args.point.now c.args.i) = place ∙ c.first_raw-first.ensures ∙ ap (λ t. first_raw t (range_at c.args.point.now c.args.i)) start in
    let stays = c.fix_within-end.ensures.stays (λ fixed. passed_not_fixed c.fix_within-end.result (c.is_passed.ensures c.if-not-is_passed.false) fixed) in
    subst (λ (box : List Interval). (below c.args.decimals c.args.circuit.now c.args.root c.args.scales.now c.args.starts.now c.args.i c.args.point.now c.args.spare.now c.requires.dives c.requires.within k is).high ≤ℤ (range_at box c.args.i).high) (sym stays) (before_under c.args.decimals c.args.circuit.now c.args.root c.args.scales.now c.args.starts.now c.args.i c.args.point.now c.args.spare.now c.requires.dives c.requires.within k is)

pub fix_within-last-requires-clause-upward : goal.fix_within-last-requires-clause-upward
fix_within-last-requires-clause-upward c =
    let k = to_z w64 (of_z w64 c.first_raw-first.result) in
    let start : to_z w64 (of_z w64 (get_or c.args.starts.now c.args.i (pos 0))) ≡ get_or c.args.starts.now c.args.i (pos 0) = search rules in
    let place : k ≡ c.first_raw-first.result = search rules in
    let is : k ≡ first_raw (get_or c.args.starts.now c.args.i (pos 0)) (range_at c.args.point.now c.args.i) = place ∙ c.first_raw-first.ensures ∙ ap (λ t. first_raw t (range_at c.args.point.now c.args.i)) start in
    below_upward c.args.decimals c.args.circuit.now c.args.root c.args.scales.now c.args.starts.now c.args.i c.args.point.now c.args.spare.now c.requires.dives c.requires.within k is

pub returns-then-not-is_passed-clause-leads : goal.returns-then-not-is_passed-clause-leads
returns-then-not-is_passed-clause-leads c =
    let k = to_z w64 (of_z w64 c.first_raw-first.result) in
    let start : to_z w64 (of_z w64 (get_or c.args.starts.now c.args.i (pos 0))) ≡ get_or c.args.starts.now c.args.i (pos 0) = search rules in
    let place : k ≡ c.first_raw-first.result = search rules in
    let is : k ≡ first_raw (get_or c.args.starts.now c.args.i (pos 0)) (range_at c.args.point.now c.args.i) = place ∙ c.first_raw-first.ensures ∙ ap (λ t. first_raw t (range_at c.args.point.now c.args.i)) start in
    λ so ks h.
    let fixed = c.is_fixed.ensures so in
    above_left c.args.decimals c.args.circuit.now c.args.root c.args.scales.now c.args.starts.now c.args.i c.args.point.now c.args.spare.now c.requires.dives c.requires.within k is c.requires.none (above c.args.decimals c.args.circuit.now c.args.root c.args.scales.now c.args.starts.now c.args.i c.args.point.now c.args.spare.now c.requires.dives c.requires.within k is) (next_fits c.args.decimals c.args.circuit.now c.args.root c.args.scales.now c.args.starts.now c.args.i c.args.point.now c.args.spare.now c.requires.dives c.requires.within k is) (high_fits c.args.decimals c.args.circuit.now c.args.root c.args.scales.now c.args.starts.now c.args.i c.args.point.now c.args.spare.now c.requires.dives c.requires.within k is) ks (c.fix_within-end.ensures.leads fixed ks h)

pub returns-clause-leads : goal.returns-clause-leads
returns-clause-leads c =
    let k = to_z w64 (of_z w64 c.first_raw-first.result) in
    let start : to_z w64 (of_z w64 (get_or c.args.starts.now c.args.i (pos 0))) ≡ get_or c.args.starts.now c.args.i (pos 0) = search rules in
    let place : k ≡ c.first_raw-first.result = search rules in
    let is : k ≡ first_raw (get_or c.args.starts.now c.args.i (pos 0)) (range_at c.args.point.now c.args.i) = place ∙ c.first_raw-first.ensures ∙ ap (λ t. first_raw t (range_at c.args.point.now c.args.i)) start in
    λ so ks h.
    let stays = c.fix_within-end.ensures.stays (λ fixed. passed_not_fixed c.fix_within-end.result (c.is_passed.ensures c.if-not-is_passed.false) fixed) in
    let test = test_of c.args.decimals c.args.circuit.now c.args.root c.args.scales.now in
    below_left c.args.decimals c.args.circuit.now c.args.root c.args.scales.now c.args.starts.now c.args.i c.args.point.now c.args.spare.now c.requires.dives c.requires.within k is c.requires.none (above c.args.decimals c.args.circuit.now c.args.root c.args.scales.now c.args.starts.now c.args.i c.args.point.now c.args.spare.now c.requires.dives c.requires.within k is) (below c.args.decimals c.args.circuit.now c.args.root c.args.scales.now c.args.starts.now c.args.i c.args.point.now c.args.spare.now c.requires.dives c.requires.within k is) (next_fits c.args.decimals c.args.circuit.now c.args.root c.args.scales.now c.args.starts.now c.args.i c.args.point.now c.args.spare.now c.requires.dives c.requires.within k is) (high_fits c.args.decimals c.args.circuit.now c.args.root c.args.scales.now c.args.starts.now c.args.i c.args.point.now c.args.spare.now c.requires.dives c.requires.within k is) (low_fits c.args.decimals c.args.circuit.now c.args.root c.args.scales.now c.args.starts.now c.args.i c.args.point.now c.args.spare.now c.requires.dives c.requires.within k is) (before_fits c.args.decimals c.args.circuit.now c.args.root c.args.scales.now c.args.starts.now c.args.i c.args.point.now c.args.spare.now c.requires.dives c.requires.within k is) (c.fix_within-end.ensures.none (c.is_passed.ensures c.if-not-is_passed.false)) ks
    (subst (λ (box : List Interval). first_in_box test (set box c.args.i (below c.args.decimals c.args.circuit.now c.args.root c.args.scales.now c.args.starts.now c.args.i c.args.point.now c.args.spare.now c.requires.dives c.requires.within k is)) c.args.starts.now ≡ Some ks) stays (c.fix_within-last.ensures.leads (c.is_fixed-2.ensures so) ks h))

pub returns-clause-narrower : goal.returns-clause-narrower
returns-clause-narrower c = narrower_more c.args.point.now c.fix_within-end.new.point c.fix_within-last.new.point c.fix_within-end.ensures.narrower c.fix_within-last.ensures.narrower

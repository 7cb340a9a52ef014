use Rattle.std.proofs.Common.{◌≡◌, ◌≤◌, Bool, ℤ, length, set, get_or, pos, of_z, to_z, w64, rules, add-one, ap, sym, subst, ◌∙◌, unsigned_abs, arith}
use Rattle.lt_bounds.proofs.Public.{narrower_same}
use Rattle.lt_bounds.specs.Ranges.{range_at}
use Rattle.lt_formula.specs.Box.{IsInBox}
use Rattle.lt_formula.specs.Translation.{value_by}
use Rattle.lt_num.specs.Bounds.{most_raw}
use Rattle.lt_space.specs.Evaluated.{Where}
use Rattle.lt_propagation.specs.Points.{wide_at}
use Rattle.lt_solver.specs.inner.Dive.{test_of}
use Rattle.lt_solver.specs.inner.Points.{first_raw}
use Rattle.lt_solver.proofs.Dives.{dive_scaled, first_covers, first_dives, first_leads, first_narrower, not_true}
use Rattle.lt_solver.proofs.Scaled.{first_value_small, scale_at, scaled_scales, scaled_some, scales_long}
use Rattle.lt_solver.proofs.diving.fix_first.Goals as goal

pub bounds-scales-i : goal.bounds-scales-i
bounds-scales-i c = let d = c.requires.dives in omega (arith, c.requires.within, d.count, scales_long c.args.scales.now c.args.point.now d.scaled)

pub value_at-value-requires-clause-base : goal.value_at-value-requires-clause-base
value_at-value-requires-clause-base c = (dive_scaled c.args.decimals c.args.circuit.now c.args.root c.args.scales.now c.args.starts.now c.args.i c.args.point.now c.args.ranges.now c.requires.dives c.requires.within).base

pub value_at-value-requires-clause-value : goal.value_at-value-requires-clause-value
value_at-value-requires-clause-value c =
    let scales = c.args.scales.now in
    let i = c.args.i in
    let point = c.args.point.now in
    let scaled = dive_scaled c.args.decimals c.args.circuit.now c.args.root scales c.args.starts.now i point c.args.ranges.now c.requires.dives c.requires.within in
    let place : to_z w64 (of_z w64 c.first_raw-first.result) ≡ c.first_raw-first.result = search rules in
    subst (λ (k : ℤ). unsigned_abs (value_by (scale_at scales i) k) ≤ most_raw) (sym (place ∙ c.first_raw-first.ensures))
    (first_value_small (scale_at scales i) (range_at point i) (to_z w64 (of_z w64 (get_or c.args.starts.now i (pos 0)))) scaled)

pub propagate_fixed-requires-clause-scales : goal.propagate_fixed-requires-clause-scales
propagate_fixed-requires-clause-scales c = scaled_scales c.args.scales.now c.args.point.now c.requires.dives.scaled

pub propagate_fixed-requires-clause-long : goal.propagate_fixed-requires-clause-long
propagate_fixed-requires-clause-long c = let d = c.requires.dives in omega (arith, d.long, scales_long c.args.scales.now c.args.point.now d.scaled)

pub propagate_fixed-requires-clause-within : goal.propagate_fixed-requires-clause-within
propagate_fixed-requires-clause-within c = let d = c.requires.dives in omega (arith, c.requires.within, d.count, scales_long c.args.scales.now c.args.point.now d.scaled)

pub propagate_fixed-requires-clause-value : goal.propagate_fixed-requires-clause-value
propagate_fixed-requires-clause-value c =
    let scales = c.args.scales.now in
    let i = c.args.i in
    let point = c.args.point.now in
    let scaled = dive_scaled c.args.decimals c.args.circuit.now c.args.root scales c.args.starts.now i point c.args.ranges.now c.requires.dives c.requires.within in
    let place : to_z w64 (of_z w64 c.first_raw-first.result) ≡ c.first_raw-first.result = search rules in
    let value : to_z w64 (of_z w64 c.value_at-value.result) ≡ c.value_at-value.result = search rules in
    subst (λ (v : ℤ). unsigned_abs v ≤ most_raw) (sym (value ∙ c.value_at-value.ensures ∙ ap (value_by (scale_at scales i)) (place ∙ c.first_raw-first.ensures)))
    (first_value_small (scale_at scales i) (range_at point i) (to_z w64 (of_z w64 (get_or c.args.starts.now i (pos 0)))) scaled)

pub returns-then-not-propagate_fixed-clause-narrower : goal.returns-then-not-propagate_fixed-clause-narrower
returns-then-not-propagate_fixed-clause-narrower c = narrower_same c.args.point.now (scaled_some c.args.scales.now c.args.point.now c.requires.dives.scaled)

pub returns-then-not-propagate_fixed-clause-none : goal.returns-then-not-propagate_fixed-clause-none
returns-then-not-propagate_fixed-clause-none c = λ so ks p.
    let decimals = c.args.decimals in
    let circuit = c.args.circuit.now in
    let root = c.args.root in
    let scales = c.args.scales.now in
    let starts = c.args.starts.now in
    let i = c.args.i in
    let point = c.args.point.now in
    let ranges = c.args.ranges.now in
    let k = to_z w64 (of_z w64 c.first_raw-first.result) in
    let v = to_z w64 (of_z w64 c.value_at-value.result) in
    let start : to_z w64 (of_z w64 (get_or starts i (pos 0))) ≡ get_or starts i (pos 0) = search rules in
    let place : k ≡ c.first_raw-first.result = search rules in
    let value : v ≡ c.value_at-value.result = search rules in
    let is : k ≡ first_raw (get_or starts i (pos 0)) (range_at point i) = place ∙ c.first_raw-first.ensures ∙ ap (λ t. first_raw t (range_at point i)) start in
    let told : v ≡ value_by (scale_at scales i) k = value ∙ c.value_at-value.ensures in
    let there = subst (λ (z : ℤ). IsInBox (set point i (record { low = z; high = z })) ks) (sym is) p in
    not_true (test_of decimals circuit root scales ks)
    (λ h. subst (λ (b : Bool). Where b (IsInBox c.propagate_fixed.new.ranges (wide_at decimals circuit scales ks))) c.if-not-propagate_fixed.true
    (c.propagate_fixed.ensures.keeps ks (first_covers decimals circuit root scales starts i point ranges c.requires.dives c.requires.within k is v told ks there h)))

pub returns-clause-leads : goal.returns-clause-leads
returns-clause-leads c = λ so ks h.
    let starts = c.args.starts.now in
    let i = c.args.i in
    let point = c.args.point.now in
    let k = to_z w64 (of_z w64 c.first_raw-first.result) in
    let start : to_z w64 (of_z w64 (get_or starts i (pos 0))) ≡ get_or starts i (pos 0) = search rules in
    let place : k ≡ c.first_raw-first.result = search rules in
    let is : k ≡ first_raw (get_or starts i (pos 0)) (range_at point i) = place ∙ c.first_raw-first.ensures ∙ ap (λ t. first_raw t (range_at point i)) start in
    first_leads c.args.decimals c.args.circuit.now c.args.root c.args.scales.now starts i point c.args.ranges.now c.requires.dives c.requires.within k is ks h

pub returns-clause-narrower : goal.returns-clause-narrower
returns-clause-narrower c =
    let starts = c.args.starts.now in
    let i = c.args.i in
    let point = c.args.point.now in
    let k = to_z w64 (of_z w64 c.first_raw-first.result) in
    let start : to_z w64 (of_z w64 (get_or starts i (pos 0))) ≡ get_or starts i (pos 0) = search rules in
    let place : k ≡ c.first_raw-first.result = search rules in
    let is : k ≡ first_raw (get_or starts i (pos 0)) (range_at point i) = place ∙ c.first_raw-first.ensures ∙ ap (λ t. first_raw t (range_at point i)) start in
    first_narrower c.args.decimals c.args.circuit.now c.args.root c.args.scales.now starts i point c.args.ranges.now c.requires.dives c.requires.within k is

pub returns-clause-dives : goal.returns-clause-dives
returns-clause-dives c = λ so.
    let decimals = c.args.decimals in
    let circuit = c.args.circuit.now in
    let root = c.args.root in
    let scales = c.args.scales.now in
    let starts = c.args.starts.now in
    let i = c.args.i in
    let point = c.args.point.now in
    let ranges = c.args.ranges.now in
    let k = to_z w64 (of_z w64 c.first_raw-first.result) in
    let v = to_z w64 (of_z w64 c.value_at-value.result) in
    let start : to_z w64 (of_z w64 (get_or starts i (pos 0))) ≡ get_or starts i (pos 0) = search rules in
    let place : k ≡ c.first_raw-first.result = search rules in
    let value : v ≡ c.value_at-value.result = search rules in
    let is : k ≡ first_raw (get_or starts i (pos 0)) (range_at point i) = place ∙ c.first_raw-first.ensures ∙ ap (λ t. first_raw t (range_at point i)) start in
    let told : v ≡ value_by (scale_at scales i) k = value ∙ c.value_at-value.ensures in
    let long : length c.propagate_fixed.new.ranges ≡ length ranges = omega arith in
    rw add-one (first_dives decimals circuit root scales starts i point ranges c.requires.dives c.requires.within k is c.propagate_fixed.new.ranges long c.propagate_fixed.ensures.domains
    (λ ks p h. subst (λ (b : Bool). Where b (IsInBox c.propagate_fixed.new.ranges (wide_at decimals circuit scales ks))) c.if-not-propagate_fixed.false
    (c.propagate_fixed.ensures.keeps ks (first_covers decimals circuit root scales starts i point ranges c.requires.dives c.requires.within k is v told ks p h))))

use Rattle.std.proofs.Common.{◌≤ℤ◌, List, length, map, set, subst, sym, ap, arith}
use Rattle.std.proofs.lemmas.List.{length-set}
use Rattle.lt_bounds.specs.Ranges.{range_at}
use Rattle.lt_num.specs.Interval.{IsWithin}
use Rattle.lt_num.specs.declared.interval.Interval.{Interval}
use Rattle.lt_space.specs.CircuitView.{circuit_formulas}
use Rattle.lt_space.specs.SpaceView.{space_circuit, space_decimals}
use Rattle.lt_formula.specs.Box.{IsInBox}
use Rattle.lt_formula.specs.Translation.{values_at}
use Rattle.lt_propagation.specs.Points.{wide_at}
use Rattle.lt_propagation.proofs.Boxes.{point_within, sizes_at}
use Rattle.lt_propagation.specs.Domains.{AreDomains}
use Rattle.lt_propagation.specs.Wide.{sign_at}
use Rattle.lt_solver.specs.inner.Drawing.{place_of}
use Rattle.lt_solver.proofs.Dives.{part_narrower, part_scaled, set_at}
use Rattle.lt_solver.proofs.Scaled.{scaled_narrower, scales_long, value_within}
use Rattle.lt_solver.proofs.parting.places_left.Goals as goal

pub bounds-scales-i : goal.bounds-scales-i
bounds-scales-i c = omega (arith, c.requires.within, scales_long c.args.scales.now c.args.current.now c.requires.scaled)

pub places_within-requires-clause-scaled : goal.places_within-requires-clause-scaled
places_within-requires-clause-scaled c = part_scaled c.args.scales.now c.args.i c.args.current.now c.requires.scaled c.requires.within c.args.part (c.requires.low, c.requires.some, c.requires.high)

pub places_within-requires-clause-low : goal.places_within-requires-clause-low
places_within-requires-clause-low c = (sizes_at c.deref-values.result.now c.args.i (subst AreDomains (sym c.deref-values.ensures.value) c.is_left.ensures.domains)).0

pub places_within-requires-clause-high : goal.places_within-requires-clause-high
places_within-requires-clause-high c = (sizes_at c.deref-values.result.now c.args.i (subst AreDomains (sym c.deref-values.ensures.value) c.is_left.ensures.domains)).1

pub returns-clause-kept : goal.returns-clause-kept
returns-clause-kept c ks p =
    let scales = c.args.scales.now in
    let box = c.args.current.now in
    let i = c.args.i in
    let part = c.args.part in
    let inside : ((range_at box i).low ≤ℤ part.low) × (part.low ≤ℤ part.high) × (part.high ≤ℤ (range_at box i).high) = (c.requires.low, c.requires.some, c.requires.high) in
    let new = set box i part in
    let here = c.requires.within in
    let there = length-set box i part in
    let wide = c.deref-values.result.now in
    let is = c.deref-values.ensures.value in
    let own = subst (λ (r : Interval). IsWithin r (place_of ks i)) (set_at box i part here) (point_within new ks i (omega (arith, here, there)) p.0) in
    let scaled = scaled_narrower scales box new c.requires.scaled (part_narrower scales i box c.requires.scaled here part inside) in
    c.places_within.ensures.kept (place_of ks i) own
    (value_within scales new wide ks (map (sign_at (space_decimals c.args.space.now) (values_at scales ks)) (circuit_formulas (space_circuit c.args.space.now))) i scaled p.0 (omega (arith, here, there))
    (omega (arith, there, ap length is, c.is_left.ensures.long, c.requires.long))
    (subst (λ (w : List Interval). IsInBox w (wide_at (space_decimals c.args.space.now) (space_circuit c.args.space.now) scales ks)) (sym is) (c.is_left.ensures.covers c.if-not-is_left.false ks p.0 p.1)))

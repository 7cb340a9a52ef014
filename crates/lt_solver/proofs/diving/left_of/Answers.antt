use Rattle.std.proofs.Common.{set, get_or, pos, map, arith}
use Rattle.std.proofs.lemmas.List.{length-set}
use Rattle.lt_formula.specs.Translation.{values_at}
use Rattle.lt_space.specs.CircuitView.{circuit_formulas}
use Rattle.lt_propagation.specs.Domains.{AreDomains}
use Rattle.lt_propagation.specs.Wide.{sign_at}
use Rattle.lt_propagation.proofs.Boxes.{sizes_at}
use Rattle.lt_solver.specs.inner.Dive.{Covers, test_of}
use Rattle.lt_solver.proofs.Dives.{part_narrower, part_scaled}
use Rattle.lt_solver.proofs.Parts.{in_part, not_both, of_any}
use Rattle.lt_solver.proofs.Scaled.{scaled_narrower, scales_long, value_within}
use Rattle.lt_solver.proofs.diving.left_of.Goals as goal

pub bounds-scales-i : goal.bounds-scales-i
bounds-scales-i c = omega (arith, c.requires.within, scales_long c.args.scales.now c.args.point.now c.requires.scaled)

pub places_within-requires-clause-scaled : goal.places_within-requires-clause-scaled
places_within-requires-clause-scaled c = part_scaled c.args.scales.now c.args.i c.args.point.now c.requires.scaled c.requires.within c.args.part (c.requires.low, c.is_left.ensures.some c.if-not-is_left.false, c.requires.high)

pub places_within-requires-clause-low : goal.places_within-requires-clause-low
places_within-requires-clause-low c = (sizes_at c.is_left.new.ranges c.args.i (c.is_left.ensures.domains c.if-not-is_left.false)).0

pub places_within-requires-clause-high : goal.places_within-requires-clause-high
places_within-requires-clause-high c = (sizes_at c.is_left.new.ranges c.args.i (c.is_left.ensures.domains c.if-not-is_left.false)).1

pub returns-then-not-is_left-clause-kept : goal.returns-then-not-is_left-clause-kept
returns-then-not-is_left-clause-kept c = λ ks p h. not_both (test_of c.args.decimals c.args.circuit.now c.args.root c.args.scales.now ks) (c.is_left.ensures.none c.if-not-is_left.true ks p) h

pub returns-clause-kept : goal.returns-clause-kept
returns-clause-kept c = λ ks p h.
    let scales = c.args.scales.now in
    let point = c.args.point.now in
    let i = c.args.i in
    let part = c.args.part in
    let so = c.if-not-is_left.false in
    let narrower = part_narrower scales i point c.requires.scaled c.requires.within part (c.requires.low, c.is_left.ensures.some so, c.requires.high) in
    let long = length-set point i part in
    c.places_within.ensures.kept (get_or ks i (pos 0)) (in_part point i c.requires.within part ks p)
    (value_within scales (set point i part) c.is_left.new.ranges ks (map (sign_at c.args.decimals (values_at scales ks)) (circuit_formulas c.args.circuit.now)) i (scaled_narrower scales point (set point i part) c.requires.scaled narrower) p (omega (arith, c.requires.within, long)) (omega (arith, c.requires.long, c.requires.copied, long)) (c.is_left.ensures.covers so ks p h))

pub returns-clause-covers : goal.returns-clause-covers
returns-clause-covers c = of_any c.places_within.result (Covers c.args.decimals c.args.circuit.now c.args.root c.args.scales.now (set c.args.point.now c.args.i c.args.part) c.is_left.new.ranges) (c.is_left.ensures.covers c.if-not-is_left.false)

pub returns-clause-domains : goal.returns-clause-domains
returns-clause-domains c = of_any c.places_within.result (AreDomains c.is_left.new.ranges) (c.is_left.ensures.domains c.if-not-is_left.false)

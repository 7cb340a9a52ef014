use Rattle.std.proofs.Common.{rules, ◌≡◌, ◌∙◌, ◌<◌, length, to_z, of_z, w64, add-one, arith}
use Rattle.std.proofs.lemmas.List.{length-set}
use Rattle.lt_bounds.specs.Ranges.{range_at}
use Rattle.lt_propagation.proofs.Boxes.{point_within, sizes_at}
use Rattle.lt_solver.specs.inner.Drawing.{place_of}
use Rattle.lt_solver.proofs.FirstPlaces.{IsFirstPlace, all_inside, end_first, one_written}
use Rattle.lt_solver.proofs.Scaled.{scale_at, scaled_at, scales_long, value_within}
use Rattle.lt_solver.proofs.corners.write_corner.Goals as goal

pub loop-j-init : goal.loop-j-init
loop-j-init c = record { long = c.requires.places; first = λ k h. absurd (omega (arith, h)) }

pub bounds-scales-j : goal.bounds-scales-j
bounds-scales-j c = omega (arith, c.loop-j.invariant.long, scales_long c.args.scales.now c.args.current.now c.requires.scaled)

pub places_within-requires-clause-scaled : goal.places_within-requires-clause-scaled
places_within-requires-clause-scaled c = scaled_at c.args.scales.now c.args.current.now c.loop-j.j c.requires.scaled (omega (arith, c.loop-j.invariant.long))

pub places_within-requires-clause-low : goal.places_within-requires-clause-low
places_within-requires-clause-low c = (sizes_at c.args.values.now c.loop-j.j c.requires.domains).0

pub places_within-requires-clause-high : goal.places_within-requires-clause-high
places_within-requires-clause-high c = (sizes_at c.args.values.now c.loop-j.j c.requires.domains).1

pub loop-j-preserved : goal.loop-j-preserved
loop-j-preserved c =
    let s = c.loop-j.invariant in
    let places = c.loop-j.places in
    let j = c.loop-j.j in
    let scale = scale_at c.args.scales.now j in
    let own = range_at c.args.current.now j in
    let values = range_at c.args.values.now j in
    let part = c.in-Some.part in
    let here : j < length places = omega arith in
    let stays : to_z w64 (of_z w64 c.first_end.result) ≡ c.first_end.result = search rules in
    let end = end_first c.args.is_down scale own values part _ (stays ∙ c.first_end.ensures) c.in-Some.ensures.inside c.in-Some.ensures.kept in
    record {
      long = length-set places j (to_z w64 (of_z w64 c.first_end.result)) ∙ s.long;
      first = rw add-one (one_written (λ k place. IsFirstPlace c.args.is_down (scale_at c.args.scales.now k) (range_at c.args.current.now k) (range_at c.args.values.now k) place) places j _ here s.first end);
    }

pub returns-clause-inside : goal.returns-clause-inside
returns-clause-inside c so =
    let s = c.loop-j.invariant in
    all_inside c.args.current.now c.loop-j.places s.long (λ k l. (s.first k (omega (arith, s.long, l))).inside)

pub returns-clause-first : goal.returns-clause-first
returns-clause-first c so i l other more p v =
    (c.loop-j.invariant.first i (omega (arith, c.loop-j.invariant.long, l))).first (place_of other i) (point_within c.args.current.now other i l p)
    (value_within c.args.scales.now c.args.current.now c.args.values.now other more i c.requires.scaled p l c.requires.long v)

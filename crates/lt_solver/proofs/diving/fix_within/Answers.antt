use Rattle.std.proofs.Common.{◌≡◌, suc, List, ℤ, ◌≤ℤ◌, length, set, get_or, Some, pos, of_z, to_z, w64, rules, refl, add-one, ap, sym, subst, ◌∙◌, arith}
use Rattle.std.proofs.lemmas.Int.{ints}
use Rattle.lt_bounds.proofs.Public.{narrower_same}
use Rattle.lt_bounds.specs.Ranges.{IsNarrower, range_at}
use Rattle.lt_formula.specs.Box.{IsInBox, first_in_box}
use Rattle.lt_num.specs.declared.interval.Interval.{Interval}
use Rattle.lt_solver.specs.inner.Dive.{Covers, IsDiving, test_of}
use Rattle.lt_solver.specs.inner.Fixing.{Keeps}
use Rattle.lt_solver.proofs.Dives.{dive_scaled, here, not_true, part_narrower}
use Rattle.lt_solver.proofs.Order.{range_of}
use Rattle.lt_solver.proofs.Parts.{behind_fits, found_dives, found_leads, from_behind, from_place, inside_fits, keeps_on, near_behind, near_place, none_left}
use Rattle.lt_solver.proofs.Scaled.{scaled_some}
use Rattle.lt_solver.proofs.diving.fix_within.Goals as goal
use Rattle.lt_solver.proofs.diving.fix_within.Goals.{in-None, in-Some+else-places}

pub loop-init : goal.loop-init
loop-init c = record {
  stays = refl;
  long = c.requires.long;
  low = omega (arith, ints);
  kept = λ ks p h. let fits : to_z w64 (of_z w64 c.args.part.low) ≡ c.args.part.low = search rules in subst (λ (z : ℤ). IsInBox (set c.args.point.now c.args.i (range_of z c.args.part.high)) ks) (sym fits) p;
}

pub returns-then-part-low-clause-narrower : goal.returns-then-part-low-clause-narrower
returns-then-part-low-clause-narrower c = subst (λ (box : List Interval). IsNarrower c.args.point.now box) (sym c.loop.invariant.stays) (narrower_same c.args.point.now (scaled_some c.args.scales.now c.args.point.now c.requires.dives.scaled))

pub returns-then-part-low-clause-none : goal.returns-then-part-low-clause-none
returns-then-part-low-clause-none c = λ so ks p.
    let test = test_of c.args.decimals c.args.circuit.now c.args.root c.args.scales.now in
    not_true (test ks) (none_left c.args.point.now c.args.i (here c.args.decimals c.args.circuit.now c.args.root c.args.scales.now c.args.starts.now c.args.i c.args.point.now c.args.spare.now c.requires.dives c.requires.within) test c.args.part (to_z w64 c.loop.low-bits) c.loop.invariant.kept (omega (arith, ints)) ks p)

pub overflow_add-low : goal.overflow_add-low
overflow_add-low c =
    let scaled = dive_scaled c.args.decimals c.args.circuit.now c.args.root c.args.scales.now c.args.starts.now c.args.i c.args.point.now c.args.spare.now c.requires.dives c.requires.within in
    let low = to_z w64 c.loop.low-bits in
    let last = to_z w64 (of_z w64 c.last_tried.result) in
    let last_fits : last ≡ c.last_tried.result = omega (arith, ints, scaled.low, scaled.high, c.requires.low, c.requires.high, c.loop.invariant.low, c.last_tried.ensures.low, c.last_tried.ensures.high) in
    omega (arith, ints, last_fits, scaled.low, scaled.high, c.requires.low, c.requires.high, c.loop.invariant.low, c.last_tried.ensures.low, c.last_tried.ensures.high)

pub returns-then-places-clause-leads : goal.returns-then-places-clause-leads
returns-then-places-clause-leads c = λ so ks h.
    let scaled = dive_scaled c.args.decimals c.args.circuit.now c.args.root c.args.scales.now c.args.starts.now c.args.i c.args.point.now c.args.spare.now c.requires.dives c.requires.within in
    let low = to_z w64 c.loop.low-bits in
    let last = to_z w64 (of_z w64 c.last_tried.result) in
    let last_fits : last ≡ c.last_tried.result = omega (arith, ints, scaled.low, scaled.high, c.requires.low, c.requires.high, c.loop.invariant.low, c.last_tried.ensures.low, c.last_tried.ensures.high) in
    let point = c.args.point.now in
    let i = c.args.i in
    let part = c.args.part in
    let test = test_of c.args.decimals c.args.circuit.now c.args.root c.args.scales.now in
    let stays = c.loop.invariant.stays in
    let places = c.in-Some.places in
    let inside = c.in-Some.ensures.inside in
    let low_fits : to_z w64 (of_z w64 places.low) ≡ places.low = omega (arith, ints, scaled.low, scaled.high, c.requires.low, c.requires.high, c.loop.invariant.low, c.last_tried.ensures.high, last_fits, inside.0, inside.1, inside.2) in
    let high_fits : to_z w64 (of_z w64 places.high) ≡ places.high = omega (arith, ints, scaled.low, scaled.high, c.requires.low, c.requires.high, c.loop.invariant.low, c.last_tried.ensures.high, last_fits, inside.0, inside.1, inside.2) in
    let one : places.low ≡ places.high = sym low_fits ∙ ap (to_z w64) c.if-places.true ∙ high_fits in
    let from : part.low ≤ℤ places.low = omega (arith, ints, c.loop.invariant.low, inside.0) in
    let up_to : places.high ≤ℤ part.high = omega (arith, ints, c.last_tried.ensures.high, last_fits, inside.2) in
    let kept = keeps_on point i (here c.args.decimals c.args.circuit.now c.args.root c.args.scales.now c.args.starts.now c.args.i c.args.point.now c.args.spare.now c.requires.dives c.requires.within) test part low places.low last c.loop.invariant.kept (omega (arith, ints, inside.1, inside.2))
    (λ ks p h. (c.in-Some.ensures.kept ks (subst (λ (box : List Interval). IsInBox (set box i (range_of low last)) ks) (sym stays) p) h).0) in
    found_leads c.args.decimals c.args.circuit.now c.args.root c.args.scales.now c.args.starts.now c.args.i c.args.point.now c.args.spare.now c.requires.dives c.requires.within part places (c.requires.low, c.requires.high) c.requires.upward one (from, up_to) kept ks
    (subst (λ (box : List Interval). first_in_box test (set box i places) c.args.starts.now ≡ Some ks) stays h)

pub returns-then-places-clause-dives : goal.returns-then-places-clause-dives
returns-then-places-clause-dives c = λ so.
    let scaled = dive_scaled c.args.decimals c.args.circuit.now c.args.root c.args.scales.now c.args.starts.now c.args.i c.args.point.now c.args.spare.now c.requires.dives c.requires.within in
    let low = to_z w64 c.loop.low-bits in
    let last = to_z w64 (of_z w64 c.last_tried.result) in
    let last_fits : last ≡ c.last_tried.result = omega (arith, ints, scaled.low, scaled.high, c.requires.low, c.requires.high, c.loop.invariant.low, c.last_tried.ensures.low, c.last_tried.ensures.high) in
    let point = c.args.point.now in
    let i = c.args.i in
    let part = c.args.part in
    let test = test_of c.args.decimals c.args.circuit.now c.args.root c.args.scales.now in
    let stays = c.loop.invariant.stays in
    let places = c.in-Some.places in
    let inside = c.in-Some.ensures.inside in
    let low_fits : to_z w64 (of_z w64 places.low) ≡ places.low = omega (arith, ints, scaled.low, scaled.high, c.requires.low, c.requires.high, c.loop.invariant.low, c.last_tried.ensures.high, last_fits, inside.0, inside.1, inside.2) in
    let high_fits : to_z w64 (of_z w64 places.high) ≡ places.high = omega (arith, ints, scaled.low, scaled.high, c.requires.low, c.requires.high, c.loop.invariant.low, c.last_tried.ensures.high, last_fits, inside.0, inside.1, inside.2) in
    let one : places.low ≡ places.high = sym low_fits ∙ ap (to_z w64) c.if-places.true ∙ high_fits in
    let from : part.low ≤ℤ places.low = omega (arith, ints, c.loop.invariant.low, inside.0) in
    let up_to : places.high ≤ℤ part.high = omega (arith, ints, c.last_tried.ensures.high, last_fits, inside.2) in
    let long : length c.left_of.new.ranges ≡ length c.args.spare.now = omega (arith, c.loop.invariant.long) in
    let among : ((range_at point i).low ≤ℤ places.low) × (places.low ≤ℤ places.high) × (places.high ≤ℤ (range_at point i).high) = (omega (arith, ints, c.requires.low, from), inside.1, omega (arith, ints, c.requires.high, up_to)) in
    let covers = subst (λ (box : List Interval). Covers c.args.decimals c.args.circuit.now c.args.root c.args.scales.now (set box i (range_of low last)) c.left_of.new.ranges) stays c.in-Some.ensures.covers in
    let dives = found_dives c.args.decimals c.args.circuit.now c.args.root c.args.scales.now c.args.starts.now c.args.i c.args.point.now c.args.spare.now c.requires.dives c.requires.within (range_of low last) places among one (inside.0, inside.2) c.left_of.new.ranges long c.in-Some.ensures.domains covers in
    rw add-one (subst (λ (box : List Interval). IsDiving c.args.decimals c.args.circuit.now c.args.root c.args.scales.now c.args.starts.now (suc i) (set box i places) c.left_of.new.ranges) (sym stays) dives)

pub returns-then-places-clause-narrower : goal.returns-then-places-clause-narrower
returns-then-places-clause-narrower c =
    let scaled = dive_scaled c.args.decimals c.args.circuit.now c.args.root c.args.scales.now c.args.starts.now c.args.i c.args.point.now c.args.spare.now c.requires.dives c.requires.within in
    let low = to_z w64 c.loop.low-bits in
    let last = to_z w64 (of_z w64 c.last_tried.result) in
    let last_fits : last ≡ c.last_tried.result = omega (arith, ints, scaled.low, scaled.high, c.requires.low, c.requires.high, c.loop.invariant.low, c.last_tried.ensures.low, c.last_tried.ensures.high) in
    let point = c.args.point.now in
    let i = c.args.i in
    let part = c.args.part in
    let test = test_of c.args.decimals c.args.circuit.now c.args.root c.args.scales.now in
    let stays = c.loop.invariant.stays in
    let places = c.in-Some.places in
    let inside = c.in-Some.ensures.inside in
    let low_fits : to_z w64 (of_z w64 places.low) ≡ places.low = omega (arith, ints, scaled.low, scaled.high, c.requires.low, c.requires.high, c.loop.invariant.low, c.last_tried.ensures.high, last_fits, inside.0, inside.1, inside.2) in
    let high_fits : to_z w64 (of_z w64 places.high) ≡ places.high = omega (arith, ints, scaled.low, scaled.high, c.requires.low, c.requires.high, c.loop.invariant.low, c.last_tried.ensures.high, last_fits, inside.0, inside.1, inside.2) in
    let one : places.low ≡ places.high = sym low_fits ∙ ap (to_z w64) c.if-places.true ∙ high_fits in
    let from : part.low ≤ℤ places.low = omega (arith, ints, c.loop.invariant.low, inside.0) in
    let up_to : places.high ≤ℤ part.high = omega (arith, ints, c.last_tried.ensures.high, last_fits, inside.2) in
    let among : ((range_at point i).low ≤ℤ places.low) × (places.low ≤ℤ places.high) × (places.high ≤ℤ (range_at point i).high) = (omega (arith, ints, c.requires.low, from), inside.1, omega (arith, ints, c.requires.high, up_to)) in
    subst (λ (box : List Interval). IsNarrower point (set box i places)) (sym stays) (part_narrower c.args.scales.now i point c.requires.dives.scaled (here c.args.decimals c.args.circuit.now c.args.root c.args.scales.now c.args.starts.now c.args.i c.args.point.now c.args.spare.now c.requires.dives c.requires.within) places among)

pub loop-preserved : goal.loop-preserved
loop-preserved c =
    let scaled = dive_scaled c.args.decimals c.args.circuit.now c.args.root c.args.scales.now c.args.starts.now c.args.i c.args.point.now c.args.spare.now c.requires.dives c.requires.within in
    let low = to_z w64 c.loop.low-bits in
    let last = to_z w64 (of_z w64 c.last_tried.result) in
    let last_fits : last ≡ c.last_tried.result = omega (arith, ints, scaled.low, scaled.high, c.requires.low, c.requires.high, c.loop.invariant.low, c.last_tried.ensures.low, c.last_tried.ensures.high) in
    let point = c.args.point.now in
    let i = c.args.i in
    let part = c.args.part in
    let test = test_of c.args.decimals c.args.circuit.now c.args.root c.args.scales.now in
    let stays = c.loop.invariant.stays in
    let next = to_z w64 c.match-left_of.low-bits in
    let least = (range_at point i).low in
    let greatest = (range_at point i).high in
    let start : least ≤ℤ low = omega (arith, ints, c.requires.low, c.loop.invariant.low) in
    let tried : low ≤ℤ last = omega (arith, ints, last_fits, c.last_tried.ensures.low) in
    let over : least ≤ℤ last = omega (arith, ints, start, tried) in
    let under : last ≤ℤ greatest = omega (arith, ints, last_fits, c.requires.high, c.last_tried.ensures.high) in
    let from : part.low ≤ℤ next =
    elim c.match-left_of.branch [
      | in-None w ↦
          let up = w.low-is ∙ behind_fits least greatest last scaled.low scaled.high over under in
          from_behind part.low low last next c.loop.invariant.low tried up
      | in-Some+else-places w ↦
          let inside = w.in-Some.ensures.inside in
          let is = w.low-is ∙ inside_fits least greatest low w.in-Some.places.low w.in-Some.places.high last scaled.low scaled.high start inside.0 inside.1 inside.2 under in
          from_place part.low low w.in-Some.places.low next c.loop.invariant.low inside.0 is
    ] in
    let kept : Keeps test (set point i part) (set point i (range_of next part.high)) =
    elim c.match-left_of.branch [
      | in-None w ↦
          let up = w.low-is ∙ behind_fits least greatest last scaled.low scaled.high over under in
          keeps_on point i (here c.args.decimals c.args.circuit.now c.args.root c.args.scales.now c.args.starts.now c.args.i c.args.point.now c.args.spare.now c.requires.dives c.requires.within) test part low next last c.loop.invariant.kept (near_behind last next up)
          (λ ks p h. absurd (w.in-None.ensures.kept ks (subst (λ (box : List Interval). IsInBox (set box i (range_of low last)) ks) (sym stays) p) h))
      | in-Some+else-places w ↦
          let inside = w.in-Some.ensures.inside in
          let is = w.low-is ∙ inside_fits least greatest low w.in-Some.places.low w.in-Some.places.high last scaled.low scaled.high start inside.0 inside.1 inside.2 under in
          keeps_on point i (here c.args.decimals c.args.circuit.now c.args.root c.args.scales.now c.args.starts.now c.args.i c.args.point.now c.args.spare.now c.requires.dives c.requires.within) test part low next last c.loop.invariant.kept (near_place w.in-Some.places.low w.in-Some.places.high last next inside.1 inside.2 is)
          (λ ks p h. subst (λ (z : ℤ). z ≤ℤ get_or ks i (pos 0)) (sym is) (w.in-Some.ensures.kept ks (subst (λ (box : List Interval). IsInBox (set box i (range_of low last)) ks) (sym stays) p) h).0)
    ] in
    record {
      stays = stays;
      long = omega (arith, c.loop.invariant.long);
      low = from;
      kept = kept;
    }

pub returns-clause-narrower : goal.returns-clause-narrower
returns-clause-narrower c = subst (λ (box : List Interval). IsNarrower c.args.point.now box) (sym c.loop.invariant.stays) (narrower_same c.args.point.now (scaled_some c.args.scales.now c.args.point.now c.requires.dives.scaled))

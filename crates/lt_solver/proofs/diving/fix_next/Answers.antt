use Rattle.std.proofs.Common.{◌≡◌, List, Some, length, set, get_or, pos, false, rules, ap, sym, subst, ◌∙◌, arith}
use Rattle.lt_bounds.proofs.Public.{narrower_more, narrower_same}
use Rattle.lt_bounds.specs.Ranges.{range_at}
use Rattle.lt_formula.specs.Box.{IsInBox, first_in_box}
use Rattle.lt_num.specs.declared.interval.Interval.{Interval}
use Rattle.lt_propagation.proofs.Boxes.{sizes_at}
use Rattle.lt_solver.specs.inner.Dive.{IsDiving, test_of}
use Rattle.lt_solver.specs.inner.Points.{first_raw}
use Rattle.lt_solver.proofs.Dives.{dive_scaled, here, left_dives, left_leads, part_narrower}
use Rattle.lt_solver.proofs.Scaled.{scaled_some, scales_long}
use Rattle.lt_solver.proofs.diving.fix_next.Goals as goal

pub bounds-scales-i : goal.bounds-scales-i
bounds-scales-i c = let d = c.requires.dives in omega (arith, c.requires.within, d.count, scales_long c.args.scales.now c.args.point.now d.scaled)

pub places_within-requires-clause-scaled : goal.places_within-requires-clause-scaled
places_within-requires-clause-scaled c = dive_scaled c.args.decimals c.args.circuit.now c.args.root c.args.scales.now c.args.starts.now c.args.i c.args.point.now c.args.ranges.now c.requires.dives c.requires.within

pub places_within-requires-clause-low : goal.places_within-requires-clause-low
places_within-requires-clause-low c = (sizes_at c.args.ranges.now c.args.i c.requires.dives.domains).0

pub places_within-requires-clause-high : goal.places_within-requires-clause-high
places_within-requires-clause-high c = (sizes_at c.args.ranges.now c.args.i c.requires.dives.domains).1

pub fix_first-requires-clause-dives : goal.fix_first-requires-clause-dives
fix_first-requires-clause-dives c = left_dives c.args.decimals c.args.circuit.now c.args.root c.args.scales.now c.args.starts.now c.args.i c.args.point.now c.args.ranges.now c.requires.dives c.requires.within c.in-Some.places c.in-Some.ensures.inside c.in-Some.ensures.kept

pub fix_later-requires-clause-dives : goal.fix_later-requires-clause-dives
fix_later-requires-clause-dives c =
    let decimals = c.args.decimals in
    let circuit = c.args.circuit.now in
    let root = c.args.root in
    let scales = c.args.scales.now in
    let starts = c.args.starts.now in
    let i = c.args.i in
    let left = left_dives decimals circuit root scales starts i c.args.point.now c.args.ranges.now c.requires.dives c.requires.within c.in-Some.places c.in-Some.ensures.inside c.in-Some.ensures.kept in
    let behind : c.deref.result.now ≡ c.is_copied.new.spare.items = search rules in
    subst (λ (box : List Interval). IsDiving decimals circuit root scales starts i box c.deref.result.now) (sym (c.fix_first.ensures.stays c.if-fix_first.false))
    (subst (λ (wide : List Interval). IsDiving decimals circuit root scales starts i (set c.args.point.now i c.in-Some.places) wide) (sym (behind ∙ c.is_copied.ensures.copied c.if-not-is_copied.false)) left)

pub fix_later-requires-clause-long : goal.fix_later-requires-clause-long
fix_later-requires-clause-long c = let e = c.is_copied.ensures.copied c.if-not-is_copied.false in omega (arith, ap length e)

pub fix_later-requires-clause-none : goal.fix_later-requires-clause-none
fix_later-requires-clause-none c = λ ks.
    let test = test_of c.args.decimals c.args.circuit.now c.args.root c.args.scales.now in
    let t = get_or c.args.starts.now c.args.i (pos 0) in
    subst (λ (box : List Interval). IsInBox (set box c.args.i (record { low = first_raw t (range_at box c.args.i); high = first_raw t (range_at box c.args.i) })) ks → test ks ≡ false) (sym (c.fix_first.ensures.stays c.if-fix_first.false))
    (c.fix_first.ensures.none c.if-fix_first.false ks)

pub returns-in_default-clause-narrower : goal.returns-in_default-clause-narrower
returns-in_default-clause-narrower c = narrower_same c.args.point.now (scaled_some c.args.scales.now c.args.point.now c.requires.dives.scaled)

pub returns-then-not-is_copied-clause-narrower : goal.returns-then-not-is_copied-clause-narrower
returns-then-not-is_copied-clause-narrower c = part_narrower c.args.scales.now c.args.i c.args.point.now c.requires.dives.scaled (here c.args.decimals c.args.circuit.now c.args.root c.args.scales.now c.args.starts.now c.args.i c.args.point.now c.args.ranges.now c.requires.dives c.requires.within) c.in-Some.places c.in-Some.ensures.inside

pub returns-then-fix_first-clause-leads : goal.returns-then-fix_first-clause-leads
returns-then-fix_first-clause-leads c = λ so ks h. left_leads c.args.decimals c.args.circuit.now c.args.root c.args.scales.now c.args.starts.now c.args.i c.args.point.now c.args.ranges.now c.requires.dives c.requires.within c.in-Some.places c.in-Some.ensures.inside c.in-Some.ensures.kept ks (c.fix_first.ensures.leads c.if-fix_first.true ks h)

pub returns-then-fix_first-clause-narrower : goal.returns-then-fix_first-clause-narrower
returns-then-fix_first-clause-narrower c =
    let left = part_narrower c.args.scales.now c.args.i c.args.point.now c.requires.dives.scaled (here c.args.decimals c.args.circuit.now c.args.root c.args.scales.now c.args.starts.now c.args.i c.args.point.now c.args.ranges.now c.requires.dives c.requires.within) c.in-Some.places c.in-Some.ensures.inside in
    narrower_more c.args.point.now (set c.args.point.now c.args.i c.in-Some.places) c.fix_first.new.point left c.fix_first.ensures.narrower

pub returns-clause-leads : goal.returns-clause-leads
returns-clause-leads c = λ so ks h.
    let test = test_of c.args.decimals c.args.circuit.now c.args.root c.args.scales.now in
    let stays = c.fix_first.ensures.stays c.if-fix_first.false in
    left_leads c.args.decimals c.args.circuit.now c.args.root c.args.scales.now c.args.starts.now c.args.i c.args.point.now c.args.ranges.now c.requires.dives c.requires.within c.in-Some.places c.in-Some.ensures.inside c.in-Some.ensures.kept ks
    (subst (λ (box : List Interval). first_in_box test box c.args.starts.now ≡ Some ks) stays (c.fix_later.ensures.leads so ks h))

pub returns-clause-narrower : goal.returns-clause-narrower
returns-clause-narrower c =
    let left = part_narrower c.args.scales.now c.args.i c.args.point.now c.requires.dives.scaled (here c.args.decimals c.args.circuit.now c.args.root c.args.scales.now c.args.starts.now c.args.i c.args.point.now c.args.ranges.now c.requires.dives c.requires.within) c.in-Some.places c.in-Some.ensures.inside in
    narrower_more c.args.point.now (set c.args.point.now c.args.i c.in-Some.places) c.fix_later.new.point left (narrower_more (set c.args.point.now c.args.i c.in-Some.places) c.fix_first.new.point c.fix_later.new.point c.fix_first.ensures.narrower c.fix_later.ensures.narrower)

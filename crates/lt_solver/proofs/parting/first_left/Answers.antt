use Rattle.std.proofs.Common.{rules, ◌≡◌, ◌<◌, ◌≤◌, ◌≤ℤ◌, ℕ, Bool, true, false, ◌<ℤ◌, ◌+ℤ◌, ◌-ℤ◌, pos, List, ℤ, to_z, of_z, w64, length, unsigned_abs, set, if◌then◌else◌, refl, sym, ◌∙◌, subst, arith}
use Rattle.std.proofs.lemmas.Int.{ints}
use Rattle.lt_bounds.specs.Places.{AreScaled}
use Rattle.lt_bounds.specs.Ranges.{range_at}
use Rattle.lt_num.specs.Bounds.{most_raw}
use Rattle.lt_num.specs.Interval.{IsWithin}
use Rattle.lt_formula.specs.declared.scale.Scale.{Scale}
use Rattle.lt_num.specs.declared.interval.Interval.{Interval}
use Rattle.lt_formula.proofs.Places.{lt_false}
use Rattle.lt_formula.specs.Box.{IsInBox}
use Rattle.lt_formula.specs.Solution.{comes_before}
use Rattle.lt_solver.specs.inner.Classified.{passes}
use Rattle.lt_solver.specs.inner.Drawing.{Passes, place_of, place_only}
use Rattle.lt_propagation.proofs.Boxes.{point_set}
use Rattle.lt_solver.proofs.Dives.{not_true, part_narrower, point_wider}
use Rattle.lt_solver.proofs.Draws.{end_within, left_part, only_place, part_inside, pass_part, place_stays, up_from}
use Rattle.lt_solver.proofs.Scaled.{scaled_at}
use Rattle.lt_solver.proofs.parting.first_left.Goals.{in-None, in-Some+else-places}
use Rattle.lt_solver.proofs.parting.first_left.Goals as goal

pub part_from-part-requires-clause-place : goal.part_from-part-requires-clause-place
part_from-part-requires-clause-place c =
    let s = scaled_at c.args.scales.now c.args.current.now c.args.i c.requires.scaled c.requires.within in
    let low = s.low in
    let high = s.high in
    let w = c.loop.invariant.within in
    omega (arith, ints, low, high, w.0, w.1)

pub part_from-part-requires-clause-stop : goal.part_from-part-requires-clause-stop
part_from-part-requires-clause-stop c =
    let s = scaled_at c.args.scales.now c.args.current.now c.args.i c.requires.scaled c.requires.within in
    let low = s.low in
    let high = s.high in
    let w = c.requires.stop in
    omega (arith, ints, low, high, w.0, w.1)

-- The part that is looked at lies between the place at hand and the one to stop at; so none of its places is past 10^12 in size.
inside : (scales : List Scale) (box : List Interval) (i : ℕ) → AreScaled scales box → i < length box → (stop : ℤ) → IsWithin (range_at box i) stop → (place : ℤ) → IsWithin (range_at box i) place → (down : Bool) (part : Interval)
    → (down ≡ true → (part.high ≡ place) × (to_z w64 (of_z w64 stop) <ℤ part.low) × (part.low ≤ℤ place)) → (down ≡ false → (part.low ≡ place) × (part.high <ℤ to_z w64 (of_z w64 stop)) × (place ≤ℤ part.high))
    → ((range_at box i).low ≤ℤ part.low) × (part.low ≤ℤ part.high) × (part.high ≤ℤ (range_at box i).high) × (unsigned_abs part.low ≤ most_raw) × (unsigned_abs part.high ≤ most_raw)
inside scales box i scaled here stop v place w down part d u =
    let s = scaled_at scales box i scaled here in
    let low = s.low in
    let high = s.high in
    let last : IsWithin (range_at box i) (to_z w64 (of_z w64 stop)) = (omega (arith, ints, low, high, v.0, v.1), omega (arith, ints, low, high, v.0, v.1)) in
    let p = part_inside down place (to_z w64 (of_z w64 stop)) (range_at box i) part w last d u in
    (p.0, p.1, p.2, omega (arith, ints, low, high, p.0, p.1, p.2), omega (arith, ints, low, high, p.0, p.1, p.2))

pub places_left-requires-clause-low : goal.places_left-requires-clause-low
places_left-requires-clause-low c = (inside c.args.scales.now c.args.current.now c.args.i c.requires.scaled c.requires.within c.args.stop c.requires.stop (to_z w64 c.loop.place-bits) c.loop.invariant.within c.args.is_down c.part_from-part.result c.part_from-part.ensures.down c.part_from-part.ensures.up).0

pub places_left-requires-clause-some : goal.places_left-requires-clause-some
places_left-requires-clause-some c = (inside c.args.scales.now c.args.current.now c.args.i c.requires.scaled c.requires.within c.args.stop c.requires.stop (to_z w64 c.loop.place-bits) c.loop.invariant.within c.args.is_down c.part_from-part.result c.part_from-part.ensures.down c.part_from-part.ensures.up).1

pub places_left-requires-clause-high : goal.places_left-requires-clause-high
places_left-requires-clause-high c = (inside c.args.scales.now c.args.current.now c.args.i c.requires.scaled c.requires.within c.args.stop c.requires.stop (to_z w64 c.loop.place-bits) c.loop.invariant.within c.args.is_down c.part_from-part.result c.part_from-part.ensures.down c.part_from-part.ensures.up).2

pub place_behind-place-requires-clause-low : goal.place_behind-place-requires-clause-low
place_behind-place-requires-clause-low c = (inside c.args.scales.now c.args.current.now c.args.i c.requires.scaled c.requires.within c.args.stop c.requires.stop (to_z w64 c.loop.place-bits) c.loop.invariant.within c.args.is_down c.part_from-part.result c.part_from-part.ensures.down c.part_from-part.ensures.up).3

pub place_behind-place-requires-clause-high : goal.place_behind-place-requires-clause-high
place_behind-place-requires-clause-high c = (inside c.args.scales.now c.args.current.now c.args.i c.requires.scaled c.requires.within c.args.stop c.requires.stop (to_z w64 c.loop.place-bits) c.loop.invariant.within c.args.is_down c.part_from-part.result c.part_from-part.ensures.down c.part_from-part.ensures.up).4

-- what is behind a part
behind : (down : Bool) (start stop place next : ℤ) (r part : Interval) → IsWithin r place → IsWithin r stop
    → (down ≡ true → (part.high ≡ place) × (stop <ℤ part.low) × (part.low ≤ℤ place)) → (down ≡ false → (part.low ≡ place) × (part.high <ℤ stop) × (place ≤ℤ part.high))
    → (down ≡ true → next ≡ part.low -ℤ pos 1) → (down ≡ false → next ≡ part.high +ℤ pos 1) → comes_before down place start ≡ false
    → IsWithin r next × (comes_before down next start ≡ false) × (comes_before down stop next ≡ false)
behind false start stop place next r part w v d u b a on =
    let p = u refl in
    let n = a refl in
    let over = up_from place start on in
    ((omega (arith, ints, p.0, p.2, n, w.0), omega (arith, ints, n, p.1, v.1)), lt_false next start (omega (arith, ints, n, p.0, p.2, over)), lt_false stop next (omega (arith, ints, n, p.1)))
behind true start stop place next r part w v d u b a on =
    let p = d refl in
    let n = b refl in
    let under = up_from start place on in
    ((omega (arith, ints, n, p.1, v.0), omega (arith, ints, p.0, p.2, n, w.1)), lt_false start next (omega (arith, ints, n, p.0, p.2, under)), lt_false next stop (omega (arith, ints, n, p.1)))

-- a place within a part
ahead : (down : Bool) (start stop place next : ℤ) (r part : Interval) → IsWithin r place → IsWithin r stop
    → (down ≡ true → (part.high ≡ place) × (stop <ℤ part.low) × (part.low ≤ℤ place)) → (down ≡ false → (part.low ≡ place) × (part.high <ℤ stop) × (place ≤ℤ part.high))
    → IsWithin part next → comes_before down place start ≡ false
    → IsWithin r next × (comes_before down next start ≡ false) × (comes_before down stop next ≡ false)
ahead false start stop place next r part w v d u n on =
    let p = u refl in
    let over = up_from place start on in
    ((omega (arith, ints, p.0, n.0, w.0), omega (arith, ints, n.1, p.1, v.1)), lt_false next start (omega (arith, ints, n.0, p.0, over)), lt_false stop next (omega (arith, ints, n.1, p.1)))
ahead true start stop place next r part w v d u n on =
    let p = d refl in
    let under = up_from start place on in
    ((omega (arith, ints, n.0, p.1, v.0), omega (arith, ints, p.0, n.1, w.1)), lt_false start next (omega (arith, ints, n.1, p.0, under)), lt_false next stop (omega (arith, ints, n.0, p.1)))

-- The first of the places that are left of a part, where a look leaves some.
module _ (test : List ℤ → Bool) (scales : List Scale) (box : List Interval) (i : ℕ) (scaled : AreScaled scales box) (here : i < length box) (down : Bool) (start stop place next : ℤ) (part left : Interval)
    (w : IsWithin (range_at box i) place) (v : IsWithin (range_at box i) stop)
    (d : down ≡ true → (part.high ≡ place) × (stop <ℤ part.low) × (part.low ≤ℤ place)) (u : down ≡ false → (part.low ≡ place) × (part.high <ℤ stop) × (place ≤ℤ part.high))
    (inside : (part.low ≤ℤ left.low) × (left.low ≤ℤ left.high) × (left.high ≤ℤ part.high)) (is : next ≡ (if down then left.high else left.low)) (on : comes_before down place start ≡ false) where
  in_left : IsWithin left next
  in_left = subst (λ (z : ℤ). IsWithin left z) (sym is) (end_within down left inside.1)

  in_part : IsWithin part next
  in_part = let l = in_left in (omega (arith, ints, inside.0, l.0), omega (arith, ints, inside.2, l.1))

  there : IsWithin (range_at box i) next × (comes_before down next start ≡ false) × (comes_before down stop next ≡ false)
  there = ahead down start stop place next (range_at box i) part w v d u in_part on

  none : ((ks : List ℤ) → Passes test (set box i part) ks → IsWithin left (place_of ks i))
      → ((ks : List ℤ) → Passes test box ks → comes_before down (place_of ks i) start ≡ false → comes_before down (place_of ks i) place ≡ false)
      → (ks : List ℤ) → Passes test box ks → comes_before down (place_of ks i) start ≡ false → comes_before down (place_of ks i) next ≡ false
  none kept before ks p on = subst (λ (z : ℤ). comes_before down (place_of ks i) z ≡ false) (sym is)
      (left_part test box i down start place part left (λ e. (d e).0) (λ e. (u e).0) inside.2 inside.0 kept before inside.1 ks p on)

  -- places of the box with that one are some of the part
  of_part : (ks : List ℤ) → IsInBox (set box i (place_only next)) ks → IsInBox (set box i part) ks
  of_part ks p =
      let at = only_place box ks i next here p in
      let r = there.0 in
      let n = in_part in
      let narrower = part_narrower scales i box scaled here (place_only next) (r.0, omega (arith, ints), r.1) in
      point_set box ks i part (point_wider box (set box i (place_only next)) ks narrower p) (omega (arith, ints, at, n.0), omega (arith, ints, at, n.1))

-- the place to stop at lies in the range
last : (scales : List Scale) (box : List Interval) (i : ℕ) → AreScaled scales box → i < length box → (stop : ℤ) → IsWithin (range_at box i) stop → IsWithin (range_at box i) (to_z w64 (of_z w64 stop))
last scales box i scaled here stop v = subst (λ (z : ℤ). IsWithin (range_at box i) z) (sym (place_stays scales box i scaled here stop v)) v

pub returns-then-places-clause-first : goal.returns-then-places-clause-first
returns-then-places-clause-first c =
    let scales = c.args.scales.now in
    let box = c.args.current.now in
    let i = c.args.i in
    let down = c.args.is_down in
    let inv = c.loop.invariant in
    let start : to_z w64 (of_z w64 c.args.start) ≡ c.args.start = search rules in
    let stop : to_z w64 (of_z w64 c.args.stop) ≡ c.args.stop = search rules in
    let next = to_z w64 (of_z w64 c.first_end-place.result) in
    let fits = c.first_end-place.type_inv in
    let is : next ≡ (if down then c.in-Some.places.high else c.in-Some.places.low) = omega (arith, ints, fits) ∙ c.first_end-place.ensures in
    let v = last scales box i c.requires.scaled c.requires.within c.args.stop c.requires.stop in
    let all = there (passes c.args.space.now scales) scales box i c.requires.scaled c.requires.within down (to_z w64 (of_z w64 c.args.start)) (to_z w64 (of_z w64 c.args.stop)) (to_z w64 c.loop.place-bits) next c.part_from-part.result c.in-Some.places inv.within v c.part_from-part.ensures.down c.part_from-part.ensures.up c.in-Some.ensures.inside is inv.on in
    let before = none (passes c.args.space.now scales) scales box i c.requires.scaled c.requires.within down (to_z w64 (of_z w64 c.args.start)) (to_z w64 (of_z w64 c.args.stop)) (to_z w64 c.loop.place-bits) next c.part_from-part.result c.in-Some.places inv.within v c.part_from-part.ensures.down c.part_from-part.ensures.up c.in-Some.ensures.inside is inv.on c.in-Some.ensures.kept inv.none in (
      subst (λ (z : ℤ). comes_before down next z ≡ false) start all.1,
      subst (λ (z : ℤ). comes_before down z next ≡ false) stop all.2,
      λ ks p on. before ks p (subst (λ (z : ℤ). comes_before down (place_of ks i) z ≡ false) (sym start) on),
    )

pub returns-then-places-clause-covers : goal.returns-then-places-clause-covers
returns-then-places-clause-covers c other ks p h =
    let scales = c.args.scales.now in
    let box = c.args.current.now in
    let i = c.args.i in
    let down = c.args.is_down in
    let inv = c.loop.invariant in
    let next = to_z w64 (of_z w64 c.first_end-place.result) in
    let fits = c.first_end-place.type_inv in
    let is : next ≡ (if down then c.in-Some.places.high else c.in-Some.places.low) = omega (arith, ints, fits) ∙ c.first_end-place.ensures in
    let v = last scales box i c.requires.scaled c.requires.within c.args.stop c.requires.stop in
    c.in-Some.ensures.covers ks (of_part (passes c.args.space.now scales) scales box i c.requires.scaled c.requires.within down (to_z w64 (of_z w64 c.args.start)) (to_z w64 (of_z w64 c.args.stop)) (to_z w64 c.loop.place-bits) next c.part_from-part.result c.in-Some.places inv.within v c.part_from-part.ensures.down c.part_from-part.ensures.up c.in-Some.ensures.inside is inv.on ks p) h

pub loop-preserved : goal.loop-preserved
loop-preserved c =
    let scales = c.args.scales.now in
    let start = to_z w64 (of_z w64 c.args.start) in
    let stop = to_z w64 (of_z w64 c.args.stop) in
    let place = to_z w64 c.loop.place-bits in
    let next = to_z w64 c.match-places_left.place-bits in
    let down = c.args.is_down in
    let i = c.args.i in
    let box = c.args.current.now in
    let part = c.part_from-part.result in
    let inv = c.loop.invariant in
    let copied = c.places_left.ensures.copy in
    let copies = inv.copy in
    let d = c.part_from-part.ensures.down in
    let u = c.part_from-part.ensures.up in
    let v = last scales box i c.requires.scaled c.requires.within c.args.stop c.requires.stop in
    elim c.match-places_left.branch [
      | in-None w ↦
          let r = w.place_behind-place.result in
          let fits = w.place_behind-place.type_inv in
          let is : next ≡ r = w.place-is ∙ omega (arith, ints, fits) in
          let b : down ≡ true → next ≡ part.low -ℤ pos 1 = λ e. is ∙ w.place_behind-place.ensures.down e in
          let a : down ≡ false → next ≡ part.high +ℤ pos 1 = λ e. is ∙ w.place_behind-place.ensures.up e in
          let all = behind down start stop place next (range_at box i) part inv.within v d u b a inv.on in
          record {
            within = all.0;
            on = all.1;
            order = all.2;
            none = pass_part (passes c.args.space.now scales) box i down start place next part (λ e. ((d e).0, b e)) (λ e. ((u e).0, a e)) (λ ks p. not_true (passes c.args.space.now scales ks) (λ h. w.in-None.ensures.kept ks (p, h))) inv.none;
            copy = omega (arith, copied, copies);
            kleenes = c.places_left.ensures.kleenes ∙ inv.kleenes;
          }
      | in-Some+else-places w ↦
          let left = w.in-Some.places in
          let fits = w.first_end-place.type_inv in
          let is : next ≡ (if down then left.high else left.low) = w.place-is ∙ omega (arith, ints, fits) ∙ w.first_end-place.ensures in
          let all = there (passes c.args.space.now scales) scales box i c.requires.scaled c.requires.within down start stop place next part left inv.within v d u w.in-Some.ensures.inside is inv.on in
          record {
            within = all.0;
            on = all.1;
            order = all.2;
            none = none (passes c.args.space.now scales) scales box i c.requires.scaled c.requires.within down start stop place next part left inv.within v d u w.in-Some.ensures.inside is inv.on w.in-Some.ensures.kept inv.none;
            copy = omega (arith, copied, copies);
            kleenes = c.places_left.ensures.kleenes ∙ inv.kleenes;
          }
    ]

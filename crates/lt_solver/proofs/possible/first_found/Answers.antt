use Rattle.std.proofs.Common.{◌≡◌, ◌∙◌, ◌<◌, ℕ, Bool, List, ℤ, length, set, to_z, of_z, w64, ap, sym, subst, arith}
use Rattle.std.proofs.lemmas.Int.{ints}
use Rattle.lt_bounds.specs.Places.{AreScaled}
use Rattle.lt_bounds.specs.Ranges.{range_at}
use Rattle.lt_formula.specs.Box.{IsInBox}
use Rattle.lt_formula.specs.declared.scale.Scale.{Scale}
use Rattle.lt_num.specs.Interval.{IsWithin}
use Rattle.lt_num.specs.declared.interval.Interval.{Interval}
use Rattle.lt_solver.specs.inner.Classified.{passes}
use Rattle.lt_solver.specs.inner.Drawing.{IsFirstLeft, place_of, place_only}
use Rattle.lt_solver.proofs.Dives.{part_narrower, point_wider}
use Rattle.lt_solver.proofs.Draws.{between, only_place, place_stays, place_there}
use Rattle.lt_solver.proofs.Scaled.{box_long}
use Rattle.lt_solver.proofs.possible.first_found.Goals as goal

-- one between two places of a box is in it, and is one that the code has
module _ (test : List ℤ → Bool) (scales : List Scale) (box : List Interval) (i : ℕ) (scaled : AreScaled scales box) (here : i < length box) (ks : List ℤ) (p : IsInBox box ks) (down : Bool) (start stop place : ℤ)
    (first : IsWithin (range_at box i) start) (last : place_of ks i ≡ stop) (is : IsFirstLeft test box i down (to_z w64 (of_z w64 start)) (to_z w64 (of_z w64 stop)) place) where
  stop_there : IsWithin (range_at box i) stop
  stop_there = place_there box ks i stop here p last

  start_stays : to_z w64 (of_z w64 start) ≡ start
  start_stays = place_stays scales box i scaled here start first

  stop_stays : to_z w64 (of_z w64 stop) ≡ stop
  stop_stays = place_stays scales box i scaled here stop stop_there

  is_first : IsFirstLeft test box i down start stop place
  is_first = subst (λ (z : ℤ). IsFirstLeft test box i down start z place) stop_stays (subst (λ (z : ℤ). IsFirstLeft test box i down z (to_z w64 (of_z w64 stop)) place) start_stays is)

  there : IsWithin (range_at box i) place
  there = between down (range_at box i) start stop place first stop_there is_first.0 is_first.1

  stays : to_z w64 (of_z w64 place) ≡ place
  stays = place_stays scales box i scaled here place there

pub first_left-requires-clause-stop : goal.first_left-requires-clause-stop
first_left-requires-clause-stop c =
    let w = place_there c.args.current.now c.args.witness.now c.args.i c.args.stop c.requires.within c.requires.witness.0 c.requires.stop in
    let e = place_stays c.args.scales.now c.args.current.now c.args.i c.requires.scaled c.requires.within c.args.stop w in
    (omega (arith, ints, e, w.0), omega (arith, ints, e, w.1))

pub is_found_at-requires-clause-witness : goal.is_found_at-requires-clause-witness
is_found_at-requires-clause-witness c = box_long c.args.current.now c.args.witness.now c.requires.witness.0

pub is_found_at-requires-clause-place : goal.is_found_at-requires-clause-place
is_found_at-requires-clause-place c =
    let w = there (passes c.args.space.now c.args.scales.now) c.args.scales.now c.args.current.now c.args.i c.requires.scaled c.requires.within c.args.witness.now c.requires.witness.0 c.args.is_down c.args.start c.args.stop c.in_ok-place.place c.requires.start c.requires.stop c.in_ok-place.ensures.first in
    let e = stays (passes c.args.space.now c.args.scales.now) c.args.scales.now c.args.current.now c.args.i c.requires.scaled c.requires.within c.args.witness.now c.requires.witness.0 c.args.is_down c.args.start c.args.stop c.in_ok-place.place c.requires.start c.requires.stop c.in_ok-place.ensures.first in
    (omega (arith, ints, e, w.0), omega (arith, ints, e, w.1))

pub is_found_at-requires-clause-covers : goal.is_found_at-requires-clause-covers
is_found_at-requires-clause-covers c ks p h =
    let other = λ (e : c.in_ok-place.place ≡ to_z w64 (of_z w64 c.args.stop)). c.if-place-stop.false (ap (of_z w64) (e ∙ stop_stays (passes c.args.space.now c.args.scales.now) c.args.scales.now c.args.current.now c.args.i c.requires.scaled c.requires.within c.args.witness.now c.requires.witness.0 c.args.is_down c.args.start c.args.stop c.in_ok-place.place c.requires.start c.requires.stop c.in_ok-place.ensures.first)) in
    c.in_ok-place.ensures.covers other ks (subst (λ (z : ℤ). IsInBox (set c.args.current.now c.args.i (place_only z)) ks) (stays (passes c.args.space.now c.args.scales.now) c.args.scales.now c.args.current.now c.args.i c.requires.scaled c.requires.within c.args.witness.now c.requires.witness.0 c.args.is_down c.args.start c.args.stop c.in_ok-place.place c.requires.start c.requires.stop c.in_ok-place.ensures.first) p) h

pub returns-then-is_found_at-clause-first : goal.returns-then-is_found_at-clause-first
returns-then-is_found_at-clause-first c = subst (λ (z : ℤ). IsFirstLeft (passes c.args.space.now c.args.scales.now) c.args.current.now c.args.i c.args.is_down c.args.start c.args.stop z) (sym (stays (passes c.args.space.now c.args.scales.now) c.args.scales.now c.args.current.now c.args.i c.requires.scaled c.requires.within c.args.witness.now c.requires.witness.0 c.args.is_down c.args.start c.args.stop c.in_ok-place.place c.requires.start c.requires.stop c.in_ok-place.ensures.first)) (is_first (passes c.args.space.now c.args.scales.now) c.args.scales.now c.args.current.now c.args.i c.requires.scaled c.requires.within c.args.witness.now c.requires.witness.0 c.args.is_down c.args.start c.args.stop c.in_ok-place.place c.requires.start c.requires.stop c.in_ok-place.ensures.first)

pub returns-then-is_found_at-clause-found : goal.returns-then-is_found_at-clause-found
returns-then-is_found_at-clause-found c =
    let k = to_z w64 (of_z w64 c.in_ok-place.place) in
    let w = there (passes c.args.space.now c.args.scales.now) c.args.scales.now c.args.current.now c.args.i c.requires.scaled c.requires.within c.args.witness.now c.requires.witness.0 c.args.is_down c.args.start c.args.stop c.in_ok-place.place c.requires.start c.requires.stop c.in_ok-place.ensures.first in
    let e = stays (passes c.args.space.now c.args.scales.now) c.args.scales.now c.args.current.now c.args.i c.requires.scaled c.requires.within c.args.witness.now c.requires.witness.0 c.args.is_down c.args.start c.args.stop c.in_ok-place.place c.requires.start c.requires.stop c.in_ok-place.ensures.first in
    let narrower = part_narrower c.args.scales.now c.args.i c.args.current.now c.requires.scaled c.requires.within (place_only k) (omega (arith, ints, e, w.0), omega (arith, ints), omega (arith, ints, e, w.1)) in
    let p = c.is_found_at.ensures.found c.if-is_found_at.true in
    (point_wider c.args.current.now (set c.args.current.now c.args.i (place_only k)) c.is_found_at.new.witness narrower p.0, p.1)

pub returns-then-is_found_at-clause-place : goal.returns-then-is_found_at-clause-place
returns-then-is_found_at-clause-place c = only_place c.args.current.now c.is_found_at.new.witness c.args.i (to_z w64 (of_z w64 c.in_ok-place.place)) c.requires.within (c.is_found_at.ensures.found c.if-is_found_at.true).0

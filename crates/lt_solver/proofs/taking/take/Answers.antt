use Rattle.std.proofs.Common.{◌≡◌, ◌∙◌, ◌<◌, ℕ, ℤ, Bool, suc, List, length, set, to_z, of_z, w64, add-one, ap, sym, subst, refl, arith}
use Rattle.std.proofs.lemmas.Int.{ints}
use Rattle.std.proofs.lemmas.List.{length-set}
use Rattle.lt_bounds.specs.Places.{AreScaled}
use Rattle.lt_bounds.specs.Ranges.{range_at}
use Rattle.lt_formula.specs.Box.{IsInBox}
use Rattle.lt_formula.specs.declared.scale.Scale.{Scale}
use Rattle.lt_num.specs.Interval.{IsWithin}
use Rattle.lt_num.specs.declared.interval.Interval.{Interval}
use Rattle.lt_space.specs.SpaceView.{space_circuit, space_decimals, space_root}
use Rattle.lt_propagation.proofs.Boxes.{point_set}
use Rattle.lt_propagation.specs.Domains.{AreDomains}
use Rattle.lt_solver.specs.inner.Classified.{passes}
use Rattle.lt_solver.specs.inner.Dive.{Covers, IsDiving}
use Rattle.lt_solver.specs.inner.Drawing.{IsFirstLeft, Passes, place_of, place_only}
use Rattle.lt_solver.proofs.Draws.{between, drawn_here, first_itself, is_taken, place_dives, place_narrower, place_stays, place_there, same_dives}
use Rattle.lt_solver.proofs.Scaled.{box_long, scaled_narrower, scales_long}
use Rattle.lt_solver.proofs.taking.take.Goals as goal

-- The place to stop at, and the one that is found, lie in the range of the variable.
module _ (scales : List Scale) (box : List Interval) (i : ℕ) (scaled : AreScaled scales box) (here : i < length box) (ks : List ℤ) (p : IsInBox box ks) (stop : ℤ) (at : place_of ks i ≡ stop) where
  stop_within : IsWithin (range_at box i) stop
  stop_within = place_there box ks i stop here p at

  stop_stays : to_z w64 (of_z w64 stop) ≡ stop
  stop_stays = place_stays scales box i scaled here stop stop_within

  stop_bits : IsWithin (range_at box i) (to_z w64 (of_z w64 stop))
  stop_bits = let s = stop_stays in let w = stop_within in (omega (arith, ints, s, w.0), omega (arith, ints, s, w.1))

  module _ (test : List ℤ → Bool) (down : Bool) (start place : ℤ) (begin : IsWithin (range_at box i) start) (first : IsFirstLeft test box i down (to_z w64 (of_z w64 start)) (to_z w64 (of_z w64 stop)) place) where
    start_stays : to_z w64 (of_z w64 start) ≡ start
    start_stays = place_stays scales box i scaled here start begin

    start_bits : IsWithin (range_at box i) (to_z w64 (of_z w64 start))
    start_bits = let s = start_stays in (omega (arith, ints, s, begin.0), omega (arith, ints, s, begin.1))

    found_within : IsWithin (range_at box i) place
    found_within = between down (range_at box i) (to_z w64 (of_z w64 start)) (to_z w64 (of_z w64 stop)) place start_bits stop_bits first.0 first.1

    found_stays : to_z w64 (of_z w64 place) ≡ place
    found_stays = place_stays scales box i scaled here place found_within

    found_bits : IsWithin (range_at box i) (to_z w64 (of_z w64 place))
    found_bits = let s = found_stays in let w = found_within in (omega (arith, ints, s, w.0), omega (arith, ints, s, w.1))

    found_first : IsFirstLeft test box i down start stop (to_z w64 (of_z w64 place))
    found_first = subst (λ (z : ℤ). IsFirstLeft test box i down z stop (to_z w64 (of_z w64 place))) start_stays
        (subst (λ (z : ℤ). IsFirstLeft test box i down (to_z w64 (of_z w64 start)) z (to_z w64 (of_z w64 place))) stop_stays
        (subst (λ (z : ℤ). IsFirstLeft test box i down (to_z w64 (of_z w64 start)) (to_z w64 (of_z w64 stop)) z) (sym found_stays) first))

pub is_last_open-requires-clause-place : goal.is_last_open-requires-clause-place
is_last_open-requires-clause-place c = let d = c.requires.dives in omega (arith, c.requires.place, d.count, scales_long c.args.scales.now c.args.current.now d.scaled)

pub is_last_open-requires-clause-long : goal.is_last_open-requires-clause-long
is_last_open-requires-clause-long c = let d = c.requires.dives in omega (arith, d.long, scales_long c.args.scales.now c.args.current.now d.scaled)

pub copy_from_slice-requires : goal.copy_from_slice-requires
copy_from_slice-requires c = omega (arith, c.passes_with.auto.changed, c.requires.spare, box_long c.args.current.now c.args.witness.now c.requires.witness.0)

pub returns-then-passes_with-clause-dives : goal.returns-then-passes_with-clause-dives
returns-then-passes_with-clause-dives c so =
    let stays = place_stays c.args.scales.now c.args.current.now c.args.i c.requires.dives.scaled (drawn_here (space_decimals c.args.space.now) (space_circuit c.args.space.now) (space_root c.args.space.now) c.args.scales.now c.args.starts.now c.args.i c.args.current.now c.args.widened.now c.requires.dives c.requires.place) c.args.start c.requires.start in
    rw add-one (subst (λ (r : Interval). IsDiving (space_decimals c.args.space.now) (space_circuit c.args.space.now) (space_root c.args.space.now) c.args.scales.now c.args.starts.now (suc c.args.i) (set c.args.current.now c.args.i r) c.args.widened.now) (sym (c.only.ensures ∙ ap place_only stays))
    (same_dives (space_decimals c.args.space.now) (space_circuit c.args.space.now) (space_root c.args.space.now) c.args.scales.now c.args.starts.now c.args.i c.args.current.now c.args.widened.now c.requires.dives c.requires.place c.args.start c.requires.start))

pub returns-then-passes_with-clause-taken : goal.returns-then-passes_with-clause-taken
returns-then-passes_with-clause-taken c so =
    let stays = place_stays c.args.scales.now c.args.current.now c.args.i c.requires.dives.scaled (drawn_here (space_decimals c.args.space.now) (space_circuit c.args.space.now) (space_root c.args.space.now) c.args.scales.now c.args.starts.now c.args.i c.args.current.now c.args.widened.now c.requires.dives c.requires.place) c.args.start c.requires.start in
    is_taken (space_decimals c.args.space.now) (space_circuit c.args.space.now) (space_root c.args.space.now) c.args.scales.now c.args.starts.now c.args.i c.args.current.now c.args.widened.now c.requires.dives c.requires.place c.args.start c.requires.start c.args.is_down c.args.start c.args.stop
    (first_itself (passes c.args.space.now c.args.scales.now) c.args.current.now c.args.i c.args.is_down c.args.start c.args.stop c.requires.order)
    c.passes_with.new.changed (subst (λ (z : ℤ). Passes (passes c.args.space.now c.args.scales.now) (set c.args.current.now c.args.i (place_only z)) c.passes_with.new.changed) stays (c.passes_with.ensures.found c.if-passes_with.true))
    (set c.args.current.now c.args.i c.only.result) (ap (set c.args.current.now c.args.i) (c.only.ensures ∙ ap place_only stays))

pub first_left-requires-clause-stop : goal.first_left-requires-clause-stop
first_left-requires-clause-stop c = stop_bits c.args.scales.now c.args.current.now c.args.i c.requires.dives.scaled (drawn_here (space_decimals c.args.space.now) (space_circuit c.args.space.now) (space_root c.args.space.now) c.args.scales.now c.args.starts.now c.args.i c.args.current.now c.args.widened.now c.requires.dives c.requires.place) c.args.witness.now c.requires.witness.0 c.args.stop c.requires.stop

pub is_fixed_at-requires-clause-place : goal.is_fixed_at-requires-clause-place
is_fixed_at-requires-clause-place c = found_bits c.args.scales.now c.args.current.now c.args.i c.requires.dives.scaled (drawn_here (space_decimals c.args.space.now) (space_circuit c.args.space.now) (space_root c.args.space.now) c.args.scales.now c.args.starts.now c.args.i c.args.current.now c.args.widened.now c.requires.dives c.requires.place) c.args.witness.now c.requires.witness.0 c.args.stop c.requires.stop (passes c.args.space.now c.args.scales.now) c.args.is_down c.args.start c.in-Some.place c.requires.start c.in-Some.ensures.first

pub returns-then-place-stop-clause-dives : goal.returns-then-place-stop-clause-dives
returns-then-place-stop-clause-dives c so =
    rw add-one (subst (λ (b : List Interval). IsDiving (space_decimals c.args.space.now) (space_circuit c.args.space.now) (space_root c.args.space.now) c.args.scales.now c.args.starts.now (suc c.args.i) b c.is_fixed_at.new.widened) (sym (c.is_fixed_at.ensures.current so))
    (place_dives (space_decimals c.args.space.now) (space_circuit c.args.space.now) (space_root c.args.space.now) c.args.scales.now c.args.starts.now c.args.i c.args.current.now c.args.widened.now c.requires.dives c.requires.place (to_z w64 (of_z w64 c.in-Some.place)) (found_bits c.args.scales.now c.args.current.now c.args.i c.requires.dives.scaled (drawn_here (space_decimals c.args.space.now) (space_circuit c.args.space.now) (space_root c.args.space.now) c.args.scales.now c.args.starts.now c.args.i c.args.current.now c.args.widened.now c.requires.dives c.requires.place) c.args.witness.now c.requires.witness.0 c.args.stop c.requires.stop (passes c.args.space.now c.args.scales.now) c.args.is_down c.args.start c.in-Some.place c.requires.start c.in-Some.ensures.first) c.is_fixed_at.new.widened (omega arith) (c.is_fixed_at.ensures.domains so) (c.is_fixed_at.ensures.covers so)))

-- the witness has the place to stop at
stopped : (box : List Interval) (ks : List ℤ) (i : ℕ) (k : ℤ) → IsInBox box ks → place_of ks i ≡ k → IsInBox (set box i (place_only k)) ks
stopped box ks i k p e = point_set box ks i (place_only k) p (omega (arith, ints, e), omega (arith, ints, e))

pub returns-then-place-stop-clause-taken : goal.returns-then-place-stop-clause-taken
returns-then-place-stop-clause-taken c so =
    let e : to_z w64 (of_z w64 c.in-Some.place) ≡ to_z w64 (of_z w64 c.args.stop) = ap (to_z w64) c.if-place-stop.true in
    let k = to_z w64 (of_z w64 c.in-Some.place) in
    let at : place_of c.args.witness.now c.args.i ≡ k = c.requires.stop ∙ sym (e ∙ stop_stays c.args.scales.now c.args.current.now c.args.i c.requires.dives.scaled (drawn_here (space_decimals c.args.space.now) (space_circuit c.args.space.now) (space_root c.args.space.now) c.args.scales.now c.args.starts.now c.args.i c.args.current.now c.args.widened.now c.requires.dives c.requires.place) c.args.witness.now c.requires.witness.0 c.args.stop c.requires.stop) in
    is_taken (space_decimals c.args.space.now) (space_circuit c.args.space.now) (space_root c.args.space.now) c.args.scales.now c.args.starts.now c.args.i c.args.current.now c.args.widened.now c.requires.dives c.requires.place k (found_bits c.args.scales.now c.args.current.now c.args.i c.requires.dives.scaled (drawn_here (space_decimals c.args.space.now) (space_circuit c.args.space.now) (space_root c.args.space.now) c.args.scales.now c.args.starts.now c.args.i c.args.current.now c.args.widened.now c.requires.dives c.requires.place) c.args.witness.now c.requires.witness.0 c.args.stop c.requires.stop (passes c.args.space.now c.args.scales.now) c.args.is_down c.args.start c.in-Some.place c.requires.start c.in-Some.ensures.first) c.args.is_down c.args.start c.args.stop (found_first c.args.scales.now c.args.current.now c.args.i c.requires.dives.scaled (drawn_here (space_decimals c.args.space.now) (space_circuit c.args.space.now) (space_root c.args.space.now) c.args.scales.now c.args.starts.now c.args.i c.args.current.now c.args.widened.now c.requires.dives c.requires.place) c.args.witness.now c.requires.witness.0 c.args.stop c.requires.stop (passes c.args.space.now c.args.scales.now) c.args.is_down c.args.start c.in-Some.place c.requires.start c.in-Some.ensures.first)
    c.args.witness.now (stopped c.args.current.now c.args.witness.now c.args.i k c.requires.witness.0 at, c.requires.witness.1) c.is_fixed_at.new.current (c.is_fixed_at.ensures.current so)

pub returns-then-place-stop-clause-witness : goal.returns-then-place-stop-clause-witness
returns-then-place-stop-clause-witness c so =
    let e : to_z w64 (of_z w64 c.in-Some.place) ≡ to_z w64 (of_z w64 c.args.stop) = ap (to_z w64) c.if-place-stop.true in
    let k = to_z w64 (of_z w64 c.in-Some.place) in
    let at : place_of c.args.witness.now c.args.i ≡ k = c.requires.stop ∙ sym (e ∙ stop_stays c.args.scales.now c.args.current.now c.args.i c.requires.dives.scaled (drawn_here (space_decimals c.args.space.now) (space_circuit c.args.space.now) (space_root c.args.space.now) c.args.scales.now c.args.starts.now c.args.i c.args.current.now c.args.widened.now c.requires.dives c.requires.place) c.args.witness.now c.requires.witness.0 c.args.stop c.requires.stop) in
    (subst (λ (b : List Interval). IsInBox b c.args.witness.now) (sym (c.is_fixed_at.ensures.current so)) (stopped c.args.current.now c.args.witness.now c.args.i k c.requires.witness.0 at), c.requires.witness.1)

pub copy_from_slice-requires-2 : goal.copy_from_slice-requires-2
copy_from_slice-requires-2 c =
    let other = λ (e : c.in-Some.place ≡ to_z w64 (of_z w64 c.args.stop)). c.if-place-stop.false (ap (of_z w64) (e ∙ stop_stays c.args.scales.now c.args.current.now c.args.i c.requires.dives.scaled (drawn_here (space_decimals c.args.space.now) (space_circuit c.args.space.now) (space_root c.args.space.now) c.args.scales.now c.args.starts.now c.args.i c.args.current.now c.args.widened.now c.requires.dives c.requires.place) c.args.witness.now c.requires.witness.0 c.args.stop c.requires.stop)) in
    sym (ap length c.deref.ensures.value ∙ c.in-Some.ensures.long other)

pub is_witness_found-requires-clause-scaled : goal.is_witness_found-requires-clause-scaled
is_witness_found-requires-clause-scaled c =
    let k = to_z w64 (of_z w64 c.in-Some.place) in
    subst (λ (r : Interval). AreScaled c.args.scales.now (set c.args.current.now c.args.i r)) (sym c.only-2.ensures)
    (scaled_narrower c.args.scales.now c.args.current.now (set c.args.current.now c.args.i (place_only k)) c.requires.dives.scaled (place_narrower (space_decimals c.args.space.now) (space_circuit c.args.space.now) (space_root c.args.space.now) c.args.scales.now c.args.starts.now c.args.i c.args.current.now c.args.widened.now c.requires.dives c.requires.place k (found_bits c.args.scales.now c.args.current.now c.args.i c.requires.dives.scaled (drawn_here (space_decimals c.args.space.now) (space_circuit c.args.space.now) (space_root c.args.space.now) c.args.scales.now c.args.starts.now c.args.i c.args.current.now c.args.widened.now c.requires.dives c.requires.place) c.args.witness.now c.requires.witness.0 c.args.stop c.requires.stop (passes c.args.space.now c.args.scales.now) c.args.is_down c.args.start c.in-Some.place c.requires.start c.in-Some.ensures.first)))

pub is_witness_found-requires-clause-domains : goal.is_witness_found-requires-clause-domains
is_witness_found-requires-clause-domains c =
    let other = λ (e : c.in-Some.place ≡ to_z w64 (of_z w64 c.args.stop)). c.if-place-stop.false (ap (of_z w64) (e ∙ stop_stays c.args.scales.now c.args.current.now c.args.i c.requires.dives.scaled (drawn_here (space_decimals c.args.space.now) (space_circuit c.args.space.now) (space_root c.args.space.now) c.args.scales.now c.args.starts.now c.args.i c.args.current.now c.args.widened.now c.requires.dives c.requires.place) c.args.witness.now c.requires.witness.0 c.args.stop c.requires.stop)) in
    subst AreDomains (sym (c.copy_from_slice-2.ensures.after ∙ c.deref.ensures.value)) (c.in-Some.ensures.domains other)

-- what covers the place that is found
covering : (decimals : ℕ) (circuit : _) (root : ℕ) (scales : List Scale) (box new old : List Interval) (i : ℕ) (r : Interval) (place k : ℤ) → k ≡ place → r ≡ place_only k → new ≡ old
    → Covers decimals circuit root scales (set box i (place_only place)) old → Covers decimals circuit root scales (set box i r) new
covering decimals circuit root scales box new old i r place k e is same covers =
    subst (λ (s : Interval). Covers decimals circuit root scales (set box i s) new) (ap place_only (sym e) ∙ sym is) (subst (λ (w : List Interval). Covers decimals circuit root scales (set box i (place_only place)) w) (sym same) covers)

pub is_witness_found-requires-clause-covers : goal.is_witness_found-requires-clause-covers
is_witness_found-requires-clause-covers c =
    let other = λ (e : c.in-Some.place ≡ to_z w64 (of_z w64 c.args.stop)). c.if-place-stop.false (ap (of_z w64) (e ∙ stop_stays c.args.scales.now c.args.current.now c.args.i c.requires.dives.scaled (drawn_here (space_decimals c.args.space.now) (space_circuit c.args.space.now) (space_root c.args.space.now) c.args.scales.now c.args.starts.now c.args.i c.args.current.now c.args.widened.now c.requires.dives c.requires.place) c.args.witness.now c.requires.witness.0 c.args.stop c.requires.stop)) in
    covering (space_decimals c.args.space.now) (space_circuit c.args.space.now) (space_root c.args.space.now) c.args.scales.now c.args.current.now c.copy_from_slice-2.new.self c.first_left.new.room.current.items c.args.i c.only-2.result c.in-Some.place (to_z w64 (of_z w64 c.in-Some.place))
    (found_stays c.args.scales.now c.args.current.now c.args.i c.requires.dives.scaled (drawn_here (space_decimals c.args.space.now) (space_circuit c.args.space.now) (space_root c.args.space.now) c.args.scales.now c.args.starts.now c.args.i c.args.current.now c.args.widened.now c.requires.dives c.requires.place) c.args.witness.now c.requires.witness.0 c.args.stop c.requires.stop (passes c.args.space.now c.args.scales.now) c.args.is_down c.args.start c.in-Some.place c.requires.start c.in-Some.ensures.first) c.only-2.ensures (c.copy_from_slice-2.ensures.after ∙ c.deref.ensures.value) (c.in-Some.ensures.covers other)

pub is_witness_found-requires-clause-witness : goal.is_witness_found-requires-clause-witness
is_witness_found-requires-clause-witness c = box_long c.args.current.now c.args.witness.now c.requires.witness.0 ∙ sym (length-set c.args.current.now c.args.i c.only-2.result)

pub returns-clause-dives : goal.returns-clause-dives
returns-clause-dives c so =
    let k = to_z w64 (of_z w64 c.in-Some.place) in
    let other = λ (e : c.in-Some.place ≡ to_z w64 (of_z w64 c.args.stop)). c.if-place-stop.false (ap (of_z w64) (e ∙ stop_stays c.args.scales.now c.args.current.now c.args.i c.requires.dives.scaled (drawn_here (space_decimals c.args.space.now) (space_circuit c.args.space.now) (space_root c.args.space.now) c.args.scales.now c.args.starts.now c.args.i c.args.current.now c.args.widened.now c.requires.dives c.requires.place) c.args.witness.now c.requires.witness.0 c.args.stop c.requires.stop)) in
    let same = c.copy_from_slice-2.ensures.after ∙ c.deref.ensures.value in
    let new = c.copy_from_slice-2.new.self in
    rw add-one (subst (λ (r : Interval). IsDiving (space_decimals c.args.space.now) (space_circuit c.args.space.now) (space_root c.args.space.now) c.args.scales.now c.args.starts.now (suc c.args.i) (set c.args.current.now c.args.i r) new) (sym c.only-2.ensures)
    (place_dives (space_decimals c.args.space.now) (space_circuit c.args.space.now) (space_root c.args.space.now) c.args.scales.now c.args.starts.now c.args.i c.args.current.now c.args.widened.now c.requires.dives c.requires.place k (found_bits c.args.scales.now c.args.current.now c.args.i c.requires.dives.scaled (drawn_here (space_decimals c.args.space.now) (space_circuit c.args.space.now) (space_root c.args.space.now) c.args.scales.now c.args.starts.now c.args.i c.args.current.now c.args.widened.now c.requires.dives c.requires.place) c.args.witness.now c.requires.witness.0 c.args.stop c.requires.stop (passes c.args.space.now c.args.scales.now) c.args.is_down c.args.start c.in-Some.place c.requires.start c.in-Some.ensures.first) new (ap length same ∙ c.in-Some.ensures.long other) (subst AreDomains (sym same) (c.in-Some.ensures.domains other))
    (covering (space_decimals c.args.space.now) (space_circuit c.args.space.now) (space_root c.args.space.now) c.args.scales.now c.args.current.now new c.first_left.new.room.current.items c.args.i (place_only k) c.in-Some.place k (found_stays c.args.scales.now c.args.current.now c.args.i c.requires.dives.scaled (drawn_here (space_decimals c.args.space.now) (space_circuit c.args.space.now) (space_root c.args.space.now) c.args.scales.now c.args.starts.now c.args.i c.args.current.now c.args.widened.now c.requires.dives c.requires.place) c.args.witness.now c.requires.witness.0 c.args.stop c.requires.stop (passes c.args.space.now c.args.scales.now) c.args.is_down c.args.start c.in-Some.place c.requires.start c.in-Some.ensures.first) refl same (c.in-Some.ensures.covers other))))

pub returns-clause-taken : goal.returns-clause-taken
returns-clause-taken c so =
    let k = to_z w64 (of_z w64 c.in-Some.place) in
    is_taken (space_decimals c.args.space.now) (space_circuit c.args.space.now) (space_root c.args.space.now) c.args.scales.now c.args.starts.now c.args.i c.args.current.now c.args.widened.now c.requires.dives c.requires.place k (found_bits c.args.scales.now c.args.current.now c.args.i c.requires.dives.scaled (drawn_here (space_decimals c.args.space.now) (space_circuit c.args.space.now) (space_root c.args.space.now) c.args.scales.now c.args.starts.now c.args.i c.args.current.now c.args.widened.now c.requires.dives c.requires.place) c.args.witness.now c.requires.witness.0 c.args.stop c.requires.stop (passes c.args.space.now c.args.scales.now) c.args.is_down c.args.start c.in-Some.place c.requires.start c.in-Some.ensures.first) c.args.is_down c.args.start c.args.stop (found_first c.args.scales.now c.args.current.now c.args.i c.requires.dives.scaled (drawn_here (space_decimals c.args.space.now) (space_circuit c.args.space.now) (space_root c.args.space.now) c.args.scales.now c.args.starts.now c.args.i c.args.current.now c.args.widened.now c.requires.dives c.requires.place) c.args.witness.now c.requires.witness.0 c.args.stop c.requires.stop (passes c.args.space.now c.args.scales.now) c.args.is_down c.args.start c.in-Some.place c.requires.start c.in-Some.ensures.first)
    c.is_witness_found.new.witness (subst (λ (r : Interval). Passes (passes c.args.space.now c.args.scales.now) (set c.args.current.now c.args.i r) c.is_witness_found.new.witness) c.only-2.ensures (c.is_witness_found.ensures.found so))
    (set c.args.current.now c.args.i c.only-2.result) (ap (set c.args.current.now c.args.i) c.only-2.ensures)

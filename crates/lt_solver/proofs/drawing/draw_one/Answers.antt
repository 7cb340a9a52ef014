use Rattle.std.proofs.Common.{rules, ◌≡◌, ◌∙◌, ◌≤◌, ◌<◌, ◌+◌, ◌%◌, ◌≤ℤ◌, ◌+ℤ◌, ℕ, ℤ, Bool, false, List, length, pos, unsigned_abs, if◌then◌else◌, to_z, of_z, w64, add-one, refl, sym, subst, arith}
use Rattle.std.proofs.lemmas.Int.{ints}
use Rattle.std.specs.Int.{int_gap}
use Rattle.lt_bounds.specs.Places.{AreScaled}
use Rattle.lt_bounds.specs.Ranges.{range_at}
use Rattle.lt_formula.specs.Solution.{comes_before}
use Rattle.lt_formula.specs.declared.scale.Scale.{Scale}
use Rattle.lt_num.specs.Bounds.{most_raw}
use Rattle.lt_num.specs.Interval.{IsWithin}
use Rattle.lt_num.specs.declared.interval.Interval.{Interval}
use Rattle.lt_propagation.proofs.Boxes.{point_set, point_within, sizes_at}
use Rattle.lt_space.specs.SpaceView.{space_circuit, space_decimals, space_root}
use Rattle.lt_solver.specs.inner.Classified.{passes}
use Rattle.lt_solver.specs.inner.Drawing.{IsDrawn, IsTaken, Passes, place_of}
use Rattle.lt_solver.specs.inner.Ends.{AreEnds}
use Rattle.lt_solver.proofs.Dives.{dive_scaled}
use Rattle.lt_solver.proofs.Draws.{aim_high, aim_low, drawn_here, left_fixed, left_within, one_is_drawn, place_small, place_stays, place_there, stop_order, stop_passes, stop_place}
use Rattle.lt_solver.proofs.Scaled.{box_long, scales_long}
use Rattle.lt_solver.proofs.drawing.draw_one.Goals as goal

pub bounds-scales-i : goal.bounds-scales-i
bounds-scales-i c = let d = c.requires.dives in omega (arith, c.requires.place, d.count, scales_long c.args.scales.now c.args.current.now d.scaled)

pub places_within-requires-clause-scaled : goal.places_within-requires-clause-scaled
places_within-requires-clause-scaled c = dive_scaled (space_decimals c.args.space.now) (space_circuit c.args.space.now) (space_root c.args.space.now) c.args.scales.now c.args.starts.now c.args.i c.args.current.now c.args.widened.now c.requires.dives c.requires.place

pub places_within-requires-clause-low : goal.places_within-requires-clause-low
places_within-requires-clause-low c = (sizes_at c.args.widened.now c.args.i c.requires.dives.domains).0

pub places_within-requires-clause-high : goal.places_within-requires-clause-high
places_within-requires-clause-high c = (sizes_at c.args.widened.now c.args.i c.requires.dives.domains).1

pub returns-then-part-clause-dives : goal.returns-then-part-clause-dives
returns-then-part-clause-dives c so =
    let e : c.in-Some.part.low ≡ c.in-Some.part.high = search rules in
    rw add-one (left_fixed (space_decimals c.args.space.now) (space_circuit c.args.space.now) (space_root c.args.space.now) c.args.scales.now c.args.starts.now c.args.i c.args.current.now c.args.widened.now c.requires.dives c.requires.place c.in-Some.part c.in-Some.ensures.inside c.in-Some.ensures.kept e)

pub returns-then-part-clause-drawn : goal.returns-then-part-clause-drawn
returns-then-part-clause-drawn c so =
    let e : c.in-Some.part.low ≡ c.in-Some.part.high = search rules in
    one_is_drawn (passes c.args.space.now c.args.scales.now) c.args.current.now c.args.i c.args.word c.args.is_down c.in-Some.part c.args.witness.now (λ ks p. left_within (space_decimals c.args.space.now) (space_circuit c.args.space.now) (space_root c.args.space.now) c.args.scales.now c.args.starts.now c.args.i c.args.current.now c.args.widened.now c.requires.dives c.requires.place c.in-Some.part c.in-Some.ensures.inside c.in-Some.ensures.kept ks p) e c.requires.witness

pub returns-then-part-clause-witness : goal.returns-then-part-clause-witness
returns-then-part-clause-witness c so = (point_set c.args.current.now c.args.witness.now c.args.i c.in-Some.part c.requires.witness.0 (left_within (space_decimals c.args.space.now) (space_circuit c.args.space.now) (space_root c.args.space.now) c.args.scales.now c.args.starts.now c.args.i c.args.current.now c.args.widened.now c.requires.dives c.requires.place c.in-Some.part c.in-Some.ensures.inside c.in-Some.ensures.kept c.args.witness.now c.requires.witness), c.requires.witness.1)

-- Between the ends of a part a word aims at a place.
module _ (test : List ℤ → Bool) (scales : List Scale) (box : List Interval) (i : ℕ) (scaled : AreScaled scales box) (here : i < length box) (lowest highest : List ℤ) (ends : AreEnds test box i lowest highest) where
  abbrev low : ℤ
  low = to_z w64 (of_z w64 (place_of lowest i))

  abbrev high : ℤ
  high = to_z w64 (of_z w64 (place_of highest i))

  low_in : IsWithin (range_at box i) (place_of lowest i)
  low_in = point_within box lowest i here ends.0.0

  high_in : IsWithin (range_at box i) (place_of highest i)
  high_in = point_within box highest i here ends.1.0.0

  low_stays : low ≡ place_of lowest i
  low_stays = place_stays scales box i scaled here (place_of lowest i) low_in

  high_stays : high ≡ place_of highest i
  high_stays = place_stays scales box i scaled here (place_of highest i) high_in

  ends_order : low ≤ℤ high
  ends_order = let all = ends.1.1 highest ends.1.0 in let l = low_stays in let h = high_stays in omega (arith, ints, l, h, all.0)

  low_small : unsigned_abs low ≤ most_raw
  low_small = subst (λ (k : ℤ). unsigned_abs k ≤ most_raw) (sym low_stays) (place_small scales box i scaled here (place_of lowest i) low_in)

  high_small : unsigned_abs high ≤ most_raw
  high_small = subst (λ (k : ℤ). unsigned_abs k ≤ most_raw) (sym high_stays) (place_small scales box i scaled here (place_of highest i) high_in)

  module _ (word : ℕ) (aim : ℤ) (told : aim ≡ low +ℤ pos (word % (int_gap low high + 1))) where
    least : low ≤ℤ aim
    least = subst (λ (k : ℤ). low ≤ℤ k) (sym told) (aim_low low high word)

    greatest : aim ≤ℤ high
    greatest = subst (λ (k : ℤ). k ≤ℤ high) (sym told) (aim_high low high word ends_order)

    aim_in : IsWithin (range_at box i) aim
    aim_in = let l = low_stays in let h = high_stays in let a = low_in in let b = high_in in let m = least in let n = greatest in (omega (arith, ints, l, a.0, m), omega (arith, ints, h, b.1, n))

    aim_stays : to_z w64 (of_z w64 aim) ≡ aim
    aim_stays = place_stays scales box i scaled here aim aim_in

    aim_bits : IsWithin (range_at box i) (to_z w64 (of_z w64 aim))
    aim_bits = let s = aim_stays in let a = aim_in in (omega (arith, ints, s, a.0), omega (arith, ints, s, a.1))

    aim_is : to_z w64 (of_z w64 aim) ≡ place_of lowest i +ℤ pos (word % (int_gap (place_of lowest i) (place_of highest i) + 1))
    aim_is = aim_stays ∙ told ∙ (λ j. low_stays j +ℤ pos (word % (int_gap (low_stays j) (high_stays j) + 1)))

    module _ (down : Bool) (stop : ℤ) (is : stop ≡ (if down then low else high)) (chosen : List ℤ) (choice : chosen ≡ (if down then lowest else highest)) where
      chosen_passes : Passes test box chosen
      chosen_passes = stop_passes down (λ (ks : List ℤ). Passes test box ks) lowest highest chosen choice ends.0 ends.1.0

      chosen_at : place_of chosen i ≡ stop
      chosen_at = stop_place down i lowest highest chosen low high stop choice is (sym low_stays) (sym high_stays)

      chosen_stays : to_z w64 (of_z w64 stop) ≡ stop
      chosen_stays = place_stays scales box i scaled here stop (place_there box chosen i stop here chosen_passes.0 chosen_at)

      chosen_order : comes_before down (to_z w64 (of_z w64 stop)) (to_z w64 (of_z w64 aim)) ≡ false
      chosen_order = let s = aim_stays in let m = least in let n = greatest in stop_order down low high (to_z w64 (of_z w64 stop)) (to_z w64 (of_z w64 aim)) (chosen_stays ∙ is) (omega (arith, ints, s, m)) (omega (arith, ints, s, n))

      -- where it is taken from there on, it is drawn
      taken_is_drawn : (new : List Interval) → IsTaken test box new i down (to_z w64 (of_z w64 aim)) (to_z w64 (of_z w64 stop)) → IsDrawn test box new i word down
      taken_is_drawn new t = record {
        low = place_of lowest i;
        high = place_of highest i;
        place = t.place;
        lowest = (lowest, ends.0, refl);
        highest = (highest, ends.1.0, refl);
        taken = t.taken;
        all = ends.1.1;
        on = subst (λ (z : ℤ). comes_before down t.place z ≡ false) aim_is t.first.0;
        none = λ ks p on. t.first.2 ks p (subst (λ (z : ℤ). comes_before down (place_of ks i) z ≡ false) (sym aim_is) on);
        new_box = t.new_box;
      }

pub are_ends_found-requires-clause-all : goal.are_ends_found-requires-clause-all
are_ends_found-requires-clause-all c ks p = left_within (space_decimals c.args.space.now) (space_circuit c.args.space.now) (space_root c.args.space.now) c.args.scales.now c.args.starts.now c.args.i c.args.current.now c.args.widened.now c.requires.dives c.requires.place c.in-Some.part c.in-Some.ensures.inside c.in-Some.ensures.kept ks p

pub slice_copy_out-high : goal.slice_copy_out-high
slice_copy_out-high c = let e = c.are_ends_found.ensures.ends c.if-not-are_ends_found.false in omega (arith, (drawn_here (space_decimals c.args.space.now) (space_circuit c.args.space.now) (space_root c.args.space.now) c.args.scales.now c.args.starts.now c.args.i c.args.current.now c.args.widened.now c.requires.dives c.requires.place), box_long c.args.current.now c.are_ends_found.new.highest e.1.0.0)

pub aim_between-aim-requires-clause-order : goal.aim_between-aim-requires-clause-order
aim_between-aim-requires-clause-order c = ends_order (passes c.args.space.now c.args.scales.now) c.args.scales.now c.args.current.now c.args.i c.requires.dives.scaled (drawn_here (space_decimals c.args.space.now) (space_circuit c.args.space.now) (space_root c.args.space.now) c.args.scales.now c.args.starts.now c.args.i c.args.current.now c.args.widened.now c.requires.dives c.requires.place) c.are_ends_found.new.lowest c.are_ends_found.new.highest (c.are_ends_found.ensures.ends c.if-not-are_ends_found.false)

pub aim_between-aim-requires-clause-small_low : goal.aim_between-aim-requires-clause-small_low
aim_between-aim-requires-clause-small_low c = low_small (passes c.args.space.now c.args.scales.now) c.args.scales.now c.args.current.now c.args.i c.requires.dives.scaled (drawn_here (space_decimals c.args.space.now) (space_circuit c.args.space.now) (space_root c.args.space.now) c.args.scales.now c.args.starts.now c.args.i c.args.current.now c.args.widened.now c.requires.dives c.requires.place) c.are_ends_found.new.lowest c.are_ends_found.new.highest (c.are_ends_found.ensures.ends c.if-not-are_ends_found.false)

pub aim_between-aim-requires-clause-small_high : goal.aim_between-aim-requires-clause-small_high
aim_between-aim-requires-clause-small_high c = high_small (passes c.args.space.now c.args.scales.now) c.args.scales.now c.args.current.now c.args.i c.requires.dives.scaled (drawn_here (space_decimals c.args.space.now) (space_circuit c.args.space.now) (space_root c.args.space.now) c.args.scales.now c.args.starts.now c.args.i c.args.current.now c.args.widened.now c.requires.dives c.requires.place) c.are_ends_found.new.lowest c.are_ends_found.new.highest (c.are_ends_found.ensures.ends c.if-not-are_ends_found.false)

pub end_of-stop-requires : goal.end_of-stop-requires
end_of-stop-requires c =
    let e = c.are_ends_found.ensures.ends c.if-not-are_ends_found.false in
    box_long c.args.current.now c.are_ends_found.new.lowest e.0.0 ∙ sym (box_long c.args.current.now c.are_ends_found.new.highest e.1.0.0)

pub take-requires-clause-start : goal.take-requires-clause-start
take-requires-clause-start c = aim_bits (passes c.args.space.now c.args.scales.now) c.args.scales.now c.args.current.now c.args.i c.requires.dives.scaled (drawn_here (space_decimals c.args.space.now) (space_circuit c.args.space.now) (space_root c.args.space.now) c.args.scales.now c.args.starts.now c.args.i c.args.current.now c.args.widened.now c.requires.dives c.requires.place) c.are_ends_found.new.lowest c.are_ends_found.new.highest (c.are_ends_found.ensures.ends c.if-not-are_ends_found.false) c.args.word c.aim_between-aim.result c.aim_between-aim.ensures

pub take-requires-clause-order : goal.take-requires-clause-order
take-requires-clause-order c = chosen_order (passes c.args.space.now c.args.scales.now) c.args.scales.now c.args.current.now c.args.i c.requires.dives.scaled (drawn_here (space_decimals c.args.space.now) (space_circuit c.args.space.now) (space_root c.args.space.now) c.args.scales.now c.args.starts.now c.args.i c.args.current.now c.args.widened.now c.requires.dives c.requires.place) c.are_ends_found.new.lowest c.are_ends_found.new.highest (c.are_ends_found.ensures.ends c.if-not-are_ends_found.false) c.args.word c.aim_between-aim.result c.aim_between-aim.ensures c.args.is_down c.end_of-stop.result c.end_of-stop.ensures.stop c.end_of-stop.new.high_places c.end_of-stop.ensures.places

pub take-requires-clause-witness : goal.take-requires-clause-witness
take-requires-clause-witness c = chosen_passes (passes c.args.space.now c.args.scales.now) c.args.scales.now c.args.current.now c.args.i c.requires.dives.scaled (drawn_here (space_decimals c.args.space.now) (space_circuit c.args.space.now) (space_root c.args.space.now) c.args.scales.now c.args.starts.now c.args.i c.args.current.now c.args.widened.now c.requires.dives c.requires.place) c.are_ends_found.new.lowest c.are_ends_found.new.highest (c.are_ends_found.ensures.ends c.if-not-are_ends_found.false) c.args.word c.aim_between-aim.result c.aim_between-aim.ensures c.args.is_down c.end_of-stop.result c.end_of-stop.ensures.stop c.end_of-stop.new.high_places c.end_of-stop.ensures.places

pub take-requires-clause-stop : goal.take-requires-clause-stop
take-requires-clause-stop c = chosen_at (passes c.args.space.now c.args.scales.now) c.args.scales.now c.args.current.now c.args.i c.requires.dives.scaled (drawn_here (space_decimals c.args.space.now) (space_circuit c.args.space.now) (space_root c.args.space.now) c.args.scales.now c.args.starts.now c.args.i c.args.current.now c.args.widened.now c.requires.dives c.requires.place) c.are_ends_found.new.lowest c.are_ends_found.new.highest (c.are_ends_found.ensures.ends c.if-not-are_ends_found.false) c.args.word c.aim_between-aim.result c.aim_between-aim.ensures c.args.is_down c.end_of-stop.result c.end_of-stop.ensures.stop c.end_of-stop.new.high_places c.end_of-stop.ensures.places ∙ sym (chosen_stays (passes c.args.space.now c.args.scales.now) c.args.scales.now c.args.current.now c.args.i c.requires.dives.scaled (drawn_here (space_decimals c.args.space.now) (space_circuit c.args.space.now) (space_root c.args.space.now) c.args.scales.now c.args.starts.now c.args.i c.args.current.now c.args.widened.now c.requires.dives c.requires.place) c.are_ends_found.new.lowest c.are_ends_found.new.highest (c.are_ends_found.ensures.ends c.if-not-are_ends_found.false) c.args.word c.aim_between-aim.result c.aim_between-aim.ensures c.args.is_down c.end_of-stop.result c.end_of-stop.ensures.stop c.end_of-stop.new.high_places c.end_of-stop.ensures.places)

pub returns-clause-drawn : goal.returns-clause-drawn
returns-clause-drawn c so = taken_is_drawn (passes c.args.space.now c.args.scales.now) c.args.scales.now c.args.current.now c.args.i c.requires.dives.scaled (drawn_here (space_decimals c.args.space.now) (space_circuit c.args.space.now) (space_root c.args.space.now) c.args.scales.now c.args.starts.now c.args.i c.args.current.now c.args.widened.now c.requires.dives c.requires.place) c.are_ends_found.new.lowest c.are_ends_found.new.highest (c.are_ends_found.ensures.ends c.if-not-are_ends_found.false) c.args.word c.aim_between-aim.result c.aim_between-aim.ensures c.args.is_down c.end_of-stop.result c.end_of-stop.ensures.stop c.end_of-stop.new.high_places c.end_of-stop.ensures.places c.take.new.current (c.take.ensures.taken so)

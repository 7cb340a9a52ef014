use Rattle.std.proofs.Common.{◌≡◌, ◌≤ℤ◌, ◌∙◌, List, set, to_z, of_z, w64, sym, subst, arith}
use Rattle.std.proofs.lemmas.Int.{ints}
use Rattle.lt_bounds.specs.Places.{AreScaled}
use Rattle.lt_bounds.specs.Ranges.{range_at}
use Rattle.lt_num.specs.declared.interval.Interval.{Interval}
use Rattle.lt_solver.specs.inner.Drawing.{place_only}
use Rattle.lt_solver.proofs.Dives.{part_narrower}
use Rattle.lt_solver.proofs.Draws.{place_stays}
use Rattle.lt_solver.proofs.Scaled.{scaled_narrower}
use Rattle.lt_solver.proofs.possible.is_found_at.Goals as goal

pub is_found-requires-clause-scaled : goal.is_found-requires-clause-scaled
is_found-requires-clause-scaled c =
    let scales = c.args.scales.now in
    let box = c.args.current.now in
    let i = c.args.i in
    let k = to_z w64 (of_z w64 c.args.place) in
    let stays = place_stays scales box i c.requires.scaled c.requires.within c.args.place c.requires.place in
    let w = c.requires.place in
    let inside : ((range_at box i).low ≤ℤ k) × (k ≤ℤ k) × (k ≤ℤ (range_at box i).high) = (omega (arith, ints, stays, w.0), omega (arith, ints), omega (arith, ints, stays, w.1)) in
    let is : c.deref_mut.result.now ≡ set box i (place_only k) = c.deref_mut.ensures.value ∙ (λ j. set (c.copy_box.ensures.items j) i (c.only.ensures j)) in
    subst (λ (b : List Interval). AreScaled scales b) (sym is) (scaled_narrower scales box (set box i (place_only k)) c.requires.scaled (part_narrower scales i box c.requires.scaled c.requires.within (place_only k) inside))

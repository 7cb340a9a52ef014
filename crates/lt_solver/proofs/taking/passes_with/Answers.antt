use Rattle.std.proofs.Common.{◌∙◌, set, sym, subst, to_z, of_z, w64, arith}
use Rattle.std.proofs.lemmas.Int.{ints}
use Rattle.lt_formula.specs.Box.{IsInBox}
use Rattle.lt_space.specs.CircuitView.{circuit_formulas}
use Rattle.lt_solver.specs.inner.Drawing.{place_only}
use Rattle.lt_solver.specs.inner.Propagated.{holds_at}
use Rattle.lt_solver.proofs.Begins.{same_first}
use Rattle.lt_solver.proofs.Draws.{changed_in, changed_part, place_stays}
use Rattle.lt_solver.proofs.Scaled.{box_long}
use Rattle.lt_solver.proofs.taking.passes_with.Goals as goal

pub copy_from_slice-requires : goal.copy_from_slice-requires
copy_from_slice-requires c = c.requires.changed ∙ sym (box_long c.args.current.now c.args.witness.now c.requires.witness)

pub returns : goal.returns
returns c = record {
  found = λ so.
      let box = c.args.current.now in
      let i = c.args.i in
      let copied = c.copy_from_slice.new.self in
      let place = to_z w64 (of_z w64 c.args.place) in
      let stays = place_stays c.args.scales.now box i c.requires.scaled c.requires.within c.args.place c.requires.place in
      let w = c.requires.place in
      let inside = subst (IsInBox box) (sym c.copy_from_slice.ensures.after) c.requires.witness in
      let same = same_first box (set copied i place) (changed_in box copied i place inside (omega (arith, ints, stays, w.0), omega (arith, ints, stays, w.1))) in (
        changed_part box copied i (place_only c.args.place) place inside (omega (arith, ints, stays), omega (arith, ints, stays)),
        (λ j. holds_at (sym c.decimals.ensures.decimals j) (circuit_formulas (sym c.circuit.ensures j)) (sym c.root.ensures.root j) c.args.scales.now (sym same j)) ∙ c.is_plainly_true.ensures so,
      );
}

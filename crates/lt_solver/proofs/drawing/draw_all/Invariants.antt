use Rattle.std.proofs.Common.{◌≡◌, ◌≤◌, List, length, vec_capacity}
use Rattle.lt_num.specs.declared.range.Range.{Range}
use Rattle.lt_space.specs.Formula.{holds}
use Rattle.lt_space.specs.SpaceView.{space_circuit, space_decimals, space_formula, space_root}
use Rattle.lt_solver.specs.inner.Classified.{passes}
use Rattle.lt_solver.specs.inner.Dive.{IsDiving}
use Rattle.lt_solver.specs.inner.Drawing.{AreDrawn, Passes, TellsRanges}
use Rattle.lt_solver.proofs.drawing.draw_all.Given as goal

-- so many are drawn
abbrev pub invariant-loop-i : goal.invariant-loop-i
invariant-loop-i l = record {
  dives : IsDiving (space_decimals l.space) (space_circuit l.space) (space_root l.space) l.scales l.starts l.i l.current l.widened;
  witness : Passes (passes l.space l.scales) l.current l.witness;
  current : length l.current ≡ length l.fn.current;
  widened : length l.widened ≡ length l.fn.widened;
  found : length l.found ≡ length l.fn.found;
  drawn : (ranges : List Range) → TellsRanges (λ vs. holds (space_decimals l.space) vs (space_formula l.space)) l.scales l.fn.current ranges → AreDrawn (λ vs. holds (space_decimals l.space) vs (space_formula l.space)) l.scales l.current ranges l.words l.down l.i;
  point : vec_capacity l.fn.point ≤ vec_capacity l.point;
  copy : vec_capacity l.fn.room.current ≤ vec_capacity l.room.current;
  kleenes : vec_capacity l.room.kleenes ≡ vec_capacity l.fn.room.kleenes;
  circuit : l.recall.circuit ≡ l.fn.recall.circuit;
  decimals : l.recall.decimals ≡ l.fn.recall.decimals;
  flag : l.recall.is_copied ≡ l.fn.recall.is_copied;
}

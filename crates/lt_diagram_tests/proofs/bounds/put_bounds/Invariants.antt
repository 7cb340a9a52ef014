use Rattle.std.proofs.Common.{◌≡◌}
use Rattle.lt_diff.specs.Bounds.{HasLeasts}
use Rattle.lt_diff.specs.Closing.{AreStated}
use Rattle.lt_diff.specs.MatrixView.{matrix_cell, matrix_size}
use Rattle.lt_diagram_tests.proofs.bounds.put_bounds.Given as goal

-- no bound is lost
abbrev pub invariant-loop-bound : goal.invariant-loop-bound
invariant-loop-bound l = (matrix_size l.matrix ≡ 4) × AreStated 4 (matrix_cell l.matrix) × HasLeasts 4 (matrix_cell l.matrix)

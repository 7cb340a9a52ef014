use Rattle.std.proofs.Common.{◌≡◌, ◌≢◌, ℕ, ◌<◌}
use Rattle.lt_diff.specs.Bounds.{no_bound}
use Rattle.lt_diff.specs.Closing.{AreStated}
use Rattle.lt_diff.specs.MatrixView.{matrix_cell, matrix_size}
use Rattle.lt_diagram_tests.proofs.bounds.put_ranges.Given as goal

-- the variables before this one have a lower bound
abbrev pub invariant-loop-variable : goal.invariant-loop-variable
invariant-loop-variable l =
    (matrix_size l.matrix ≡ 4) × AreStated 4 (matrix_cell l.matrix) × ((a : ℕ) → a < l.variable → matrix_cell l.matrix 0 a ≢ no_bound)

use Rattle.std.proofs.Common.{◌≡◌, ◌≢◌, ◌*◌, ◌<◌, ◌≤◌, ℕ, length, ◌⊎◌}
use Rattle.lt_diff.specs.Bounds.{cell_of}
use Rattle.lt_diff.specs.inner.Pivots.{IsRelaxed}
use Rattle.lt_diff.proofs.relaxing.relax_row.Given as goal

-- the cells of the row before `column` are relaxed, and all others are as they were
abbrev pub invariant-loop-column : goal.invariant-loop-column
invariant-loop-column l =
    (length l.cells ≡ l.size * l.size)
    × ((b : ℕ) → b < l.column → IsRelaxed (cell_of l.size l.fn.cells l.row b) (cell_of l.size l.fn.cells l.row l.pivot) (cell_of l.size l.fn.cells l.pivot b) (cell_of l.size l.cells l.row b))
    × ((a b : ℕ) → b < l.size → (a ≢ l.row) ⊎ (l.column ≤ b) → cell_of l.size l.cells a b ≡ cell_of l.size l.fn.cells a b)

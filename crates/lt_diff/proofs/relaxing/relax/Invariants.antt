use Rattle.std.proofs.Common.{◌≡◌, ◌*◌, ◌<◌, ◌≤◌, ℕ, length, ◌⊎◌}
use Rattle.lt_diff.specs.Bounds.{cell_of}
use Rattle.lt_diff.specs.inner.Pivots.{IsRelaxed}
use Rattle.lt_diff.proofs.relaxing.relax.Given as goal

-- the rows before `row` are relaxed; the others, and the pivot's, are as they were
abbrev pub invariant-loop-row : goal.invariant-loop-row
invariant-loop-row l =
    (length l.cells ≡ l.size * l.size)
    × ((a b : ℕ) → a < l.row → b < l.size → IsRelaxed (cell_of l.size l.fn.cells a b) (cell_of l.size l.fn.cells a l.pivot) (cell_of l.size l.fn.cells l.pivot b) (cell_of l.size l.cells a b))
    × ((a b : ℕ) → b < l.size → (a ≡ l.pivot) ⊎ (l.row ≤ a) → cell_of l.size l.cells a b ≡ cell_of l.size l.fn.cells a b)

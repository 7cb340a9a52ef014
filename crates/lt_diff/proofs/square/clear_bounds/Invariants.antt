use Rattle.std.proofs.Common.{◌≡◌, ◌≢◌, ℕ, ◌<◌, ◌*◌, pos, length}
use Rattle.lt_diff.specs.Bounds.{cell_of, no_bound}
use Rattle.lt_diff.proofs.square.clear_bounds.Given as goal

-- the variables before this one are at most 0 over themselves, and no other bound is stated
abbrev pub invariant-loop-variable : goal.invariant-loop-variable
invariant-loop-variable l =
    (length l.cells ≡ l.size * l.size)
    × ((a : ℕ) → a < l.variable → cell_of l.size l.cells a a ≡ pos 0)
    × ((a b : ℕ) → a < l.size → b < l.size → a ≢ b → cell_of l.size l.cells a b ≡ no_bound)

use Rattle.std.proofs.Common.{◌≡◌, ◌<◌, ℕ, List, ℤ, pos, neg_ℤ, get_or, subst}
use Rattle.lt_diff.specs.Bounds.{cell_of}
use Rattle.lt_diff.specs.MatrixView.{matrix_cell}
use Rattle.lt_diff.proofs.Leasts.{least_met}
use Rattle.lt_diff.proofs.matrix.Matrix.least_point.Goals as goal

pub returns-clause-solution : goal.returns-clause-solution
returns-clause-solution c =
    let n = c.args.self.now.size in
    let values : (a : ℕ) → a < n → get_or c.negate_row.new.into a (pos 0) ≡ neg_ℤ (matrix_cell c.args.self.now 0 a) =
    subst (λ (xs : List ℤ). (a : ℕ) → a < n → get_or c.negate_row.new.into a (pos 0) ≡ neg_ℤ (cell_of n xs 0 a)) c.deref.ensures.value c.negate_row.ensures in
    least_met n (matrix_cell c.args.self.now) (λ a. get_or c.negate_row.new.into a (pos 0)) c.args.self.now.some c.requires.closed c.requires.leasts values

use Rattle.std.proofs.Common.{◌∙◌, ◌+◌, ◌*◌, pos, length-set}
use Rattle.lt_diff.proofs.Cells.{diagonal_more}
use Rattle.lt_diff.proofs.square.clear_bounds.Goals as goal

pub loop-variable-preserved : goal.loop-variable-preserved
loop-variable-preserved c =
    let n = c.args.size in
    let k = c.loop-variable.variable in
    let xs = c.loop-variable.cells in
    let inv = c.loop-variable.invariant in
    let d = diagonal_more n k xs inv.0 c.loop-variable-test.true inv.1 inv.2 in
    (length-set xs (k * n + k) (pos 0) ∙ inv.0, d.0, d.1)

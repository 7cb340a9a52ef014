use Rattle.std.proofs.Common.{◌*◌, ◌+◌}
use Rattle.lt_parts.proofs.outlining.+outline.Given as goal

-- the parts of an expression have smaller numbers
abbrev pub decreases-outline : goal.decreases-outline
decreases-outline l = 2 * l.exp

abbrev pub decreases-boxed_outline : goal.decreases-boxed_outline
decreases-boxed_outline l = 2 * l.exp + 1

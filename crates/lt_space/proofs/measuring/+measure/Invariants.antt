use Rattle.std.proofs.Common.{◌*◌, ◌+◌}
use Rattle.lt_space.proofs.measuring.+measure.Given as goal

-- the parts of an expression have smaller numbers
abbrev pub decreases-measure : goal.decreases-measure
decreases-measure l = 4 * l.exp + 3

abbrev pub decreases-evaluate : goal.decreases-evaluate
decreases-evaluate l = 4 * l.exp + 2

abbrev pub decreases-binary_form : goal.decreases-binary_form
decreases-binary_form l = 4 * l.exp + 1

abbrev pub decreases-product_form : goal.decreases-product_form
decreases-product_form l = 4 * l.exp

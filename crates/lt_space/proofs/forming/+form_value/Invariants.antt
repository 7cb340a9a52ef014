use Rattle.std.proofs.Common.{◌*◌, ◌+◌, max}
use Rattle.lt_space.proofs.forming.+form_value.Given as goal

-- the parts of an expression have smaller numbers
abbrev pub decreases-form_value : goal.decreases-form_value
decreases-form_value l = 3 * l.exp + 1

abbrev pub decreases-binary_form : goal.decreases-binary_form
decreases-binary_form l = 3 * max l.left l.right + 3

abbrev pub decreases-product_form : goal.decreases-product_form
decreases-product_form l = 3 * max l.left l.right + 2

abbrev pub decreases-both_forms : goal.decreases-both_forms
decreases-both_forms l = 3 * max l.left l.right + 2

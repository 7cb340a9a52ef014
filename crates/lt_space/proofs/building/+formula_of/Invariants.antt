use Rattle.std.proofs.Common.{◌*◌, ◌+◌, max}
use Rattle.lt_space.proofs.building.+formula_of.Given as goal

-- the parts of an expression have smaller numbers
abbrev pub decreases-formula_of : goal.decreases-formula_of
decreases-formula_of l = 4 * l.exp + 1

abbrev pub decreases-boxed_formula : goal.decreases-boxed_formula
decreases-boxed_formula l = 4 * l.exp + 2

abbrev pub decreases-binary_formula : goal.decreases-binary_formula
decreases-binary_formula l = 4 * max l.left l.right + 4

abbrev pub decreases-choice_formula : goal.decreases-choice_formula
decreases-choice_formula l = 4 * max l.condition (max l.first l.second) + 4

abbrev pub decreases-both_formulas : goal.decreases-both_formulas
decreases-both_formulas l = 4 * max l.left l.right + 3

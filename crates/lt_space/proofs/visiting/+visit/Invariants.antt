use Rattle.std.proofs.Common.{◌*◌, ◌+◌}
use Rattle.lt_space.proofs.visiting.+visit.Given as goal

-- the parts of an expression have smaller numbers
abbrev pub decreases-visit : goal.decreases-visit
decreases-visit l = 3 * l.exp + 2

abbrev pub decreases-evaluate : goal.decreases-evaluate
decreases-evaluate l = 3 * l.exp + 1

abbrev pub decreases-binary_gate : goal.decreases-binary_gate
decreases-binary_gate l = 3 * l.exp

abbrev pub decreases-choice_gate : goal.decreases-choice_gate
decreases-choice_gate l = 3 * l.exp

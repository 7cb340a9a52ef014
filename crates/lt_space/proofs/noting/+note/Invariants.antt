use Rattle.std.proofs.Common.{◌*◌, ◌+◌, max}
use Rattle.lt_space.proofs.noting.+note.Given as goal

-- the parts of an expression have smaller numbers
abbrev pub decreases-note : goal.decreases-note
decreases-note l = 3 * l.exp + 2

abbrev pub decreases-note_parts : goal.decreases-note_parts
decreases-note_parts l = 3 * l.exp + 1

abbrev pub decreases-note_one : goal.decreases-note_one
decreases-note_one l = 3 * l.part + 3

abbrev pub decreases-note_two : goal.decreases-note_two
decreases-note_two l = 3 * max l.left l.right + 3

abbrev pub decreases-note_choice : goal.decreases-note_choice
decreases-note_choice l = 3 * max l.condition (max l.first l.second) + 3

use Rattle.std.proofs.Common.{◌+◌, ◌*◌}
use Rattle.lt_marks.specs.View.{body, choices_of, nodes, nodes_of_each}
use Rattle.lt_walk.proofs.arriving.+arrive.Given as goal

-- A turn enters the part that was entered before, of which the body alone is as it was.
abbrev pub decreases-arrive : goal.decreases-arrive
decreases-arrive g l = 3 * nodes (body l.track.now)

abbrev pub decreases-enter : goal.decreases-enter
decreases-enter g l = 3 * nodes (body l.part.now.value) + 1

abbrev pub decreases-arrive_in_part : goal.decreases-arrive_in_part
decreases-arrive_in_part g l = 3 * nodes_of_each (choices_of l.parts.now)

abbrev pub decreases-enter_part : goal.decreases-enter_part
decreases-enter_part g l = 3 * nodes_of_each (choices_of l.parts.now.value) + 1

abbrev pub decreases-turn : goal.decreases-turn
decreases-turn g l = 3 * nodes (body l.again.now.value) + 2

abbrev pub decreases-counted_turn : goal.decreases-counted_turn
decreases-counted_turn g l = 3 * nodes (body l.again.now.value) + 2

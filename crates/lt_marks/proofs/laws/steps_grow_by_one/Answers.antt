use Rattle.lt_marks.proofs.Turns.{no_turn_is_done, steps_grow}
use Rattle.lt_marks.proofs.laws.steps_grow_by_one.Goals as goal

pub returns-clause-begins : goal.returns-clause-begins
returns-clause-begins c = no_turn_is_done

pub returns-clause-grow : goal.returns-clause-grow
returns-clause-grow c = steps_grow c.turns_grow_by_one.ensures.grow

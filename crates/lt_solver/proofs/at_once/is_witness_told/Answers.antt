use Rattle.lt_solver.proofs.at_once.is_witness_told.Goals as goal

pub returns : goal.returns
returns c is = (c.tell_ends.ensures.told is).1.0

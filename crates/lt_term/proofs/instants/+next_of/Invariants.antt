use Rattle.lt_term.proofs.instants.+next_of.Given as goal

abbrev pub decreases-next_of : goal.decreases-next_of
decreases-next_of l = l.number

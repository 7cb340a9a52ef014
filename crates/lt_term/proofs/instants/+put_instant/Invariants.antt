use Rattle.lt_term.proofs.instants.+put_instant.Given as goal

abbrev pub decreases-put_instant : goal.decreases-put_instant
decreases-put_instant l = l.number

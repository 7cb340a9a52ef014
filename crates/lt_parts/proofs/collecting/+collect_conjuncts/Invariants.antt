use Rattle.lt_parts.proofs.collecting.+collect_conjuncts.Given as goal

-- the parts of an expression have smaller numbers
abbrev pub decreases-collect_conjuncts : goal.decreases-collect_conjuncts
decreases-collect_conjuncts l = l.exp

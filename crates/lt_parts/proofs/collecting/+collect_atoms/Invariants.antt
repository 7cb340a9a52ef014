use Rattle.lt_parts.proofs.collecting.+collect_atoms.Given as goal

-- the parts of an expression have smaller numbers
abbrev pub decreases-collect_atoms : goal.decreases-collect_atoms
decreases-collect_atoms l = l.exp

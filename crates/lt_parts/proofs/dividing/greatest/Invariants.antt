use Rattle.std.proofs.Common.{◌≡◌, length, map, max}
use Rattle.lt_parts.specs.Part.{most_atoms_of}
use Rattle.lt_parts.specs.PartView.{piece_of}
use Rattle.lt_parts.proofs.dividing.greatest.Given as goal

-- the greatest so far, with that of what is left, is the greatest
abbrev pub invariant-loop-part : goal.invariant-loop-part
invariant-loop-part l = max l.most (most_atoms_of (map piece_of l.rest)) ≡ most_atoms_of (map piece_of l.parts)

abbrev pub decreases-loop-part : goal.decreases-loop-part
decreases-loop-part l = length l.rest

-- What is said of atoms.
use Rattle.std.specs.Prelude.{Option, None, Some}
use Rattle.lt_linear.specs.Draft.{lent_form}
use Rattle.lt_space.specs.Formula.{Formula, atom, negation, truth}
use Rattle.lt_space.specs.declared.formula.Atom.TheVariants as variant
use Rattle.lt_space.specs.declared.loaded.Loaded.{Loaded}
use Rattle.lt_space.specs.declared.loaded.Loaded.TheVariants.{Skipped, Truth, Flag, Compare}

-- the formula that is said to be that of an atom, unless it was skipped
abbrev pub loaded_formula : Loaded → Option Formula
loaded_formula Skipped = None
loaded_formula (Truth b) = Some (truth b)
loaded_formula (Flag i) = Some (atom (variant.Flag i))
loaded_formula (Compare lent relation) = Some (atom (variant.Compare (lent_form lent) relation))

-- the formula, where it is that of an atom: a truth, a Boolean variable or a comparison
abbrev pub plain_atom_of : Formula → Option Formula
plain_atom_of (truth b) = Some (truth b)
plain_atom_of (atom a) = Some (atom a)
plain_atom_of f = None

-- the same, where it may also be one that is denied, as that of `a <> b` is
abbrev pub atom_of : Formula → Option Formula
atom_of (negation f) = plain_atom_of f
atom_of f = plain_atom_of f

-- what is said of an atom whose formula is told, if it is
abbrev pub told_atom : Option Formula → Option Formula
told_atom None = None
told_atom (Some f) = atom_of f

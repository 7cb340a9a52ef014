-- What formulas of flags say where the flags have truths.
use Rattle.std.specs.Prelude.{◌≡◌, ℕ, Bool, true, false, not, ◌&&◌, ◌||◌, nat_lt, List, IsTrue, ℤ, if◌then◌else◌}
use Rattle.lt_space.specs.Formula.{Formula, atom, atom_holds, choice, conjunction, disjunction, exclusive, holds, negation, truth}
use Rattle.lt_space.specs.declared.formula.Atom.{Atom}
use Rattle.lt_space.specs.declared.formula.Atom.TheVariants.{Compare, Flag}

-- whether an atom is a flag below this one
abbrev pub is_flag : ℕ → Atom → Bool
is_flag below (Flag i) = nat_lt i below
is_flag below (Compare form relation) = false

-- whether all atoms of a formula are
abbrev pub are_flags : ℕ → Formula → Bool
are_flags below (truth b) = true
are_flags below (atom a) = is_flag below a
are_flags below (negation f) = are_flags below f
are_flags below (conjunction f g) = are_flags below f && are_flags below g
are_flags below (disjunction f g) = are_flags below f && are_flags below g
are_flags below (exclusive f g) = are_flags below f && are_flags below g
are_flags below (choice f g h) = are_flags below f && (are_flags below g && are_flags below h)

-- the truth of an atom, where flags have these; that of a comparison is false
abbrev pub flag_truth : (ℕ → Bool) → Atom → Bool
flag_truth truths (Flag i) = truths i
flag_truth truths (Compare form relation) = false

-- the truth of a formula, where flags have these
abbrev pub says : (ℕ → Bool) → Formula → Bool
says truths (truth b) = b
says truths (atom a) = flag_truth truths a
says truths (negation f) = not (says truths f)
says truths (conjunction f g) = says truths f && says truths g
says truths (disjunction f g) = says truths f || says truths g
says truths (exclusive f g) = if says truths f then not (says truths g) else says truths g
says truths (choice f g h) = if says truths f then says truths g else says truths h

-- a formula of flags holds of raw values where it is true with the truths that the flags have there
abbrev pub SaysHolds : Type 0
SaysHolds =
    (decimals : ℕ) (values : List ℤ) (below : ℕ) (f : Formula) → IsTrue (are_flags below f)
    → says (λ i. atom_holds decimals values (Flag i)) f ≡ holds decimals values f

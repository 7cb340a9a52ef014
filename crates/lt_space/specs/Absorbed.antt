-- Formulas in which truths are absorbed, from the parts to the whole, and the conjuncts of a formula.
use Rattle.std.specs.Prelude.{Bool, true, false, not, List, [], ◌∷◌, ◌++◌, if◌then◌else◌}
use Rattle.lt_space.specs.Formula.{Formula, atom, choice, conjunction, disjunction, exclusive, negation, truth}

-- not: of a truth it is the other one
abbrev pub not_of : Formula → Formula
not_of (truth b) = truth (not b)
not_of f = negation f

-- and, or: with a truth on the left, ..
abbrev pub and_with : Bool → Formula → Formula
and_with b g = if b then g else truth false

abbrev pub or_with : Bool → Formula → Formula
or_with b g = if b then truth true else g

abbrev pub xor_with : Bool → Formula → Formula
xor_with b g = if b then not_of g else g

-- .. and otherwise by what is on the right
abbrev pub and_right : Formula → Formula → Formula
and_right f (truth b) = and_with b f
and_right f g = conjunction f g

abbrev pub or_right : Formula → Formula → Formula
or_right f (truth b) = or_with b f
or_right f g = disjunction f g

abbrev pub xor_right : Formula → Formula → Formula
xor_right f (truth b) = xor_with b f
xor_right f g = exclusive f g

-- what a truth table gives with a truth: a truth, the other part, or not of that
abbrev pub and_of : Formula → Formula → Formula
and_of (truth b) g = and_with b g
and_of f g = and_right f g

abbrev pub or_of : Formula → Formula → Formula
or_of (truth b) g = or_with b g
or_of f g = or_right f g

abbrev pub xor_of : Formula → Formula → Formula
xor_of (truth b) g = xor_with b g
xor_of f g = xor_right f g

-- if: with a truth as its condition it is that branch
abbrev pub choice_of : Formula → Formula → Formula → Formula
choice_of (truth b) g h = if b then g else h
choice_of f g h = choice f g h

-- a formula with its truths absorbed
abbrev pub absorbed : Formula → Formula
absorbed (truth b) = truth b
absorbed (atom a) = atom a
absorbed (negation f) = not_of (absorbed f)
absorbed (conjunction f g) = and_of (absorbed f) (absorbed g)
absorbed (disjunction f g) = or_of (absorbed f) (absorbed g)
absorbed (exclusive f g) = xor_of (absorbed f) (absorbed g)
absorbed (choice f g h) = choice_of (absorbed f) (absorbed g) (absorbed h)

-- its conjuncts: the parts of its outermost `and`s
abbrev pub conjuncts : Formula → List Formula
conjuncts (conjunction f g) = conjuncts f ++ conjuncts g
conjuncts f = f ∷ []

-- The work that a search may need, as a number that is known before it: 180 * (n + 1) * 3 ^ h * S, and
-- at most 2 ^ 127. There are n variables in scope, h choices are left by the conjuncts once truths are
-- absorbed, and S is how many points the hard variables have. A choice is a way to split a search here,
-- and not an `if`.
use Rattle.std.specs.Prelude.{ℕ, suc, ◌+◌, ◌*◌, ◌^◌, Bool, true, false, not, ◌&&◌, ◌||◌, nat_eq, nat_lt, if◌then◌else◌, List, [], ◌∷◌, ◌++◌, length, min, neg_ℤ, ℤ, pos, slice_index_or}
use Rattle.std.specs.List.{list_any}
use Rattle.std.specs.Ordering.{int_eq}
use Rattle.lt_linear.specs.Form.{Term}
use Rattle.lt_num.specs.Range.{count_of}
use Rattle.lt_num.specs.declared.range.Range.{Range}
use Rattle.lt_space.specs.Absorbed.{absorbed, conjuncts}
use Rattle.lt_space.specs.Formula.{Formula, atom, choice, conjunction, disjunction, exclusive, negation, truth}
use Rattle.lt_space.specs.declared.formula.Atom.{Atom}
use Rattle.lt_space.specs.declared.formula.Atom.TheVariants.{Compare, Flag}
use Rattle.lt_space.specs.declared.formula.Relation.{Relation}
use Rattle.lt_space.specs.declared.formula.Relation.TheVariants.{Below, Equal, NotAbove}

-- the greatest need
abbrev pub most_need : ℕ
most_need = 2 ^ 127

-- Atoms are the same where they are the same data, whatever they mean.

-- whether two relations are the same
abbrev pub same_relation : Relation → Relation → Bool
same_relation Below Below = true
same_relation Below NotAbove = false
same_relation Below Equal = false
same_relation NotAbove Below = false
same_relation NotAbove NotAbove = true
same_relation NotAbove Equal = false
same_relation Equal Below = false
same_relation Equal NotAbove = false
same_relation Equal Equal = true

-- whether two lists have the same terms in the same order
abbrev pub same_terms : List Term → List Term → Bool
same_terms [] [] = true
same_terms [] (t ∷ ts) = false
same_terms (s ∷ ss) [] = false
same_terms (s ∷ ss) (t ∷ ts) = (nat_eq s.0 t.0 && int_eq s.1 t.1) && same_terms ss ts

-- whether two atoms are the same
abbrev pub same_atom : Atom → Atom → Bool
same_atom (Flag i) (Flag j) = nat_eq i j
same_atom (Flag i) (Compare form relation) = false
same_atom (Compare form relation) (Flag j) = false
same_atom (Compare form relation) (Compare other by) =
    same_relation relation by
    && (int_eq form.constant other.constant && same_terms form.terms other.terms)

-- Choices.

-- the atoms of a formula, from left to right
abbrev pub atoms_of : Formula → List Atom
atoms_of (truth b) = []
atoms_of (atom a) = a ∷ []
atoms_of (negation f) = atoms_of f
atoms_of (conjunction f g) = atoms_of f ++ atoms_of g
atoms_of (disjunction f g) = atoms_of f ++ atoms_of g
atoms_of (exclusive f g) = atoms_of f ++ atoms_of g
atoms_of (choice f g h) = atoms_of f ++ (atoms_of g ++ atoms_of h)

-- how many different ones there are
abbrev pub count_different : List Atom → ℕ
count_different [] = 0
count_different (a ∷ more) =
    if list_any (same_atom a) more then count_different more else suc (count_different more)

-- the choices of a denial: 1 where numbers are to differ, and none of another atom alone; else one
-- for each different atom
abbrev pub choices_denied : Formula → ℕ
choices_denied (atom (Flag i)) = 0
choices_denied (atom (Compare form Below)) = 0
choices_denied (atom (Compare form NotAbove)) = 0
choices_denied (atom (Compare form Equal)) = 1
choices_denied f = count_different (atoms_of f)

-- the choices of a conjunct: none of an atom alone, and else one for each different atom
abbrev pub choices_in : Formula → ℕ
choices_in (atom a) = 0
choices_in (negation f) = choices_denied f
choices_in f = count_different (atoms_of f)

-- the choices of all conjuncts
abbrev pub choices_of : List Formula → ℕ
choices_of [] = 0
choices_of (f ∷ fs) = choices_in f + choices_of fs

-- Hard variables.

-- the terms of an atom that compares several variables
abbrev pub several_terms : Atom → List Term
several_terms (Flag i) = []
several_terms (Compare form relation) = if nat_lt 1 (length form.terms) then form.terms else []

-- whether a variable is in one of these terms
abbrev pub has_variable : List Term → ℕ → Bool
has_variable terms i = list_any (λ t. nat_eq t.0 i) terms

-- the step of a variable; where there is none, 1
abbrev pub step_of : List Range → ℕ → ℤ
step_of ranges i = (slice_index_or ranges i (record { low = pos 0; high = pos 0; step = pos 1 })).step

-- whether these are c * x - c * y for two variables of equal step
abbrev pub is_difference : List Range → List Term → Bool
is_difference ranges [] = false
is_difference ranges (s ∷ []) = false
is_difference ranges (s ∷ t ∷ []) =
    int_eq s.1 (neg_ℤ t.1) && int_eq (step_of ranges s.0) (step_of ranges t.0)
is_difference ranges (s ∷ t ∷ u ∷ ts) = false

-- whether an atom is an equation
abbrev pub is_equation : Atom → Bool
is_equation (Flag i) = false
is_equation (Compare form Below) = false
is_equation (Compare form NotAbove) = false
is_equation (Compare form Equal) = true

-- whether another atom among these compares several variables, one of which this atom compares with
-- others too
abbrev pub is_shared : List Atom → Atom → Bool
is_shared atoms a =
    list_any (λ b. not (same_atom a b)
    && list_any (λ t. has_variable (several_terms b) t.0) (several_terms a)) atoms

-- Whether an atom of several variables is hard: it isn't a difference, and is an equation or shares a
-- variable. An inequality that shares none is decided by the corner of the ranges at which its form is
-- least.
abbrev pub is_hard : List Range → List Atom → Atom → Bool
is_hard ranges atoms a =
    not (is_difference ranges (several_terms a)) && (is_equation a || is_shared atoms a)

-- whether a variable is in a hard atom of several variables
abbrev pub is_hard_variable : List Range → List Atom → ℕ → Bool
is_hard_variable ranges atoms i =
    list_any (λ a. is_hard ranges atoms a && has_variable (several_terms a) i) atoms

-- the product of how many points the ranges of hard variables have, among all ranges, of which the
-- first of these is that of a variable with this number, whether they are in scope or not
abbrev pub hard_points : List Range → List Atom → ℕ → List Range → ℕ
hard_points all atoms i [] = 1
hard_points all atoms i (range ∷ ranges) =
    (if is_hard_variable all atoms i then count_of range else 1)
    * hard_points all atoms (suc i) ranges

-- The need.

-- how many variables a scope has, of which it has a mark for each
abbrev pub variables_in : List Bool → ℕ
variables_in [] = 0
variables_in (true ∷ marks) = suc (variables_in marks)
variables_in (false ∷ marks) = variables_in marks

-- that of a formula whose truths are absorbed, not yet cut at the greatest need
abbrev pub whole_need : Formula → List Bool → List Range → ℕ
whole_need f scope ranges =
    180 * (variables_in scope + 1)
    * (hard_points ranges (atoms_of f) 0 ranges * 3 ^ choices_of (conjuncts f))

-- The need of a search for values of variables at which a formula holds, at most 2 ^ 127. The scope says
-- how many variables there are.
abbrev pub need : Formula → List Bool → List Range → ℕ
need f scope ranges = min (whole_need (absorbed f) scope ranges) most_need

-- The conjuncts of a constraint, the atoms of a Boolean, and formulas that outline one.
use Rattle.std.specs.Prelude.{◌≡◌, Bool, true, false, not, ◌&&◌, ◌||◌, List, [], ◌∷◌, ◌++◌, if◌then◌else◌}
use Rattle.lt_formula.specs.Expression.{Expression, constant, variable, previous, unary, binary, choice}
use Rattle.lt_formula.specs.Kinds.{Kinds}
use Rattle.lt_formula.specs.declared.operator.BinaryOperator.{BinaryOperator}
use Rattle.lt_formula.specs.declared.operator.BinaryOperator.TheVariants as two
use Rattle.lt_space.specs.Evaluated.{Either, is_and}
use Rattle.lt_space.specs.Formula.{Formula, negation}
use Rattle.lt_space.specs.Formula as formula
use Rattle.lt_space.specs.Meaning.{connected, is_boolean, is_known, kind_of}

-- whether an operator with this left part is one on numbers
abbrev pub is_comparison : Kinds → Expression → Bool
is_comparison kinds d = not (is_boolean (kind_of kinds d))

-- whether it is an `and` of Booleans
abbrev pub is_conjunction : Kinds → BinaryOperator → Expression → Bool
is_conjunction kinds op d = is_boolean (kind_of kinds d) && is_and op

-- the conjuncts of a constraint: the parts of its outermost `and`s
abbrev pub conjuncts_of : Kinds → Expression → List Expression
conjuncts_of kinds (binary op d e) = if is_conjunction kinds op d then conjuncts_of kinds d ++ conjuncts_of kinds e else binary op d e ∷ []
conjuncts_of kinds e = e ∷ []

-- the atoms of a Boolean, as they occur from left to right: what is known, Boolean variables, and comparisons of numbers
abbrev pub atoms_in : Kinds → Expression → List Expression
atoms_in kinds (constant k c) = constant k c ∷ []
atoms_in kinds (variable r i) = variable r i ∷ []
atoms_in kinds (previous r i) = previous r i ∷ []
atoms_in kinds (unary op e) = if is_known kinds (unary op e) then unary op e ∷ [] else atoms_in kinds e
atoms_in kinds (binary op d e) =
    if is_known kinds (binary op d e) || is_comparison kinds d then binary op d e ∷ [] else atoms_in kinds d ++ atoms_in kinds e
atoms_in kinds (choice c d e) =
    if is_known kinds (choice c d e) then choice c d e ∷ [] else atoms_in kinds c ++ (atoms_in kinds d ++ atoms_in kinds e)

-- whether an operator is `<>`
abbrev pub is_unequal : BinaryOperator → Bool
is_unequal two.Ne = true
is_unequal op = false

-- The formula of a comparison, by that of its atom. That of `<>` is denied: the atom is what `=` says.
abbrev pub OutlinesComparison : (Formula → Type 0) → BinaryOperator → Formula → Type 0
OutlinesComparison Is op f = Either (is_unequal op) ((g : Formula) × (f ≡ negation g) × Is g) (Is f)

-- A formula outlines a Boolean: it has the rules of connectives, and formulas of the atoms in their places. What is known is an
-- atom as a whole.
abbrev pub Outlines : (Expression → Formula → Type 0) → Kinds → Expression → Formula → Type 0
Outlines Is kinds (constant k c) f = Is (constant k c) f
Outlines Is kinds (variable r i) f = Is (variable r i) f
Outlines Is kinds (previous r i) f = Is (previous r i) f
Outlines Is kinds (unary op e) f =
    Either (is_known kinds (unary op e)) (Is (unary op e) f)
    ((g : Formula) × (f ≡ negation g) × Outlines Is kinds e g)
Outlines Is kinds (binary op d e) f =
    Either (is_known kinds (binary op d e)) (Is (binary op d e) f)
    (Either (is_comparison kinds d) (OutlinesComparison (Is (binary op d e)) op f)
    ((g : Formula) × (h : Formula) × (f ≡ connected op g h) × Outlines Is kinds d g × Outlines Is kinds e h))
Outlines Is kinds (choice c d e) f =
    Either (is_known kinds (choice c d e)) (Is (choice c d e) f)
    ((g : Formula) × (h : Formula) × (i : Formula) × (f ≡ formula.choice g h i) × Outlines Is kinds c g × Outlines Is kinds d h × Outlines Is kinds e i)

-- What formulas of the code stand for.
use Rattle.std.specs.declared.alloc.Global.{Global}
use Rattle.std.specs.declared.boxed.Box.{Box}
use Rattle.lt_space.specs.Formula.{Formula, atom, choice, conjunction, disjunction, exclusive, negation, truth}
use Rattle.lt_space.specs.declared.formula.Formula as code
use Rattle.lt_space.specs.declared.formula.Formula.TheVariants.{Truth, Atom, Not', And', Or', Xor', If'}

-- the formula that is meant
abbrev pub formula_view : code.Formula → Formula
formula_view (Truth b) = truth b
formula_view (Atom a) = atom a
formula_view (Not' p f) = negation (formula_view f)
formula_view (And' p f q g) = conjunction (formula_view f) (formula_view g)
formula_view (Or' p f q g) = disjunction (formula_view f) (formula_view g)
formula_view (Xor' p f q g) = exclusive (formula_view f) (formula_view g)
formula_view (If' p f q g r h) = choice (formula_view f) (formula_view g) (formula_view h)

-- the formula that is meant by one in a box
abbrev pub boxed_view : Box code.Formula Global → Formula
boxed_view formula = formula_view formula.value

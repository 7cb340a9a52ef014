-- The gates of Booleans while constraints are loaded.
use Rattle.std.specs.Prelude.{◌≡◌, ◌<◌, ◌≤◌, ◌+◌, ◌*◌, ℕ, IsTrue, List, fold, length, None, Option, Ok, Err}
use Rattle.std.specs.declared.result.Result.{Result}
use Rattle.lt_num.specs.declared.fault.Arith.{Arith}
use Rattle.lt_formula.specs.Table.{spelled}
use Rattle.lt_formula.specs.Valuation.{Valuation}
use Rattle.lt_formula.specs.View.{table_expressions, table_kinds, table_len}
use Rattle.lt_formula.specs.declared.table.Table.{Table}
use Rattle.lt_space.specs.CircuitView.{circuit_formulas, circuit_len, circuit_room, circuit_terms, circuit_terms_room}
use Rattle.lt_space.specs.Formula.{Formula, conjunction}
use Rattle.lt_space.specs.Meaning.{FormulaAnswer, after, formula_of}
use Rattle.lt_space.specs.inner.Kept.{AreKept, Grows, SameFrom, Stands, are_free, number_at, unkept}
use Rattle.lt_space.specs.inner.Measures.{AreBlank, AreReady, AreRoomy, StayLarge}
use Rattle.lt_space.specs.inner.Memo.{memo_numbers}
use Rattle.lt_space.specs.inner.Pushed.{no_formula}
use Rattle.lt_space.specs.declared.work.Work.{Work}

-- the formulas of the gates
abbrev pub formulas_in : Work → List Formula
formulas_in w = circuit_formulas w.circuit

-- for each expression, the number of its gate
abbrev pub gates_in : Work → List (Option ℕ)
gates_in w = memo_numbers w.memo

-- the formula that is due for an expression
abbrev pub formula_due : Valuation → Table → ℕ → FormulaAnswer
formula_due v t k = formula_of v (table_kinds t) (spelled (table_expressions t) k)

-- There is room for the gates of all expressions that have none, two for each, but for so many that are owed; and for the
-- terms of as many comparisons.
pub record HasGateRoom (owed : ℕ) (w : Work) : Type 0 where
  pub gates : circuit_len w.circuit + unkept (gates_in w) * 2 ≤ circuit_room w.circuit + owed * 2
  pub terms : length (circuit_terms w.circuit) + unkept (gates_in w) * w.measures.variables ≤ circuit_terms_room w.circuit + owed * w.measures.variables

-- What is kept is right.
pub record AreVisited (v : Valuation) (t : Table) (w : Work) : Type 0 where
  pub len : length (gates_in w) ≡ table_len t
  pub kept : AreKept Formula no_formula (formulas_in w) (gates_in w) (formula_due v t)
  pub measured : AreReady v t w.measures

-- No room is lost.
pub record StayWide (old new : Work) : Type 0 where
  pub len : length (gates_in new) ≡ length (gates_in old)
  pub gates : circuit_room new.circuit ≡ circuit_room old.circuit
  pub terms : circuit_terms_room old.circuit ≤ circuit_terms_room new.circuit
  pub measures : StayLarge old.measures new.measures

-- A gate is there that is what is due. From an expression on nothing is kept that was not.
pub record IsVisited (v : Valuation) (t : Table) (from owed : ℕ) (due : FormulaAnswer) (n : ℕ) (old new : Work) : Type 0 where
  pub stands : Stands Formula no_formula (formulas_in new) n due
  pub right : AreVisited v t new
  pub room : HasGateRoom owed new
  pub spent : circuit_len new.circuit + unkept (gates_in new) * 2 ≤ circuit_len old.circuit + unkept (gates_in old) * 2 + owed * 2
  pub grows : Grows Formula no_formula (formulas_in old) (formulas_in new)
  pub same : SameFrom from (gates_in old) (gates_in new)
  pub wide : StayWide old new

-- There is none for a fault.
pub record IsFailed (due : FormulaAnswer) (fault : Arith) (old new : Work) : Type 0 where
  pub is : Err fault ≡ due
  pub wide : StayWide old new

-- a gate is there that is what is due, and so is a fault
abbrev pub Visits : Valuation → Table → ℕ → ℕ → FormulaAnswer → Result ℕ Arith → Work → Work → Type 0
Visits v t from owed due (Ok n) old new = IsVisited v t from owed due n old new
Visits v t from owed due (Err fault) old new = IsFailed due fault old new

-- What is kept is right, and there is room.
pub record IsReady (v : Valuation) (t : Table) (w : Work) : Type 0 where
  pub right : AreVisited v t w
  pub room : HasGateRoom 0 w

-- The same, and an expression has no gate yet.
pub record AwaitsGate (v : Valuation) (t : Table) (exp : ℕ) (w : Work) : Type 0 where
  pub ready : IsReady v t w
  pub within : exp < table_len t
  pub free : number_at (gates_in w) exp ≡ None

-- A space of so many expressions and variables, with room to load so many constraints of them at once.
pub record HasWorkRoom (most : ℕ) (w : Work) : Type 0 where
  pub gates : length (gates_in w) * 2 + most + 1 ≤ circuit_room w.circuit
  pub terms : length (gates_in w) * w.measures.variables ≤ circuit_terms_room w.circuit
  pub measures : AreRoomy (length (gates_in w)) w.measures.variables w.measures

-- Nothing is kept, and no room is lost.
pub record IsCleared (old new : Work) : Type 0 where
  pub gates : IsTrue (are_free (gates_in new))
  pub len : circuit_len new.circuit ≡ 0
  pub terms : length (circuit_terms new.circuit) ≡ 0
  pub measures : AreBlank new.measures
  pub wide : StayWide old new

-- what a formula is, joined by `and` with those of more constraints
abbrev pub joined_onto : Formula → Result (List Formula) Arith → FormulaAnswer
joined_onto f formulas = after formulas (λ fs. Ok (fold conjunction f fs))

-- The root of a list of constraints is what is due, and so is a fault.
abbrev pub LoadTells : FormulaAnswer → Result ℕ Arith → Work → Work → Type 0
LoadTells due (Ok root) old new = Stands Formula no_formula (formulas_in new) root due × StayWide old new
LoadTells due (Err fault) old new = IsFailed due fault old new

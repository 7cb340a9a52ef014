-- What spaces stand for.
use Rattle.std.specs.Prelude.{◌≡◌, ◌<◌, ℕ, List, length, map, Option, None, Some, Ok, Err}
use Rattle.std.specs.declared.result.Result.{Result}
use Rattle.lt_num.specs.declared.fault.Arith.{Arith}
use Rattle.lt_formula.specs.Kinds.{variables_of}
use Rattle.lt_formula.specs.Table.{spelled}
use Rattle.lt_formula.specs.Valuation.{Valuation}
use Rattle.lt_formula.specs.View.{table_expressions, table_kinds, table_len}
use Rattle.lt_formula.specs.declared.table.Table.{Table}
use Rattle.lt_space.specs.Circuit.{formula_at}
use Rattle.lt_space.specs.CircuitView.{circuit_formulas, circuit_room}
use Rattle.lt_space.specs.Evaluated.{EvaluateSome}
use Rattle.lt_space.specs.Formula.{Formula}
use Rattle.lt_space.specs.Meaning.{formula_of}
use Rattle.lt_space.specs.inner.Kept.{number_at}
use Rattle.lt_space.specs.inner.Memo.{memo_numbers}
use Rattle.lt_space.specs.inner.Work.{gates_in}
use Rattle.lt_space.specs.declared.circuit.Circuit.{Circuit}
use Rattle.lt_space.specs.declared.space.Space.{Space}

-- the constraints that were loaded
abbrev pub space_wanted : Space → List ℕ
space_wanted s = s.wanted.items

-- the circuit that has their formula
abbrev pub space_circuit : Space → Circuit
space_circuit s = s.work.circuit

-- the number of its gate
abbrev pub space_root : Space → ℕ
space_root s = s.root

-- their formula: that of the root gate
abbrev pub space_formula : Space → Formula
space_formula s = formula_at (circuit_formulas (space_circuit s)) (space_root s)

-- how many decimals a real had in the last load
abbrev pub space_decimals : Space → ℕ
space_decimals s = s.decimals

-- how many constraints it has room for at once
abbrev pub space_most : Space → ℕ
space_most s = s.most

-- how many gates its circuit has room for
abbrev pub space_gates : Space → ℕ
space_gates s = circuit_room (space_circuit s)

-- how many expressions there may be
abbrev pub space_len : Space → ℕ
space_len s = length (gates_in s.work)

-- the formula of a number, if there is one
abbrev pub told_at : List Formula → Option ℕ → Option Formula
told_at formulas None = None
told_at formulas (Some n) = Some (formula_at formulas n)

-- the formula that is told of an expression, if the last load evaluated it
abbrev pub space_told : Space → ℕ → Option Formula
space_told s k = told_at (circuit_formulas (space_circuit s)) (number_at (memo_numbers s.noted) k)

-- The formula of each expression is told that is evaluated for the constraints that were loaded, and of no other one.
pub record TellsEvaluated (v : Valuation) (t : Table) (s : Space) : Type 0 where
  pub evaluated : (k : ℕ) → k < table_len t → EvaluateSome v (table_kinds t) (map (spelled (table_expressions t)) (space_wanted s)) (spelled (table_expressions t) k)
      → (f : Formula) × (space_told s k ≡ Some f) × (Ok f ≡ formula_of v (table_kinds t) (spelled (table_expressions t) k))
  pub skipped : (k : ℕ) → k < table_len t → ¬ (EvaluateSome v (table_kinds t) (map (spelled (table_expressions t)) (space_wanted s)) (spelled (table_expressions t) k))
      → space_told s k ≡ None

-- The space has room for the expressions of this table.
pub record IsOver (t : Table) (s : Space) : Type 0 where
  -- as many expressions ..
  pub expressions : length (gates_in s.work) ≡ table_len t
  -- .. over as many outputs and locals
  pub variables : s.work.measures.variables ≡ variables_of (table_kinds t)

-- what a load answers, by the formula that it leaves
abbrev pub loaded : {A : Type 0} → Formula → Result A Arith → Result Formula Arith
loaded f (Ok a) = Ok f
loaded f (Err e) = Err e

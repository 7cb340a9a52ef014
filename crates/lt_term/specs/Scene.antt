-- A scenario as contracts see it: its variables, and what it does.
use Rattle.std.specs.Prelude.{ℕ, List}
use Rattle.std.specs.declared.option.Option.{Option}
use Rattle.lt_num.specs.declared.kind.Kind.{Kind}
use Rattle.lt_num.specs.declared.range.Range.{Range}
use Rattle.lt_num.specs.declared.value.Value.{Value}
use Rattle.lt_formula.specs.Expression.{Expression}
use Rattle.lt_term.specs.Process.{Process}

-- a variable: its name, the kind and the raw numbers of its values, and the value that it has before the first instant, if any
pub record Variable : Type 0 where
  pub name : List ℕ
  pub kind : Kind
  pub range : Range
  pub first : Option Value

-- a scenario
pub record Scene : Type 0 where
  pub name : List ℕ
  -- the decimals of a real number
  pub decimals : ℕ
  pub inputs : List Variable
  pub outputs : List Variable
  -- each local by its number
  pub locals : List Variable
  -- the least and the greatest number of turns of each counter, by its number
  pub counters : List (ℕ × ℕ)
  -- the name of each exception, by its number
  pub exceptions : List (List ℕ)
  pub body : Process Expression

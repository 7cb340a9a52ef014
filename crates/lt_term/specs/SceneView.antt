-- The scene that a scenario of the code stands for.
use Rattle.std.specs.Prelude.{ℕ, length, map, string_bytes}
use Rattle.lt_formula.specs.View.{table_len}
use Rattle.lt_term.specs.Scene.{Variable, Scene}
use Rattle.lt_term.specs.View.{process_over}
use Rattle.lt_term.specs.Within.{Tests, below}
use Rattle.lt_term.specs.declared.counter.Counter.{Counter}
use Rattle.lt_term.specs.declared.variable.Var.{Var}
use Rattle.lt_term.specs.declared.scenario.Scenario.{Scenario}

-- a variable
abbrev pub variable : Var → Variable
variable v = record { name = string_bytes v.name; kind = v.kind; range = v.range; first = v.first }

-- the least and the greatest number of turns of a counter
abbrev pub turns : Counter → ℕ × ℕ
turns c = (c.least, c.most)

-- a scenario, with expressions in place of numbers
abbrev pub scene : Scenario → Scene
scene s = record {
  name = string_bytes s.name;
  decimals = s.decimals;
  inputs = map variable s.inputs.items;
  outputs = map variable s.outputs.items;
  locals = map variable s.locals.items;
  counters = map turns s.counters.items;
  exceptions = map string_bytes s.exceptions.items;
  body = process_over s.table s.body;
}

-- tests whether numbers are those of a scenario
abbrev pub numbers_of : Scenario → Tests ℕ
numbers_of s = below (table_len s.table) (length s.exceptions.items) (length s.locals.items) (length s.counters.items)

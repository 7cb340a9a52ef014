-- The scenario of a node.
use Rattle.std.specs.Prelude.{ℕ, suc, List, [], ◌∷◌, ◌++◌, map, decimal, option_and_then, option_map}
use Rattle.std.specs.declared.option.Option.{Option}
use Rattle.lt_num.specs.Value.{value_of}
use Rattle.lt_num.specs.declared.value.Value.{Value}
use Rattle.lt_formula.specs.Expression.{Expression}
use Rattle.lt_macros.specs.Placed.{bare}
use Rattle.lt_macros.specs.Expanded as x
use Rattle.lt_macros.specs.Expanded.{Declared, Exception, Expanded, Parts, no_part, part, Node, all_inputs}
use Rattle.lt_macros.specs.Preorder.{locals_in, counters_in}
use Rattle.lt_expand.specs.Exceptions.{numbered, number_in, exception_names}
use Rattle.lt_term.specs.Process.{Process, eps, dead, con, raise, seq, loop, count, any, pri, par, assert, exist, catch, try, Choices, no_choice, choice}
use Rattle.lt_term.specs.Scene.{Variable, Scene}
use Rattle.lt_expand.specs.Static.{static_raw, least_and_most}
use Rattle.lt_term.specs.declared.last.Last.TheVariants.{First}

abbrev mutual
  -- a trace as a term, where exceptions have this order
  pub process_of : List Exception → Expanded → Process Expression
  process_of zs x.eps = eps
  process_of zs x.dead = dead
  process_of zs (x.con e) = con (bare e)
  process_of zs (x.raise z) = raise (number_in zs z)
  process_of zs (x.seq a b) = seq (process_of zs a) (process_of zs b)
  process_of zs (x.loop a) = loop (process_of zs a)
  process_of zs (x.count i b a) = count i 0 (process_of zs a)
  process_of zs (x.any ps) = any (choices_of zs ps)
  process_of zs (x.pri a b) = pri (process_of zs a) (process_of zs b)
  process_of zs (x.par a b) = par (process_of zs a) (process_of zs b)
  process_of zs (x.assert e a) = assert (bare e) (process_of zs a)
  process_of zs (x.exist i d a) = exist i First (process_of zs a)
  process_of zs (x.catch z a h) = catch (number_in zs z) (process_of zs a) (process_of zs h)
  process_of zs (x.try a h) = try (process_of zs a) (process_of zs h)

  -- alternatives
  pub choices_of : List Exception → Parts → Choices Expression
  choices_of zs no_part = no_choice
  choices_of zs (part w a ps) = choice (bare w) (process_of zs a) (choices_of zs ps)

-- the first value of a variable: the one of its kind that has the raw number of what is written
abbrev pub first_of : ℕ → Declared → Option Value
first_of decimals d = option_map (value_of d.kind) (option_and_then (static_raw decimals) d.first)

-- a variable, where reals have so many decimals
abbrev pub variable_of : ℕ → Declared → Variable
variable_of decimals d = record { name = d.name; kind = d.kind; range = d.range; first = first_of decimals d }

-- a local's name: the one in the text, a point, and its number from 1; the byte 46 is the point
abbrev pub local_name : List ℕ → ℕ → List ℕ
local_name name number = name ++ 46 ∷ decimal (suc number)

-- locals, the first of which has this number
abbrev pub locals_of : ℕ → ℕ → List Declared → List Variable
locals_of decimals number [] = []
locals_of decimals number (d ∷ ds) = (record (variable_of decimals d) { name = local_name d.name number }) ∷ locals_of decimals (suc number) ds

-- the scenario of a node, where reals have so many decimals; its inputs are the node's own, and then those that runs give
abbrev pub scene_of : ℕ → Node → Scene
scene_of decimals node = record {
  name = node.name;
  decimals = decimals;
  inputs = map (variable_of decimals) (all_inputs node);
  outputs = map (variable_of decimals) node.outputs;
  locals = locals_of decimals 0 (locals_in node);
  counters = map (least_and_most decimals) (counters_in node);
  exceptions = exception_names (numbered node.body);
  body = process_of (numbered node.body) node.body;
}

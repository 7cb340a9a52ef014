-- Where a run stands between two instants, and what is known when the next one begins.
use Rattle.std.specs.Prelude.{ℕ, suc, ◌-◌, nat_eq, nat_le, int_lt, pos, unsigned_abs, List, [], ◌∷◌, map, if◌then◌else◌, slice_index_or, None, Some, Ok, Err}
use Rattle.std.specs.declared.option.Option.{Option}
use Rattle.std.specs.declared.result.Result.{Result}
use Rattle.lt_num.specs.Value.{raw_of}
use Rattle.lt_num.specs.declared.fault.Arith.{Arith}
use Rattle.lt_num.specs.declared.fault.Arith.TheVariants.{NegativeWeight}
use Rattle.lt_num.specs.declared.kind.Kind.{Kind}
use Rattle.lt_num.specs.declared.value.Value.{Value}
use Rattle.lt_formula.specs.Expression.{Expression}
use Rattle.lt_formula.specs.Kinds.{Kinds}
use Rattle.lt_formula.specs.Operators.{Answer}
use Rattle.lt_formula.specs.Valuation.{Valuation, value_under}
use Rattle.lt_term.specs.declared.last.Last.{Last}
use Rattle.lt_term.specs.declared.last.Last.TheVariants as last
use Rattle.lt_term.specs.Process.{Process}
use Rattle.lt_term.specs.Scene.{Variable, Scene}
use Rattle.lt_term.specs.Tree.{Lasts, Weight, expression, more, stop}

-- the values of an instant
pub record Reaction : Type 0 where
  pub inputs : List Value
  pub outputs : List Value

-- where a run stands between two instants
pub record Configuration : Type 0 where
  -- what is still to be done
  pub process : Process Expression
  -- the number of the next instant, from 1
  pub step : ℕ
  -- the instant before, if there was one
  pub previous : Option Reaction

-- where a run begins
abbrev pub first_configuration : Scene → Configuration
first_configuration s = record { process = s.body; step = 1; previous = None }

-- the kinds of a scenario's variables
abbrev pub kinds_of_all : List Variable → List Kind
kinds_of_all vs = map (λ v. v.kind) vs

abbrev pub scene_kinds : Scene → Kinds
scene_kinds s = record { inputs = kinds_of_all s.inputs; outputs = kinds_of_all s.outputs; locals = kinds_of_all s.locals }

-- what inputs and outputs were in the instant before; before the first instant their first values stand for that
abbrev pub earlier_inputs : Scene → Option Reaction → List (Option Value)
earlier_inputs s None = map (λ v. v.first) s.inputs
earlier_inputs s (Some reaction) = map Some reaction.inputs

abbrev pub earlier_outputs : Scene → Option Reaction → List (Option Value)
earlier_outputs s None = map (λ v. v.first) s.outputs
earlier_outputs s (Some reaction) = map Some reaction.outputs

-- the value that a local had, or else its first value, if it has one
abbrev pub last_or_first : Last → Option Value → Option Value
last_or_first last.First first = first
last_or_first (last.Kept v) first = Some v

-- what a local was in the instant before, where these are in scope
abbrev pub earlier_local : Lasts → Option Value → ℕ → Option Value
earlier_local [] first x = first
earlier_local (l ∷ ls) first x = if nat_eq l.0 x then last_or_first l.1 first else earlier_local ls first x

-- what the locals were, the first of which has this number
abbrev pub earlier_locals_from : Lasts → ℕ → List Variable → List (Option Value)
earlier_locals_from ls x [] = []
earlier_locals_from ls x (v ∷ vs) = earlier_local ls v.first x ∷ earlier_locals_from ls (suc x) vs

-- what is known when an instant with these inputs begins, where these locals are in scope
abbrev pub known_in : Scene → Configuration → List Value → Lasts → Valuation
known_in s c inputs ls = record {
  inputs = inputs;
  outputs = [];
  locals = [];
  pre_inputs = earlier_inputs s c.previous;
  pre_outputs = earlier_outputs s c.previous;
  pre_locals = earlier_locals_from ls 0 s.locals;
  decimals = s.decimals;
}

-- a weight by what its expression is worth
abbrev pub weight_of_answer : Answer → Result ℕ Arith
weight_of_answer (Ok value) = if int_lt (raw_of value) (pos 0) then Err NegativeWeight else Ok (unsigned_abs (raw_of value))
weight_of_answer (Err fault) = Err fault

-- the least and the greatest number of turns of a counter
abbrev pub turns_of : Scene → ℕ → ℕ × ℕ
turns_of s i = slice_index_or s.counters i (0, 0)

-- what a weight is worth: an expression by its value, and a counted loop by the turns that are left or are enough
abbrev pub weight_in : Scene → Configuration → List Value → Lasts → Weight Expression → Result ℕ Arith
weight_in s c inputs ls (expression e) = weight_of_answer (value_under (known_in s c inputs ls) (scene_kinds s) e)
weight_in s c inputs ls (more i done) = Ok ((turns_of s i).1 - done)
weight_in s c inputs ls (stop i done) = Ok (if nat_le (turns_of s i).0 done then 1 else 0)

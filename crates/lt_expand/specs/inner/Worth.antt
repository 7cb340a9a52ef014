-- What an expression is worth that names no variable.
use Rattle.std.specs.Prelude.{ℕ, if◌then◌else◌}
use Rattle.lt_num.specs.Value.{is_true}
use Rattle.lt_num.specs.declared.kind.Kind.{Kind}
use Rattle.lt_formula.specs.Facts.{facts_of}
use Rattle.lt_formula.specs.Operators.{Answer, and_then, settled, binary_value}
use Rattle.lt_formula.specs.Valuation.{settled_or, value_under}
use Rattle.lt_formula.specs.declared.operator.BinaryOperator.{BinaryOperator}
use Rattle.lt_macros.specs.Placed.{Placed, bare}
use Rattle.lt_expand.specs.Static.{Turns, no_kinds, no_values}
use Rattle.lt_expand.specs.declared.statics.Worth.{Worth}
use Rattle.lt_expand.specs.declared.turns.Turns as code

-- the facts of an expression and its value, where no variable is there and reals have so many decimals
unfoldable pub worth : ℕ → Placed → Worth
worth decimals e = record { facts = facts_of no_kinds (bare e); value = value_under (no_values decimals) no_kinds (bare e) }

-- what an operator gives on two answers, of which the left one has this kind
abbrev pub binary_answer : BinaryOperator → Kind → ℕ → Answer → Answer → Answer
binary_answer op k decimals left right = and_then left (λ a. settled_or (settled op a) (and_then right (binary_value op k decimals a)))

-- what a choice gives, of which the condition has the first answer
abbrev pub chosen_answer : Answer → Answer → Answer → Answer
chosen_answer condition first second = and_then condition (λ a. if is_true a then first else second)

-- how often a counted loop turns
abbrev pub turns : code.Turns → Turns
turns t = record { least = t.least; most = t.most }

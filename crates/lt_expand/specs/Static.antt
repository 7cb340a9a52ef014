-- Bounds and first values: what they are worth, and which of them may not stand where they do.
use Rattle.std.specs.Prelude.{ℕ, Bool, true, false, ◌&&◌, List, [], ◌++◌, if◌then◌else◌, ℤ, pos, ◌+ℤ◌, ◌-ℤ◌, ◌*ℤ◌, int_le, unsigned_abs, Ok, Err, option_map}
use Rattle.std.specs.List.{flat_map}
use Rattle.std.specs.Int.{int_max}
use Rattle.std.specs.declared.option.Option.{Option}
use Rattle.std.specs.declared.option.Option.TheVariants.{None, Some}
use Rattle.lt_ast.specs.declared.span.Span.{Span}
use Rattle.lt_num.specs.Value.{raw_of}
use Rattle.lt_num.specs.Range.{is_point}
use Rattle.lt_num.specs.declared.value.Value.{Value}
use Rattle.lt_formula.specs.Facts.{facts_of}
use Rattle.lt_formula.specs.Kinds.{Kinds}
use Rattle.lt_formula.specs.Operators.{Answer}
use Rattle.lt_formula.specs.Valuation.{Valuation, value_under}
use Rattle.lt_macros.specs.Placed.{Placed, bare, place_of}
use Rattle.lt_macros.specs.Expanded.{Declared, Bounds, between, around, count, exist, Node, given_inputs}
use Rattle.lt_macros.specs.Failing.{unless}
use Rattle.lt_macros.specs.Preorder.{Item, term, items, in_first}
use Rattle.lt_formula.specs.Limits.{most_turns}

-- the kinds of no variables
abbrev pub no_kinds : Kinds
no_kinds = record { inputs = []; outputs = []; locals = [] }

-- the values of no variables, where reals have so many decimals
abbrev pub no_values : ℕ → Valuation
no_values decimals = record { inputs = []; outputs = []; locals = []; pre_inputs = []; pre_outputs = []; pre_locals = []; decimals = decimals }

-- a value, where there is no fault
abbrev pub unless_fault : Answer → Option Value
unless_fault (Ok value) = Some value
unless_fault (Err fault) = None

-- the value of an expression that names no variable and has no fault
abbrev pub static_value : ℕ → Placed → Option Value
static_value decimals e = if (facts_of no_kinds (bare e)).is_static then unless_fault (value_under (no_values decimals) no_kinds (bare e)) else None

-- its raw number
abbrev pub static_raw : ℕ → Placed → Option ℤ
static_raw decimals e = option_map raw_of (static_value decimals e)

-- how often a counted loop turns
pub record Turns : Type 0 where
  pub least : ℤ
  pub most : ℤ

-- between two numbers
abbrev pub turns_between : ℤ → ℤ → Turns
turns_between low high = record { least = low; most = high }

-- around an average: up to twice the deviation less or more, but not less than 0
abbrev pub turns_around : ℤ → ℤ → Turns
turns_around average deviation = record { least = int_max (pos 0) (average -ℤ pos 2 *ℤ deviation); most = average +ℤ pos 2 *ℤ deviation }

-- the turns that two numbers give, where both are there
abbrev pub turns_by : (ℤ → ℤ → Turns) → Option ℤ → Option ℤ → Option Turns
turns_by f None other = None
turns_by f (Some a) None = None
turns_by f (Some a) (Some b) = Some (f a b)

-- the turns of a counted loop, where its numbers are there
abbrev pub turns_of : ℕ → Bounds → Option Turns
turns_of decimals (between low high) = turns_by turns_between (static_raw decimals low) (static_raw decimals high)
turns_of decimals (around average deviation) = turns_by turns_around (static_raw decimals average) (static_raw decimals deviation)

-- turns, where there are any, are no more than may be, and the least number of them isn't over the greatest
abbrev pub fit_together : Option Turns → Bool
fit_together None = true
fit_together (Some turns) = int_le turns.least turns.most && int_le turns.most (pos most_turns)

-- there is a number, and it passes this test
abbrev pub passes : (ℤ → Bool) → Option ℤ → Bool
passes test None = false
passes test (Some raw) = test raw

-- The places of bounds that may not stand there: each number by itself, and then, at the place of the first, both together.
abbrev pub bad_bounds : ℕ → Bounds → List Span
bad_bounds decimals (between low high) =
    unless (passes (λ raw. int_le (pos 0) raw) (static_raw decimals low)) (place_of low)
    ++ (unless (passes (λ raw. int_le raw (pos most_turns)) (static_raw decimals high)) (place_of high)
    ++ unless (fit_together (turns_of decimals (between low high))) (place_of low))
bad_bounds decimals (around average deviation) =
    unless (passes (λ raw. true) (static_raw decimals average)) (place_of average)
    ++ (unless (passes (λ raw. int_le (pos 0) raw) (static_raw decimals deviation)) (place_of deviation)
    ++ unless (fit_together (turns_of decimals (around average deviation))) (place_of average))

-- the place of a variable's first value, where it isn't a point of its range
abbrev pub bad_first : ℕ → Declared → List Span
bad_first decimals d = flat_map (λ e. unless (passes (is_point d.range) (static_raw decimals e)) (place_of e)) (in_first d)

-- the places of a part's bounds or first value that may not stand there
abbrev pub bad_at : ℕ → Item → List Span
bad_at decimals (term (count i b x)) = bad_bounds decimals b
bad_at decimals (term (exist i d x)) = bad_first decimals d
bad_at decimals other = []

-- those of a node, in preorder: its inputs and outputs first, and then the inputs that its runs give
abbrev pub bad_statics : ℕ → Node → List Span
bad_statics decimals node =
    flat_map (bad_first decimals) node.inputs
    ++ (flat_map (bad_first decimals) node.outputs
    ++ (flat_map (bad_first decimals) (given_inputs node)
    ++ flat_map (bad_at decimals) (items node.body)))

-- the least and the greatest number of turns; 0 where there are none
abbrev pub numbers_of : Option Turns → ℕ × ℕ
numbers_of None = (0, 0)
numbers_of (Some turns) = (unsigned_abs turns.least, unsigned_abs turns.most)

-- the bounds of a counter as numbers
abbrev pub least_and_most : ℕ → Bounds → ℕ × ℕ
least_and_most decimals b = numbers_of (turns_of decimals b)

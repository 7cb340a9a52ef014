-- The figures of a node that limits are set for, by recursion on its tree. The node's own terms are 1 deep, and so is each
-- expression where it stands.
use Rattle.std.specs.Prelude.{ℕ, ◌+◌, Bool, true, false, ◌&&◌, nat_le, nat_lt, nat_eq, List, [], ◌∷◌, if◌then◌else◌}
use Rattle.std.specs.declared.option.Option.{Option}
use Rattle.std.specs.declared.option.Option.TheVariants.{None, Some}
use Rattle.lt_macros.specs.Placed.{Placed, constant, variable, previous, unary, binary, choice}
use Rattle.lt_macros.specs.Expanded.{Declared, Call, Bounds, between, around, Expanded, eps, dead, con, raise, seq, loop, count, any, pri, par, assert, exist, catch, try, Parts, no_part, part, Node}
use Rattle.lt_macros.specs.Nodes.{parts_count}
use Rattle.lt_formula.specs.Limits.{most_alternatives, most_variables}
use Rattle.lt_macros.specs.Limits.{most_nodes, most_term_depth, most_expression_depth}
use Rattle.lt_macros.specs.declared.limit.Limit.{Limit}
use Rattle.lt_macros.specs.declared.limit.Limit.TheVariants.{Nodes, Depth, Children, Variables}

-- what is counted
pub data Figure : Type 0 where
  -- terms and nodes of expressions
  nodes : Figure
  -- terms that stand deeper than they may
  deep_terms : Figure
  -- nodes of expressions that do
  deep_expressions : Figure
  -- choices that have more alternatives than they may
  wide_choices : Figure
  -- locals
  locals : Figure

-- 1 where it is so
abbrev pub one_if : Bool → ℕ
one_if true = 1
one_if false = 0

-- what a term adds that stands so deep
abbrev pub term_weight : Figure → ℕ → ℕ
term_weight nodes depth = 1
term_weight deep_terms depth = one_if (nat_lt most_term_depth depth)
term_weight deep_expressions depth = 0
term_weight wide_choices depth = 0
term_weight locals depth = 0

-- what a node of an expression adds that stands so deep
abbrev pub expression_weight : Figure → ℕ → ℕ
expression_weight nodes depth = 1
expression_weight deep_terms depth = 0
expression_weight deep_expressions depth = one_if (nat_lt most_expression_depth depth)
expression_weight wide_choices depth = 0
expression_weight locals depth = 0

-- what a choice adds to what its term does, where it has so many alternatives
abbrev pub choice_weight : Figure → ℕ → ℕ
choice_weight nodes alternatives = 0
choice_weight deep_terms alternatives = 0
choice_weight deep_expressions alternatives = 0
choice_weight wide_choices alternatives = one_if (nat_lt most_alternatives alternatives)
choice_weight locals alternatives = 0

-- what a local adds to what its term does
abbrev pub local_weight : Figure → ℕ
local_weight nodes = 0
local_weight deep_terms = 0
local_weight deep_expressions = 0
local_weight wide_choices = 0
local_weight locals = 1

-- the figure of an expression that stands so deep
abbrev pub expression_figure : Figure → ℕ → Placed → ℕ
expression_figure f depth (constant k v at) = expression_weight f depth
expression_figure f depth (variable r i at) = expression_weight f depth
expression_figure f depth (previous r i at) = expression_weight f depth
expression_figure f depth (unary op e at) = expression_weight f depth + expression_figure f (depth + 1) e
expression_figure f depth (binary op d e at) = expression_weight f depth + (expression_figure f (depth + 1) d + expression_figure f (depth + 1) e)
expression_figure f depth (choice c d e at) = expression_weight f depth + (expression_figure f (depth + 1) c + (expression_figure f (depth + 1) d + expression_figure f (depth + 1) e))

-- of the bounds of a loop
abbrev pub bounds_figure : Figure → Bounds → ℕ
bounds_figure f (between d e) = expression_figure f 1 d + expression_figure f 1 e
bounds_figure f (around d e) = expression_figure f 1 d + expression_figure f 1 e

-- of a first value, where there is one
abbrev pub first_figure : Figure → Option Placed → ℕ
first_figure f None = 0
first_figure f (Some e) = expression_figure f 1 e

abbrev mutual
  -- of a trace that stands so deep
  pub expanded_figure : Figure → ℕ → Expanded → ℕ
  expanded_figure f depth eps = term_weight f depth
  expanded_figure f depth dead = term_weight f depth
  expanded_figure f depth (con e) = term_weight f depth + expression_figure f 1 e
  expanded_figure f depth (raise z) = term_weight f depth
  expanded_figure f depth (seq x y) = term_weight f depth + (expanded_figure f (depth + 1) x + expanded_figure f (depth + 1) y)
  expanded_figure f depth (loop x) = term_weight f depth + expanded_figure f (depth + 1) x
  expanded_figure f depth (count i b x) = term_weight f depth + (bounds_figure f b + expanded_figure f (depth + 1) x)
  expanded_figure f depth (any ps) = term_weight f depth + (choice_weight f (parts_count ps) + parts_figure f (depth + 1) ps)
  expanded_figure f depth (pri x y) = term_weight f depth + (expanded_figure f (depth + 1) x + expanded_figure f (depth + 1) y)
  expanded_figure f depth (par x y) = term_weight f depth + (expanded_figure f (depth + 1) x + expanded_figure f (depth + 1) y)
  expanded_figure f depth (assert e x) = term_weight f depth + (expression_figure f 1 e + expanded_figure f (depth + 1) x)
  expanded_figure f depth (exist i d x) = term_weight f depth + (local_weight f + (first_figure f d.first + expanded_figure f (depth + 1) x))
  expanded_figure f depth (catch z x h) = term_weight f depth + (expanded_figure f (depth + 1) x + expanded_figure f (depth + 1) h)
  expanded_figure f depth (try x h) = term_weight f depth + (expanded_figure f (depth + 1) x + expanded_figure f (depth + 1) h)

  -- of alternatives that stand so deep
  pub parts_figure : Figure → ℕ → Parts → ℕ
  parts_figure f depth no_part = 0
  parts_figure f depth (part w x ps) = expression_figure f 1 w + (expanded_figure f depth x + parts_figure f depth ps)

-- of the first values of variables
abbrev pub variables_figure : Figure → List Declared → ℕ
variables_figure f [] = 0
variables_figure f (d ∷ ds) = first_figure f d.first + variables_figure f ds

-- of arguments
abbrev pub arguments_figure : Figure → List Placed → ℕ
arguments_figure f [] = 0
arguments_figure f (e ∷ es) = expression_figure f 1 e + arguments_figure f es

-- of runs
abbrev pub calls_figure : Figure → List Call → ℕ
calls_figure f [] = 0
calls_figure f (c ∷ cs) = arguments_figure f c.arguments + calls_figure f cs

-- of a node
abbrev pub node_figure : Node → Figure → ℕ
node_figure node f =
    variables_figure f node.inputs
    + (variables_figure f node.outputs
    + (calls_figure f node.calls + expanded_figure f 1 node.body))

-- the first limit that these figures are past, where there are so many inputs and outputs
abbrev pub limit_by : (Figure → ℕ) → ℕ → ℕ → Option Limit
limit_by figure inputs outputs =
    if nat_le (figure nodes) most_nodes
    then (if nat_eq (figure deep_terms) 0 && nat_eq (figure deep_expressions) 0
    then (if nat_eq (figure wide_choices) 0
    then (if nat_le inputs most_variables && nat_le (outputs + figure locals) most_variables then None else Some Variables)
    else Some Children)
    else Some Depth)
    else Some Nodes

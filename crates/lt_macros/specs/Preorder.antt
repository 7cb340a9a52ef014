-- The parts of a trace in preorder: each before the parts in it, and these from left to right.
use Rattle.std.specs.Prelude.{List, [], ◌∷◌, ◌++◌, option_to_list}
use Rattle.std.specs.List.{flat_map}
use Rattle.lt_macros.specs.Placed.{Placed, constant, variable, previous, unary, binary, choice}
use Rattle.lt_macros.specs.Expanded.{Declared, Exception, Bounds, between, around, Expanded, eps, dead, con, raise, seq, loop, count, any, pri, par, assert, exist, catch, try, Parts, no_part, part, Node}

-- a part of a trace
pub data Item : Type 0 where
  -- a trace
  term : Expanded → Item
  -- the weight of an alternative, which stands before it
  weight : Placed → Item

abbrev mutual
  -- a trace and all parts of it
  pub items : Expanded → List Item
  items eps = term eps ∷ []
  items dead = term dead ∷ []
  items (con e) = term (con e) ∷ []
  items (raise z) = term (raise z) ∷ []
  items (seq x y) = term (seq x y) ∷ (items x ++ items y)
  items (loop x) = term (loop x) ∷ items x
  items (count i b x) = term (count i b x) ∷ items x
  items (any ps) = term (any ps) ∷ items_in ps
  items (pri x y) = term (pri x y) ∷ (items x ++ items y)
  items (par x y) = term (par x y) ∷ (items x ++ items y)
  items (assert e x) = term (assert e x) ∷ items x
  items (exist i d x) = term (exist i d x) ∷ items x
  items (catch z x h) = term (catch z x h) ∷ (items x ++ items h)
  items (try x h) = term (try x h) ∷ (items x ++ items h)

  -- alternatives, each behind its weight
  pub items_in : Parts → List Item
  items_in no_part = []
  items_in (part w x ps) = weight w ∷ (items x ++ items_in ps)

-- the local that a part declares, if it does
abbrev pub local_at : Item → List Declared
local_at (term (exist i d x)) = d ∷ []
local_at other = []

-- the bounds of the counter that it has
abbrev pub counter_at : Item → List Bounds
counter_at (term (count i b x)) = b ∷ []
counter_at other = []

-- the exception that it raises
abbrev pub raised_at : Item → List Exception
raised_at (term (raise z)) = z ∷ []
raised_at other = []

-- the exception that it catches
abbrev pub caught_at : Item → List Exception
caught_at (term (catch z x h)) = z ∷ []
caught_at other = []

-- the weight that it is
abbrev pub weight_at : Item → List Placed
weight_at (weight w) = w ∷ []
weight_at other = []

-- the two numbers of a counted loop
abbrev pub in_bounds : Bounds → List Placed
in_bounds (between d e) = d ∷ e ∷ []
in_bounds (around d e) = d ∷ e ∷ []

-- the first value of a variable, where it has one
abbrev pub in_first : Declared → List Placed
in_first d = option_to_list d.first

-- the expressions that stand in a part itself
abbrev pub expressions_at : Item → List Placed
expressions_at (weight w) = w ∷ []
expressions_at (term (con e)) = e ∷ []
expressions_at (term (count i b x)) = in_bounds b
expressions_at (term (assert e x)) = e ∷ []
expressions_at (term (exist i d x)) = in_first d
expressions_at other = []

-- the locals of a node, in the order of their numbers
abbrev pub locals_in : Node → List Declared
locals_in node = flat_map local_at (items node.body)

-- the bounds of its counters, in the order of their numbers
abbrev pub counters_in : Node → List Bounds
counters_in node = flat_map counter_at (items node.body)

-- its weights
abbrev pub weights_in : Node → List Placed
weights_in node = flat_map weight_at (items node.body)

-- the arguments of its runs
abbrev pub arguments_in : Node → List Placed
arguments_in node = flat_map (λ c. c.arguments) node.calls

-- its expressions: first values of inputs and outputs, arguments of runs, and then those of what it does
abbrev pub expressions_in : Node → List Placed
expressions_in node =
    flat_map in_first node.inputs
    ++ (flat_map in_first node.outputs
    ++ (arguments_in node ++ flat_map expressions_at (items node.body)))

-- an expression and all parts of it, in preorder
abbrev pub with_parts : Placed → List Placed
with_parts (constant k v at) = constant k v at ∷ []
with_parts (variable r i at) = variable r i at ∷ []
with_parts (previous r i at) = previous r i at ∷ []
with_parts (unary op e at) = unary op e at ∷ with_parts e
with_parts (binary op d e at) = binary op d e at ∷ (with_parts d ++ with_parts e)
with_parts (choice c d e at) = choice c d e at ∷ (with_parts c ++ (with_parts d ++ with_parts e))

-- How large an expansion is. Terms and expressions are counted each time that they stand in it.
use Rattle.std.specs.Prelude.{ℕ, suc, ◌+◌, max, length}
use Rattle.std.specs.List.{sum_by}
use Rattle.lt_macros.specs.Placed.{Placed, constant, variable, previous, unary, binary, choice}
use Rattle.lt_macros.specs.Expanded.{Expanded, eps, dead, con, raise, seq, loop, count, any, pri, par, assert, exist, catch, try, Parts, no_part, part, Node}
use Rattle.lt_macros.specs.Preorder.{Item, term, weight, items, expressions_in, locals_in, with_parts}

-- how many terms a part is: 1, and 0 where it is a weight
abbrev pub term_count : Item → ℕ
term_count (term x) = 1
term_count (weight w) = 0

-- how many nodes an expression has
abbrev pub expression_nodes : Placed → ℕ
expression_nodes e = length (with_parts e)

-- how many terms a node has, and nodes of expressions
abbrev pub node_count : Node → ℕ
node_count node = sum_by term_count (items node.body) + sum_by expression_nodes (expressions_in node)

abbrev mutual
  -- how deep terms stand in one another: a single one is 1 deep
  pub term_depth : Expanded → ℕ
  term_depth eps = 1
  term_depth dead = 1
  term_depth (con e) = 1
  term_depth (raise z) = 1
  term_depth (seq x y) = suc (max (term_depth x) (term_depth y))
  term_depth (loop x) = suc (term_depth x)
  term_depth (count i b x) = suc (term_depth x)
  term_depth (any ps) = suc (parts_depth ps)
  term_depth (pri x y) = suc (max (term_depth x) (term_depth y))
  term_depth (par x y) = suc (max (term_depth x) (term_depth y))
  term_depth (assert e x) = suc (term_depth x)
  term_depth (exist i d x) = suc (term_depth x)
  term_depth (catch z x h) = suc (max (term_depth x) (term_depth h))
  term_depth (try x h) = suc (max (term_depth x) (term_depth h))

  -- how deep the deepest alternative is
  pub parts_depth : Parts → ℕ
  parts_depth no_part = 0
  parts_depth (part w x ps) = max (term_depth x) (parts_depth ps)

-- how deep the parts of an expression stand in one another: a single one is 1 deep
abbrev pub expression_depth : Placed → ℕ
expression_depth (constant k v at) = 1
expression_depth (variable r i at) = 1
expression_depth (previous r i at) = 1
expression_depth (unary op e at) = suc (expression_depth e)
expression_depth (binary op d e at) = suc (max (expression_depth d) (expression_depth e))
expression_depth (choice c d e at) = suc (max (expression_depth c) (max (expression_depth d) (expression_depth e)))

-- how many alternatives there are
abbrev pub parts_count : Parts → ℕ
parts_count no_part = 0
parts_count (part w x ps) = suc (parts_count ps)

-- how many alternatives a part has, if it is a choice
abbrev pub alternatives_at : Item → ℕ
alternatives_at (term (any ps)) = parts_count ps
alternatives_at other = 0

-- how many variables are drawn
abbrev pub drawn_count : Node → ℕ
drawn_count node = length node.outputs + length (locals_in node)

-- How large a scenario may be.
use Rattle.std.specs.Prelude.{ℕ, nat_le, ◌&&◌, List, ◌++◌, length}
use Rattle.std.specs.List.{list_all}
use Rattle.lt_formula.specs.Limits.{most_alternatives, most_variables}
use Rattle.lt_macros.specs.Expanded.{Node, all_inputs}
use Rattle.lt_macros.specs.Failing.{unless}
use Rattle.lt_macros.specs.Preorder.{items, expressions_in}
use Rattle.lt_macros.specs.Nodes.{node_count, term_depth, expression_depth, alternatives_at, drawn_count}
use Rattle.lt_macros.specs.declared.limit.Limit.{Limit}
use Rattle.lt_macros.specs.declared.limit.Limit.TheVariants.{Nodes, Depth, Children, Variables}

-- the most terms and expressions that there may be
abbrev pub most_nodes : ℕ
most_nodes = 100000

-- how deep terms may stand in one another
abbrev pub most_term_depth : ℕ
most_term_depth = 1000

-- how deep an expression may be
abbrev pub most_expression_depth : ℕ
most_expression_depth = 5000

-- the limits that a node is past, in order
abbrev pub passed_limits : Node → List Limit
passed_limits node =
    unless (nat_le (node_count node) most_nodes) Nodes
    ++ (unless (nat_le (term_depth node.body) most_term_depth && list_all (λ e. nat_le (expression_depth e) most_expression_depth) (expressions_in node)) Depth
    ++ (unless (list_all (λ x. nat_le (alternatives_at x) most_alternatives) (items node.body)) Children
    ++ unless (nat_le (length (all_inputs node)) most_variables
    && nat_le (drawn_count node) most_variables) Variables))

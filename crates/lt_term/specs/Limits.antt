-- How large a scenario may be, beyond which an expansion is refused, and the tree of an instant.
use Rattle.std.specs.Prelude.{ℕ}

-- the most terms and nodes of expressions that there may be
abbrev pub most_nodes : ℕ
most_nodes = 100_000

-- how deep terms may stand in one another
abbrev pub most_term_depth : ℕ
most_term_depth = 1_000

-- how deep an expression may be
abbrev pub most_expression_depth : ℕ
most_expression_depth = 5_000

-- the most nodes that the tree of an instant may have
abbrev pub most_tree_nodes : ℕ
most_tree_nodes = 65_536

-- What is seen of the nodes of the code's trees.
use Rattle.std.specs.Prelude.{ℕ, Bool}
use Rattle.lt_formula.specs.Expression.{Expression}
use Rattle.lt_space.specs.Formula.{Formula}
use Rattle.lt_term.specs.Evaluated.{Outlook}
use Rattle.lt_term.specs.Mapped.{node_with_constraints}
use Rattle.lt_term.specs.Process.{Process}
use Rattle.lt_term.specs.Tree as t
use Rattle.lt_legal.specs.Nodes.{Node}
use Rattle.lt_instant.specs.inner.DrawContextView.{meaning_of, worth_of}
use Rattle.lt_instant.specs.declared.draw_context.DrawContext.{DrawContext}
use Rattle.lt_check.specs.inner.Seen.{loose_node, node_seen}

-- a node, by what a test says of leaves
abbrev pub seen : DrawContext → (Outlook Formula (Process Expression) → Bool) → t.Node ℕ (Process ℕ) → Node
seen m test node = node_seen (worth_of m) test (node_with_constraints (meaning_of m.scenario.now.table) node)

-- a node where no priority is kept
abbrev pub loose_of : DrawContext → t.Node ℕ (Process ℕ) → Node
loose_of m node = loose_node (worth_of m) (node_with_constraints (meaning_of m.scenario.now.table) node)

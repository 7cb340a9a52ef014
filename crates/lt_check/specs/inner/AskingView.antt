-- What is asked of a term in an instant.
use Rattle.std.specs.Prelude.{◌≡◌, ◌<◌, ◌^◌, ℕ, Bool, IsTrue, List, Some, length, map, slice_get}
use Rattle.std.specs.List.{list_all}
use Rattle.std.specs.declared.option.Option.{Option}
use Rattle.lt_formula.specs.Expression.{Expression}
use Rattle.lt_space.specs.Formula.{Formula}
use Rattle.lt_term.specs.Evaluated.{Worth}
use Rattle.lt_term.specs.Mapped.{node_passes, node_with_constraints}
use Rattle.lt_term.specs.Offers.{TermTree}
use Rattle.lt_term.specs.SceneView.{numbers_of}
use Rattle.lt_term.specs.Tree.{flattened}
use Rattle.lt_term.specs.TreeView.{tree_node}
use Rattle.lt_term.specs.declared.term.Term.{Term}
use Rattle.lt_term.specs.declared.tree.TreeNode.{TreeNode}
use Rattle.lt_legal.specs.Asked.{IsHaltOf}
use Rattle.lt_legal.specs.declared.halt.Halt.{Halt}
use Rattle.lt_instant.specs.Instant.{Leaf}
use Rattle.lt_instant.specs.declared.draw_context.DrawContext.{DrawContext}
use Rattle.lt_instant.specs.inner.DrawContextView.{meaning_of, scene_of, worth_of}
use Rattle.lt_check.specs.declared.asking.Asking.{Asking}
use Rattle.lt_check.specs.inner.Finding.{ExpressionNode, NodeMayGiveUp, TreeMayGiveUp, is_node_alive, told_by}
use Rattle.lt_check.specs.inner.Offered.{offered_by}
use Rattle.lt_check.specs.inner.Searches.{is_alive}

-- These are the nodes of what a term offers, and their numbers are the scenario's.
pub record AreNodesOf (m : DrawContext) (term : Term) (nodes : List TreeNode) : Type 0 where
  pub passes : IsTrue (list_all (node_passes (numbers_of m.scenario.now)) (map tree_node nodes))
  pub offers :
      map (node_with_constraints (meaning_of m.scenario.now.table)) (map tree_node nodes) ≡
      flattened (offered_by m.scenario.now term)
  pub few : length nodes < 2 ^ 32

-- whether a leaf that passes a test can be reached in the tree of a number
abbrev pub is_told_of : DrawContext → Term → (Leaf → Bool) → ℕ → Bool
is_told_of m term test number = told_by (worth_of m) test (offered_by m.scenario.now term) number

-- a search in the tree of a number may be given up with this need
abbrev pub MayGiveUpOf : DrawContext → Term → ℕ → ℕ → Type 0
MayGiveUpOf m term number need =
    TreeMayGiveUp (scene_of m) (worth_of m) m.budget (offered_by m.scenario.now term) number need

-- the same of what is asked of
abbrev pub IsAsking : Asking → Type 0
IsAsking a = AreNodesOf a.context.now a.term.now a.tree.now.nodes.items

abbrev pub asked_worth : Asking → Worth Expression Formula
asked_worth a = worth_of a.context.now

abbrev pub asked_tree : Asking → TermTree Expression
asked_tree a = offered_by a.context.now.scenario.now a.term.now

abbrev pub is_told : Asking → (Leaf → Bool) → ℕ → Bool
is_told a test number = is_told_of a.context.now a.term.now test number

abbrev pub is_tree_alive : Asking → ℕ → Bool
is_tree_alive a number = is_told a (is_alive (scene_of a.context.now)) number

abbrev pub MayGiveUp : Asking → ℕ → ℕ → Type 0
MayGiveUp a number need = MayGiveUpOf a.context.now a.term.now number need

-- whether an instant is live, by its number
abbrev pub is_leaf_alive : Asking → ℕ → Bool
is_leaf_alive a number =
    is_node_alive (scene_of a.context.now) (asked_worth a)
    (slice_get (flattened (asked_tree a)) number)

-- a node of the code, with expressions in place of numbers
abbrev pub node_of : DrawContext → TreeNode → Option ExpressionNode
node_of m node = Some (node_with_constraints (meaning_of m.scenario.now.table) (tree_node node))

-- what halts a question of an instant
abbrev pub IsLeafHalt : Asking → ℕ → Halt → Type 0
IsLeafHalt a number halt =
    IsHaltOf (λ need. NodeMayGiveUp (scene_of a.context.now) (asked_worth a) a.context.now.budget
    (slice_get (flattened (asked_tree a)) number) need) halt

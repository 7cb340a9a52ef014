-- What is found in a tree, by what constraints and weights are worth.
use Rattle.std.specs.Prelude.{◌≡◌, ◌<◌, ℕ, Bool, false, List, Contains, map, Some, slice_get, Ok}
use Rattle.std.specs.declared.option.Option.{Option}
use Rattle.lt_formula.specs.Expression.{Expression}
use Rattle.lt_space.specs.Formula.{Formula}
use Rattle.lt_term.specs.Evaluated.{Worth, outlook}
use Rattle.lt_term.specs.Offers.{TermTree}
use Rattle.lt_term.specs.Process.{Process}
use Rattle.lt_term.specs.Scene.{Scene}
use Rattle.lt_term.specs.Tree.{Node, flattened, go, leaf_node}
use Rattle.lt_legal.specs.Asked.{IsHaltAt}
use Rattle.lt_legal.specs.Back.{back}
use Rattle.lt_legal.specs.Nodes as l
use Rattle.lt_legal.specs.Nodes.{found_at, run}
use Rattle.lt_legal.specs.declared.halt.Halt.{Halt}
use Rattle.lt_instant.specs.Instant.{Leaf}
use Rattle.lt_instant.specs.Solved.{need_of}
use Rattle.lt_check.specs.inner.Searches.{is_alive}
use Rattle.lt_check.specs.inner.Seen.{node_seen}
use Rattle.lt_check.specs.inner.Shaped.{shape_loose, shape_seen, tree_from}
use Rattle.lt_check.specs.inner.Wanted.{Wanted, for_free, is_wanted}

abbrev pub ExpressionNode : Type 0
ExpressionNode = Node Expression (Process Expression)

-- the nodes, by a test of leaves
abbrev pub nodes_by : Worth Expression Formula → (Leaf → Bool) → TermTree Expression → List l.Node
nodes_by worth test t = map (node_seen worth test) (flattened t)

-- whether a leaf that passes a test can be reached in the tree of a number
abbrev pub told_by : Worth Expression Formula → (Leaf → Bool) → TermTree Expression → ℕ → Bool
told_by worth test t number = (found_at (run (nodes_by worth test t)) number).has

-- the numbers of the leaves that may be taken and are wanted, the last ones first
abbrev pub found_in : Scene → Worth Expression Formula → Wanted → TermTree Expression → List ℕ
found_in s worth w t = back (told_by worth (is_alive s) t) 0 (shape_seen worth (is_wanted w) t)

-- the numbers of all instants that can be reached in the tree of a number
abbrev pub instants_in : Worth Expression Formula → TermTree Expression → ℕ → List ℕ
instants_in worth t number = back (λ k. false) number (shape_loose worth (tree_from t number))

-- whether a node is an instant that is live
abbrev pub is_node_alive : Scene → Worth Expression Formula → Option ExpressionNode → Bool
is_node_alive s worth (Some (leaf_node (go cs ls n))) = is_alive s (outlook worth (go cs ls n))
is_node_alive s worth other = false

-- the search of an instant may be given up with this need
abbrev pub NodeMayGiveUp : Scene → Worth Expression Formula → ℕ → Option ExpressionNode → ℕ → Type 0
NodeMayGiveUp s worth budget (Some (leaf_node (go cs ls n))) need =
    (f : Formula) × (worth.formula ls cs ≡ Ok f) × (budget < need) × (need_of s ls f ≡ need)
NodeMayGiveUp s worth budget other need = ⊥

-- a search in the tree of a number may be given up with this need: no leaf there is live for free
abbrev pub TreeMayGiveUp : Scene → Worth Expression Formula → ℕ → TermTree Expression → ℕ → ℕ → Type 0
TreeMayGiveUp s worth budget t number need =
    (told_by worth (is_wanted for_free) t number ≡ false) ×
    ((k : ℕ) × Contains (instants_in worth t number) k × NodeMayGiveUp s worth budget (slice_get (flattened t) k) need)

-- what halts a look for leaves
abbrev pub IsHaltIn : Scene → Worth Expression Formula → ℕ → TermTree Expression → Wanted → Halt → Type 0
IsHaltIn s worth budget t w halt = IsHaltAt (TreeMayGiveUp s worth budget t) 0 (shape_seen worth (is_wanted w) t) halt

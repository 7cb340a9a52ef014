-- What a look sees of the nodes of a tree.
use Rattle.std.proofs.Common.{◌≡◌, ◌∙◌, ◌<◌, ℕ, zero, suc, Bool, List, [], ◌∷◌, ap, drop, length, map, refl, sym}
use Rattle.std.proofs.lemmas.List.{length-map, map-append}
use Rattle.lt_formula.specs.Expression.{Expression}
use Rattle.lt_legal.specs.Back.{IsAt}
use Rattle.lt_legal.specs.NodeView.{node_view}
use Rattle.lt_legal.specs.Nodes as l
use Rattle.lt_legal.specs.declared.node.Node as code
use Rattle.lt_term.specs.TreeView.{tree_node}
use Rattle.lt_term.specs.declared.tree.TreeNode.{TreeNode}
use Rattle.lt_space.specs.Formula.{Formula}
use Rattle.lt_term.specs.Evaluated.{Outlook, Worth}
use Rattle.lt_term.specs.Mapped.{node_with_constraints}
use Rattle.lt_term.specs.Offers.{TermTree}
use Rattle.lt_term.specs.Process.{Process}
use Rattle.lt_term.specs.Tree as t
use Rattle.lt_term.specs.Tree.{flattened}
use Rattle.lt_instant.specs.Instant.{Leaf}
use Rattle.lt_instant.specs.declared.draw_context.DrawContext.{DrawContext}
use Rattle.lt_instant.specs.inner.DrawContextView.{meaning_of, worth_of}
use Rattle.lt_check.specs.inner.Finding.{nodes_by}
use Rattle.lt_check.specs.inner.Seen.{Sight, loose_node, loose_sight, node_by, node_seen, test_sight}
use Rattle.lt_check.specs.inner.SeenOf.{loose_of, seen}
use Rattle.lt_check.specs.inner.Shaped.{shape_by, shape_loose, shape_seen, tree_from}
use Rattle.lt_check.proofs.Halts.{begins}
use Rattle.lt_check.proofs.Lists.{fused}
use Rattle.lt_check.proofs.Shapes.{flat_seen, nodes_are}

module _ (m : DrawContext) (ns : List (t.Node ℕ (Process ℕ))) (all : List (t.Node Expression (Process Expression))) (e : map (node_with_constraints (meaning_of m.scenario.now.table)) ns ≡ all) where
  -- nodes are seen by a test of leaves
  pub seen_by : (test : Outlook Formula (Process Expression) → Bool) → map (seen m test) ns ≡ map (node_seen (worth_of m) test) all
  seen_by test = fused (node_seen (worth_of m) test) (node_with_constraints (meaning_of m.scenario.now.table)) ns ∙ ap (map (node_seen (worth_of m) test)) e

  -- nodes are seen where no priority is kept
  pub seen_loosely : map (loose_of m) ns ≡ map (loose_node (worth_of m)) all
  seen_loosely = fused (loose_node (worth_of m)) (node_with_constraints (meaning_of m.scenario.now.table)) ns ∙ ap (map (loose_node (worth_of m))) e

-- the nodes of a whole tree, by a test of leaves
pub whole_at : (worth : Worth Expression Formula) (test : Leaf → Bool) (u : TermTree Expression) (ns : List l.Node) → ns ≡ nodes_by worth test u → IsAt ns 0 (shape_seen worth test u)
whole_at worth test u ns e = ([], e ∙ nodes_are worth (test_sight worth test) u)

pub dropped : {A B : Type 0} (f : A → B) (k : ℕ) (xs : List A) → drop k (map f xs) ≡ map f (drop k xs)
dropped f zero xs = refl
dropped f (suc k) [] = refl
dropped f (suc k) (x ∷ xs) = dropped f k xs

-- those of the tree of a number, by how they are seen
pub sight_at : (worth : Worth Expression Formula) (sight : Sight Expression (Process Expression)) (u : TermTree Expression) (ns : List l.Node) (k : ℕ) → ns ≡ map (node_by worth sight) (flattened u) → k < length (flattened u) → IsAt ns k (shape_by worth sight (tree_from u k))
sight_at worth sight u ns k e within =
    let b = begins u k within in
    let f : t.Node Expression (Process Expression) → l.Node = node_by worth sight in (
      map f b.0,
      ap (drop k) e ∙ dropped f k (flattened u) ∙ ap (map f) b.1 ∙ map-append f (flattened (tree_from u k)) b.0 ∙ flat_seen worth sight (tree_from u k) (map f b.0),
    )

-- by a test of leaves, and where no priority is kept
pub seen_at : (worth : Worth Expression Formula) (test : Leaf → Bool) (u : TermTree Expression) (k : ℕ) → k < length (flattened u) → IsAt (nodes_by worth test u) k (shape_seen worth test (tree_from u k))
seen_at worth test u k l = sight_at worth (test_sight worth test) u (nodes_by worth test u) k refl l

pub loose_at : (worth : Worth Expression Formula) (u : TermTree Expression) (ns : List l.Node) (k : ℕ) → ns ≡ map (loose_node worth) (flattened u) → k < length (flattened u) → IsAt ns k (shape_loose worth (tree_from u k))
loose_at worth u ns k e l = sight_at worth loose_sight u ns k e l

-- there are as many nodes with expressions as with numbers
pub nodes_long : (m : DrawContext) (nodes : List TreeNode) (all : List (t.Node Expression (Process Expression))) → map (node_with_constraints (meaning_of m.scenario.now.table)) (map tree_node nodes) ≡ all → length nodes ≡ length all
nodes_long m nodes all e =
    sym (length-map nodes tree_node) ∙ sym (length-map (map tree_node nodes) (node_with_constraints (meaning_of m.scenario.now.table))) ∙ ap length e

-- and as many are seen
pub seen_long : (see : t.Node ℕ (Process ℕ) → l.Node) (found : List code.Node) (nodes : List TreeNode) → map node_view found ≡ map see (map tree_node nodes) → length found ≡ length nodes
seen_long see found nodes e = sym (length-map found node_view) ∙ ap length e ∙ length-map (map tree_node nodes) see ∙ length-map nodes tree_node

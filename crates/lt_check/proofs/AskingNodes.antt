-- What is told of a term by the nodes of what it offers.
use Rattle.std.proofs.Common.{◌≡◌, ◌∙◌, ◌<◌, ◌≤◌, ◌^◌, ℕ, Bool, true, false, List, None, Some, ap, get_or, length, map, subst, sym}
use Rattle.std.specs.Prelude.{Contains, slice_get}
use Rattle.std.specs.List.{list_any}
use Rattle.std.specs.Option.{option_map}
use Rattle.std.proofs.lemmas.List.Elements.{Contains-get_or}
use Rattle.std.proofs.lemmas.Option.{slice_get-map, slice_get_past}
use Rattle.lt_formula.specs.Expression.{Expression}
use Rattle.lt_term.specs.Mapped.{node_with_constraints}
use Rattle.lt_term.specs.Process.{Process}
use Rattle.lt_term.specs.Tree as t
use Rattle.lt_term.specs.Tree.{Lasts, flattened, leaf_node}
use Rattle.lt_term.specs.TreeView.{tree_node}
use Rattle.lt_term.specs.declared.term.Term.{Term}
use Rattle.lt_term.specs.declared.tree.TreeNode.{TreeNode}
use Rattle.lt_legal.specs.Asked.{IsHaltOf}
use Rattle.lt_legal.specs.Back.{IsAt}
use Rattle.lt_legal.specs.NodeView.{node_view}
use Rattle.lt_legal.specs.Nodes as l
use Rattle.lt_legal.specs.Nodes.{found_at, run}
use Rattle.lt_legal.specs.declared.halt.Halt.{Halt}
use Rattle.lt_legal.specs.declared.halt.Halt.TheVariants as halt
use Rattle.lt_legal.specs.declared.node.Node as code
use Rattle.lt_instant.specs.Instant.{Leaf}
use Rattle.lt_instant.specs.declared.draw_context.DrawContext.{DrawContext}
use Rattle.lt_instant.specs.inner.DrawContextView.{meaning_of, scene_of, worth_of}
use Rattle.lt_check.specs.inner.AskingView.{AreNodesOf, MayGiveUpOf, is_told_of, node_of}
use Rattle.lt_check.specs.inner.Finding.{NodeMayGiveUp, instants_in, is_node_alive}
use Rattle.lt_check.specs.inner.Offered.{offered_by}
use Rattle.lt_check.specs.inner.Searches.{is_alive}
use Rattle.lt_check.specs.inner.SeenOf.{loose_of, seen}
use Rattle.lt_check.specs.inner.Shaped.{shape_loose, shape_seen, tree_from}
use Rattle.lt_check.specs.inner.Wanted.{for_free, is_wanted}
use Rattle.lt_check.proofs.Alive.{alive_is, free_tree, told_beyond}
use Rattle.lt_check.proofs.Looks.{loose_at, nodes_long, seen_by, seen_long, seen_loosely, whole_at}

module _ (m : DrawContext) (term : Term) (nodes : List TreeNode) (of : AreNodesOf m term nodes) where
  abbrev offers : t.Tree Expression (Process Expression)
  offers = offered_by m.scenario.now term

  -- there are as many nodes with expressions as with numbers
  pub tree_long : length nodes ≡ length (flattened offers)
  tree_long = nodes_long m nodes (flattened offers) of.offers

  tree_few : length (flattened offers) < 2 ^ 32
  tree_few = subst (λ n. n < 2 ^ 32) tree_long of.few

  -- a number of a node is one of the tree
  tree_within : (k : ℕ) → k < length nodes → k < length (flattened offers)
  tree_within k l = subst (λ n. k < n) tree_long l

  -- what is found of the nodes, by a test of leaves
  pub told_found : (test : Leaf → Bool) (found : List code.Node) (k : ℕ) → map node_view found ≡ map (seen m test) (map tree_node nodes) → (found_at (run (map node_view found)) k).has ≡ is_told_of m term test k
  told_found test found k e = ap (λ ns. (found_at (run ns) k).has) (e ∙ seen_by m (map tree_node nodes) (flattened offers) of.offers test)

  -- the whole tree, by a test of leaves
  pub whole_found : (test : Leaf → Bool) (found : List code.Node) → map node_view found ≡ map (seen m test) (map tree_node nodes) → IsAt (map node_view found) 0 (shape_seen (worth_of m) test offers)
  whole_found test found e = whole_at (worth_of m) test offers (map node_view found) (e ∙ seen_by m (map tree_node nodes) (flattened offers) of.offers test)

  -- the tree of a number, where no priority is kept
  pub loose_found : (found : List code.Node) (k : ℕ) → map node_view found ≡ map (loose_of m) (map tree_node nodes) → k < length nodes → IsAt (map node_view found) k (shape_loose (worth_of m) (tree_from offers k))
  loose_found found k e l = loose_at (worth_of m) offers (map node_view found) k (e ∙ seen_loosely m (map tree_node nodes) (flattened offers) of.offers) (tree_within k l)

  -- there aren't too many
  pub seen_few : (see : t.Node ℕ (Process ℕ) → l.Node) (found : List code.Node) → map node_view found ≡ map see (map tree_node nodes) → length found < 2 ^ 32
  seen_few see found e = subst (λ n. n < 2 ^ 32) (sym (seen_long see found nodes e)) of.few

  -- the node of a number
  pub node_there : (k : ℕ) (x : TreeNode) → slice_get nodes k ≡ Some x → slice_get (flattened offers) k ≡ node_of m x
  node_there k x h =
      let mean : t.Node ℕ (Process ℕ) → t.Node Expression (Process Expression) = node_with_constraints (meaning_of m.scenario.now.table) in
      ap (λ (ns : List (t.Node Expression (Process Expression))). slice_get ns k) (sym of.offers)
      ∙ slice_get-map mean (map tree_node nodes) k
      ∙ ap (option_map mean) (slice_get-map tree_node nodes k ∙ ap (option_map tree_node) h)

  -- beyond them there is none
  pub none_there : (k : ℕ) → length nodes ≤ k → slice_get (flattened offers) k ≡ None
  none_there k l = slice_get_past (flattened offers) k (subst (λ n. n ≤ k) tree_long l)

  -- so nothing is told
  pub beyond : (test : Leaf → Bool) (k : ℕ) → length nodes ≤ k → false ≡ is_told_of m term test k
  beyond test k l = told_beyond (worth_of m) test offers k (subst (λ n. n ≤ k) tree_long l)

  module _ (k : ℕ) (within : k < length nodes) where
    abbrev lives : ℕ → Bool
    lives j = is_node_alive (scene_of m) (worth_of m) (slice_get (flattened offers) j)

    -- a leaf that is live for free
    pub lives_free : true ≡ is_told_of m term (is_wanted for_free) k → true ≡ is_told_of m term (is_alive (scene_of m)) k
    lives_free h = free_tree (scene_of m) (worth_of m) offers tree_few k (tree_within k within) (sym h)

    -- where none is, the instants tell
    pub lives_by : (b : Bool) (instants : List ℕ) → false ≡ is_told_of m term (is_wanted for_free) k → instants ≡ instants_in (worth_of m) offers k → list_any lives instants ≡ b → b ≡ is_told_of m term (is_alive (scene_of m)) k
    lives_by b instants h e g = sym g ∙ ap (list_any lives) e ∙ alive_is (scene_of m) (worth_of m) offers tree_few k (tree_within k within) (sym h)

    -- and the search of one of them may be given up
    pub halts_by : (halt : Halt) (instants : List ℕ) (i d : ℕ) → false ≡ is_told_of m term (is_wanted for_free) k → instants ≡ instants_in (worth_of m) offers k → i < length instants
        → IsHaltOf (λ need. NodeMayGiveUp (scene_of m) (worth_of m) m.budget (slice_get (flattened offers) (get_or instants i d)) need) halt → IsHaltOf (MayGiveUpOf m term k) halt
    halts_by halt.Memory instants i d h e l g = tt
    halts_by (halt.Over need) instants i d h e l g =
        (sym h, (get_or instants i d, subst (λ ks. Contains ks (get_or instants i d)) e (Contains-get_or instants i d l), g))

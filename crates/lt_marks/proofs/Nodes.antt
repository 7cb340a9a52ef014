-- What stands at a path is a node of the tree.
use Rattle.std.proofs.Common.{◌≡◌, ◌≢◌, ℕ, zero, suc, List, [], ◌∷◌, ◌++◌, ap, sym, ◌∙◌, append_assoc}
use Rattle.lt_term.specs.Offers.{TermLeaf, TermTree}
use Rattle.lt_term.specs.Process.{Process}
use Rattle.lt_term.specs.Tree.{Lasts, nothing, Weight, leaf, ordered, weighted, Branches, no_branch, branch, weights_of, Node, leaf_node, ordered_node, weighted_node, flattened, flattened_each}
use Rattle.lt_marks.specs.Found.{IsAmong, LeavesAreNodes, WeightsAreNodes}
use Rattle.lt_marks.specs.Path.{at_leaf, at_weighted, at_path, at_branch}

module _ (n : Node ℕ (Process ℕ)) where
  among_left : (xs ys : List (Node ℕ (Process ℕ))) → IsAmong n xs → IsAmong n (xs ++ ys)
  among_left xs ys h = (h.0, h.1 ++ ys, ap (λ zs. zs ++ ys) h.2 ∙ append_assoc h.0 (n ∷ h.1) ys)

  among_right : (xs ys : List (Node ℕ (Process ℕ))) → IsAmong n ys → IsAmong n (xs ++ ys)
  among_right xs ys h = (xs ++ h.0, h.1, ap (λ zs. xs ++ zs) h.2 ∙ sym (append_assoc xs h.0 (n ∷ h.1)))

  among_more : (m : Node ℕ (Process ℕ)) (xs : List (Node ℕ (Process ℕ))) → IsAmong n xs → IsAmong n (m ∷ xs)
  among_more m xs h = (m ∷ h.0, h.1, ap (λ zs. m ∷ zs) h.2)

module _ (l : TermLeaf ℕ) (some : l ≢ nothing) where
  mutual
    leaf_among : (t : TermTree ℕ) (ks js : List ℕ) → at_path t ks ≡ at_leaf l js → IsAmong (leaf_node l) (flattened t)
    leaf_among (leaf m) ks js e = let d : m ≡ l = cc in ([], [], ap (λ x. leaf_node x ∷ []) d)
    leaf_among (ordered a b) [] js e = absurd (cc)
    leaf_among (ordered a b) (zero ∷ ks) js e = among_more (leaf_node l) ordered_node (flattened a ++ flattened b) (among_left (leaf_node l) (flattened a) (flattened b) (leaf_among a ks js e))
    leaf_among (ordered a b) (suc k ∷ ks) js e = among_more (leaf_node l) ordered_node (flattened a ++ flattened b) (among_right (leaf_node l) (flattened a) (flattened b) (leaf_among b ks js e))
    leaf_among (weighted ls bs) [] js e = absurd (cc)
    leaf_among (weighted ls bs) (k ∷ ks) js e = among_more (leaf_node l) (weighted_node ls (weights_of bs)) (flattened_each bs) (leaf_among_each bs k ks js e)

    leaf_among_each : (bs : Branches ℕ (Process ℕ)) (k : ℕ) (ks js : List ℕ) → at_branch bs k ks ≡ at_leaf l js → IsAmong (leaf_node l) (flattened_each bs)
    leaf_among_each no_branch k ks js e = absurd (let d : l ≡ nothing = cc in some d)
    leaf_among_each (branch w t bs) zero ks js e = among_left (leaf_node l) (flattened t) (flattened_each bs) (leaf_among t ks js e)
    leaf_among_each (branch w t bs) (suc k) ks js e = among_right (leaf_node l) (flattened t) (flattened_each bs) (leaf_among_each bs k ks js e)

module _ (ls : Lasts) (ws : List (Weight ℕ)) where
  mutual
    weights_among : (t : TermTree ℕ) (ks : List ℕ) → at_path t ks ≡ at_weighted ls ws → IsAmong (weighted_node ls ws) (flattened t)
    weights_among (leaf m) ks e = absurd (cc)
    weights_among (ordered a b) [] e = absurd (cc)
    weights_among (ordered a b) (zero ∷ ks) e = among_more (weighted_node ls ws) ordered_node (flattened a ++ flattened b) (among_left (weighted_node ls ws) (flattened a) (flattened b) (weights_among a ks e))
    weights_among (ordered a b) (suc k ∷ ks) e = among_more (weighted_node ls ws) ordered_node (flattened a ++ flattened b) (among_right (weighted_node ls ws) (flattened a) (flattened b) (weights_among b ks e))
    weights_among (weighted ms bs) [] e = let d : ms ≡ ls = cc in let f : weights_of bs ≡ ws = cc in ([], flattened_each bs, λ i. weighted_node (d i) (f i) ∷ flattened_each bs)
    weights_among (weighted ms bs) (k ∷ ks) e = among_more (weighted_node ls ws) (weighted_node ms (weights_of bs)) (flattened_each bs) (weights_among_each bs k ks e)

    weights_among_each : (bs : Branches ℕ (Process ℕ)) (k : ℕ) (ks : List ℕ) → at_branch bs k ks ≡ at_weighted ls ws → IsAmong (weighted_node ls ws) (flattened_each bs)
    weights_among_each no_branch k ks e = absurd (cc)
    weights_among_each (branch w t bs) zero ks e = among_left (weighted_node ls ws) (flattened t) (flattened_each bs) (weights_among t ks e)
    weights_among_each (branch w t bs) (suc k) ks e = among_right (weighted_node ls ws) (flattened t) (flattened_each bs) (weights_among_each bs k ks e)

pub leaves_are_nodes : LeavesAreNodes
leaves_are_nodes t ks js l some e = leaf_among l some t ks js e

pub weights_are_nodes : WeightsAreNodes
weights_are_nodes t ks ls ws e = weights_among ls ws t ks e

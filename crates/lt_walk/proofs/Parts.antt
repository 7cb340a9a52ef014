-- What stands in a part of a part of a tree.
use Rattle.std.proofs.Common.{◌≡◌, ◌≢◌, ℕ, zero, suc, if◌then◌else◌, List, [], ◌∷◌, ◌++◌, refl, ap, sym, ◌∙◌, append_assoc}
use Rattle.std.specs.Prelude.{slice_index_or}
use Rattle.std.proofs.lemmas.Bool.{eq-eqb}
use Rattle.lt_num.specs.declared.kind.Kind.{Kind}
use Rattle.lt_num.specs.declared.value.Value.{Value}
use Rattle.lt_term.specs.declared.last.Last.{Last}
use Rattle.lt_term.specs.Offers.{TermLeaf, TermTree, in_seq, in_turn, joined, in_par, in_assert, in_exist, in_catch, in_try, offers_of, offers_of_each}
use Rattle.lt_term.specs.Process.{Process, dead}
use Rattle.lt_term.specs.Size.{Weights}
use Rattle.lt_term.specs.Tree.{Lasts, Weight, Leaf, vanish, nothing, raised, go, Tree, leaf, ordered, weighted, Branches, no_branch, branch, with_leaves, with_local}
use Rattle.lt_marks.proofs.Public.{at_path-with_leaves, at_path-with_local, branch_of}
use Rattle.lt_marks.specs.Path.{Arrival, at_leaf, at_ordered, at_weighted, at_path, at_branch, behind, beside_local}
use Rattle.lt_marks.specs.View.{body_each, choices_of}
use Rattle.lt_marks.specs.declared.track.Parts.{Parts}
use Rattle.lt_walk.specs.Before.{nodes_before}
use Rattle.lt_walk.specs.inner.Spot as s
use Rattle.lt_walk.specs.inner.Spot.{Spot, at_choice, spot, spot_in}
use Rattle.lt_walk.specs.inner.Underway.{IsPartAt}
use Rattle.lt_walk.proofs.Contexts.{behind_weights, beside_weights, besides, handled_weights, in_turn_weights}
use Rattle.lt_walk.proofs.Spots.{assert_spot, beside_spot, catch_spot, exist_spot, handled_spot, in_turn_spot, joined_spot, par_spot, part_spot, seq_spot, try_spot}

-- what stands at a leaf, by either word
abbrev spot_from : {C N : Type 0} → Arrival C N → Spot
spot_from (at_leaf l ks) = s.at_leaf l ks
spot_from at_ordered = at_choice 0
spot_from (at_weighted ls ws) = at_choice 0

module _ {C N : Type 0} (w : Weights) (k : ℕ) where
  mutual
    leaf_spot : (t : Tree C N) (ks js : List ℕ) (l : Leaf C N) → at_path t ks ≡ at_leaf l js → spot w k t ks ≡ s.at_leaf l js
    leaf_spot (leaf m) ks js l e = ap spot_from e
    leaf_spot (ordered a b) [] js l e = absurd (cc)
    leaf_spot (ordered a b) (zero ∷ ks) js l e = leaf_spot a ks js l e
    leaf_spot (ordered a b) (suc i ∷ ks) js l e = leaf_spot b ks js l e
    leaf_spot (weighted ls bs) [] js l e = absurd (cc)
    leaf_spot (weighted ls bs) (i ∷ ks) js l e = leaf_spot_in bs i ks js l e

    leaf_spot_in : (bs : Branches C N) (i : ℕ) (ks js : List ℕ) (l : Leaf C N) → at_branch bs i ks ≡ at_leaf l js → spot_in w k bs i ks ≡ s.at_leaf l js
    leaf_spot_in no_branch i ks js l e = ap spot_from e
    leaf_spot_in (branch x t bs) zero ks js l e = leaf_spot t ks js l e
    leaf_spot_in (branch x t bs) (suc i) ks js l e = leaf_spot_in bs i ks js l e

-- choices stand in an order as before where another term is to be done once nothing can be done in its first part
at_order : (h : Process ℕ) (t u : TermTree ℕ) (ks : List ℕ) → at_path (ordered t u) ks ≡ at_ordered → at_path (ordered (with_leaves (in_try h) t) u) ks ≡ at_ordered
at_order h t u [] e = refl
at_order h t u (zero ∷ ks) e = at_path-with_leaves (in_try h) refl t ks ∙ ap (behind (in_try h)) e
at_order h t u (suc i ∷ ks) e = e

at_weights : (h : Process ℕ) (t u : TermTree ℕ) (ks : List ℕ) (ls : Lasts) (ws : List (Weight ℕ)) → at_path (ordered t u) ks ≡ at_weighted ls ws → at_path (ordered (with_leaves (in_try h) t) u) ks ≡ at_weighted ls ws
at_weights h t u [] ls ws e = absurd (cc)
at_weights h t u (zero ∷ ks) ls ws e = at_path-with_leaves (in_try h) refl t ks ∙ ap (behind (in_try h)) e
at_weights h t u (suc i ∷ ks) ls ws e = e

module _ (whole : TermTree ℕ) (come : List ℕ) (scope : Lasts) where
  -- a part whose leaves are replaced
  replaced : (w v : Weights) (f : TermLeaf ℕ → TermTree ℕ) → f nothing ≡ leaf nothing → (t : TermTree ℕ) → ((ks : List ℕ) (k n : ℕ) → spot v k t ks ≡ at_choice n → spot w k (with_leaves f t) ks ≡ at_choice n)
      → IsPartAt whole come scope w (with_leaves f t) → IsPartAt whole come scope v t
  replaced w v f none t g p = record {
    orders = λ ks e. p.orders ks (at_path-with_leaves f none t ks ∙ ap (behind f) e);
    weights = λ ks ls ws e. p.weights ks ls ws (at_path-with_leaves f none t ks ∙ ap (behind f) e);
    counts = λ ks k n e. p.counts ks k n (g ks k n e);
  }

  -- a part that is come to
  next_part : (w : Weights) (t u : TermTree ℕ) (js : List ℕ) → ((ks : List ℕ) → at_path t (js ++ ks) ≡ at_path u ks) → ((ks : List ℕ) (k : ℕ) → spot w k t (js ++ ks) ≡ spot w k u ks)
      → IsPartAt whole come scope w t → IsPartAt whole (come ++ js) scope w u
  next_part w t u js a b p = record {
    orders = λ ks e. ap (at_path whole) (append_assoc come js ks) ∙ p.orders (js ++ ks) (a ks ∙ e);
    weights = λ ks ls ws e. ap (at_path whole) (append_assoc come js ks) ∙ p.weights (js ++ ks) ls ws (a ks ∙ e);
    counts = λ ks k n e. ap (λ l. nodes_before whole l k) (append_assoc come js ks) ∙ p.counts (js ++ ks) k n (b ks k ∙ e);
  }

  module _ (w : Weights) where
    -- Sequences, and turns.

    pub first_part : (b : Process ℕ) (u t : TermTree ℕ) → IsPartAt whole come scope w (with_leaves (in_seq b u) t) → IsPartAt whole come scope (behind_weights w u) t
    first_part b u t p = replaced w (behind_weights w u) (in_seq b u) refl t (λ ks k n e. seq_spot w k b u t ks ∙ ap (in_turn_spot w k u) e) p

    pub second_part : (b : Process ℕ) (u t : TermTree ℕ) (js : List ℕ) → ((ks : List ℕ) → at_path t (js ++ ks) ≡ at_leaf vanish ks) → IsPartAt whole come scope w (with_leaves (in_seq b u) t) → IsPartAt whole (come ++ js) scope w u
    second_part b u t js h p =
        next_part w (with_leaves (in_seq b u) t) u js (λ ks. at_path-with_leaves (in_seq b u) refl t (js ++ ks) ∙ ap (behind (in_seq b u)) (h ks))
        (λ ks k. seq_spot w k b u t (js ++ ks) ∙ ap (in_turn_spot w k u) (leaf_spot (behind_weights w u) k t (js ++ ks) ks vanish (h ks))) p

    pub turn_part : (b : Process ℕ) (t : TermTree ℕ) → IsPartAt whole come scope w (with_leaves (in_turn b) t) → IsPartAt whole come scope (in_turn_weights w) t
    turn_part b t p = replaced w (in_turn_weights w) (in_turn b) refl t (λ ks k n e. seq_spot w k b (leaf nothing) t ks ∙ ap (in_turn_spot w k (leaf nothing)) e) p

    -- Two sides.

    pub side_part : (u t : TermTree ℕ) → IsPartAt whole come scope w (with_leaves (in_par u) t) → IsPartAt whole come scope (besides w u) t
    side_part u t p = replaced w (besides w u) (in_par u) refl t (λ ks k n e. par_spot w k u t ks ∙ ap (beside_spot w k u) e) p

    pub other_part : (u t : TermTree ℕ) (js : List ℕ) → ((ks : List ℕ) → at_path t (js ++ ks) ≡ at_leaf vanish ks) → IsPartAt whole come scope w (with_leaves (in_par u) t) → IsPartAt whole (come ++ js) scope w u
    other_part u t js h p =
        next_part w (with_leaves (in_par u) t) u js (λ ks. at_path-with_leaves (in_par u) refl t (js ++ ks) ∙ ap (behind (in_par u)) (h ks))
        (λ ks k. par_spot w k u t (js ++ ks) ∙ ap (beside_spot w k u) (leaf_spot (besides w u) k t (js ++ ks) ks vanish (h ks))) p

    -- Constraints, locals, handlers.

    pub assert_part : (c : ℕ) (t : TermTree ℕ) → IsPartAt whole come scope w (with_leaves (in_assert c) t) → IsPartAt whole come scope w t
    assert_part c t p = replaced w w (in_assert c) refl t (λ ks k n e. assert_spot w k c t ks ∙ e) p

    pub exist_part : (start : Value) (x : ℕ) (v : Last) (t : TermTree ℕ) → IsPartAt whole come scope w (with_leaves (in_exist start x v) (with_local (x, v) t)) → IsPartAt whole come (scope ++ (x, v) ∷ []) w t
    exist_part start x v t p =
        let at : (ks : List ℕ) → at_path (with_leaves (in_exist start x v) (with_local (x, v) t)) ks ≡ behind (in_exist start x v) (beside_local (x, v) (at_path t ks)) =
        λ ks. at_path-with_leaves (in_exist start x v) refl (with_local (x, v) t) ks ∙ ap (behind (in_exist start x v)) (at_path-with_local (x, v) t ks) in
        record {
          orders = λ ks e. p.orders ks (at ks ∙ ap (λ a. behind (in_exist start x v) (beside_local (x, v) a)) e);
          weights = λ ks ls ws e. p.weights ks ((x, v) ∷ ls) ws (at ks ∙ ap (λ a. behind (in_exist start x v) (beside_local (x, v) a)) e) ∙ ap (λ l. at_weighted l ws) (sym (append_assoc scope ((x, v) ∷ []) ls));
          counts = λ ks k n e. p.counts ks k n (exist_spot w k start x v t ks ∙ e);
        }

    pub caught_part : (z : ℕ) (h : Process ℕ) (u t : TermTree ℕ) → IsPartAt whole come scope w (with_leaves (in_catch z h u) t) → IsPartAt whole come scope (handled_weights w z u) t
    caught_part z h u t p = replaced w (handled_weights w z u) (in_catch z h u) refl t (λ ks k n e. catch_spot w k z h u t ks ∙ ap (handled_spot w k z u) e) p

    pub handler_part : (z y : ℕ) (h : Process ℕ) (u t : TermTree ℕ) (js : List ℕ) → y ≡ z → ((ks : List ℕ) → at_path t (js ++ ks) ≡ at_leaf (raised y) ks)
        → IsPartAt whole come scope w (with_leaves (in_catch z h u) t) → IsPartAt whole (come ++ js) scope w u
    handler_part z y h u t js e f p =
        next_part w (with_leaves (in_catch z h u) t) u js
        (λ ks. at_path-with_leaves (in_catch z h u) refl t (js ++ ks) ∙ ap (behind (in_catch z h u)) (f ks) ∙ ap (λ b. at_path (if b then u else leaf (raised y)) ks) (eq-eqb y z e))
        (λ ks k.
        catch_spot w k z h u t (js ++ ks) ∙ ap (handled_spot w k z u) (leaf_spot (handled_weights w z u) k t (js ++ ks) ks (raised y) (f ks)) ∙ ap (λ b. if b then spot w k u ks else s.at_raised y ks) (eq-eqb y z e)) p

    -- Choices.

    -- an order with another first part for where nothing can be done
    pub try_part : (h : Process ℕ) (t u : TermTree ℕ) → IsPartAt whole come scope w (ordered (with_leaves (in_try h) t) u) → IsPartAt whole come scope w (ordered t u)
    try_part h t u p = record {
      orders = λ ks e. p.orders ks (at_order h t u ks e);
      weights = λ ks ls ws e. p.weights ks ls ws (at_weights h t u ks ls ws e);
      counts = λ ks k n e. p.counts ks k n (try_spot w k h t u ks ∙ e);
    }

    pub left_part : (a b : TermTree ℕ) → IsPartAt whole come scope w (ordered a b) → IsPartAt whole (come ++ 0 ∷ []) scope w a
    left_part a b p = next_part w (ordered a b) a (0 ∷ []) (λ ks. refl) (λ ks k. refl) p

    pub right_part : (a b : TermTree ℕ) (i : ℕ) → i ≢ 0 → IsPartAt whole come scope w (ordered a b) → IsPartAt whole (come ++ i ∷ []) scope w b
    right_part a b zero n p = absurd (n refl)
    right_part a b (suc i) n p = next_part w (ordered a b) b (suc i ∷ []) (λ ks. refl) (λ ks k. refl) p

    pub branch_part : (kinds : List Kind) (ps : Parts) (i : ℕ) → IsPartAt whole come scope w (weighted [] (offers_of_each kinds (choices_of ps)))
        → IsPartAt whole (come ++ i ∷ []) scope w (offers_of kinds (slice_index_or (body_each ps) i dead))
    branch_part kinds ps i p =
        next_part w (weighted [] (offers_of_each kinds (choices_of ps))) (offers_of kinds (slice_index_or (body_each ps) i dead)) (i ∷ []) (λ ks. branch_of kinds ps i ks) (λ ks k. part_spot w k kinds ps i ks) p

    pub turn_branch : (x y : Weight ℕ) (t : TermTree ℕ) → IsPartAt whole come scope w (weighted [] (branch x t (branch y (leaf vanish) no_branch))) → IsPartAt whole (come ++ 0 ∷ []) scope w t
    turn_branch x y t p = next_part w (weighted [] (branch x t (branch y (leaf vanish) no_branch))) t (0 ∷ []) (λ ks. refl) (λ ks k. refl) p

-- beside an instant of a first side
pub instant_part : (whole : TermTree ℕ) (come : List ℕ) (scope : Lasts) (w : Weights) (cs : List ℕ → List ℕ) (ls : List ℕ → Lasts) (n : Process ℕ) (u t : TermTree ℕ) (js : List ℕ)
    → ((ks : List ℕ) → at_path t (js ++ ks) ≡ at_leaf (go (cs ks) (ls ks) n) ks) → IsPartAt whole come scope w (with_leaves (in_par u) t) → IsPartAt whole (come ++ js) scope (beside_weights w) u
instant_part whole come scope w cs ls n u t js h p =
    let at : (ks : List ℕ) → at_path (with_leaves (in_par u) t) (js ++ ks) ≡ behind (joined (cs ks) (ls ks) n) (at_path u ks) =
    λ ks. at_path-with_leaves (in_par u) refl t (js ++ ks) ∙ ap (behind (in_par u)) (h ks) ∙ at_path-with_leaves (joined (cs ks) (ls ks) n) refl u ks in
    record {
      orders = λ ks e. ap (at_path whole) (append_assoc come js ks) ∙ p.orders (js ++ ks) (at ks ∙ ap (behind (joined (cs ks) (ls ks) n)) e);
      weights = λ ks ms ws e. ap (at_path whole) (append_assoc come js ks) ∙ p.weights (js ++ ks) ms ws (at ks ∙ ap (behind (joined (cs ks) (ls ks) n)) e);
      counts = λ ks k m e.
          ap (λ l. nodes_before whole l k) (append_assoc come js ks)
          ∙ p.counts (js ++ ks) k m (par_spot w k u t (js ++ ks) ∙ ap (beside_spot w k u) (leaf_spot (besides w u) k t (js ++ ks) ks (go (cs ks) (ls ks) n) (h ks)) ∙ ap joined_spot e);
    }

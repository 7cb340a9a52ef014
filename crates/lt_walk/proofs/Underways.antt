-- Walks that are under way in the parts of a part.
use Rattle.std.proofs.Common.{◌≡◌, ◌≢◌, ◌<◌, ℕ, zero, suc, List, [], ◌∷◌, ◌++◌, ◌+◌, length, refl, ap, sym, ◌∙◌, subst, append-nil, arith}
use Rattle.std.specs.Prelude.{slice_index_or, slice_set}
use Rattle.lt_num.specs.declared.kind.Kind.{Kind}
use Rattle.lt_num.specs.declared.value.Value.{Value}
use Rattle.lt_term.specs.declared.last.Last.{Last}
use Rattle.lt_term.specs.Offers.{TermTree, in_assert, in_catch, in_exist, in_par, in_seq, in_try, in_turn, offers_of, offers_of_each}
use Rattle.lt_term.specs.Process.{Process, dead}
use Rattle.lt_term.specs.Size.{Weights, capped, tree_weight}
use Rattle.lt_term.specs.Tree.{Lasts, Weight, Branches, weights_of, branch, leaf, no_branch, ordered, vanish, weighted, with_leaves, with_local}
use Rattle.lt_marks.specs.Path.{at_path, at_weighted}
use Rattle.lt_marks.specs.View.{body_each, choices_of}
use Rattle.lt_marks.specs.declared.track.Parts.{Parts}
use Rattle.lt_marks.specs.declared.walk.Reached.TheVariants as reached
use Rattle.lt_marks.specs.declared.walk.Walk.{Walk}
use Rattle.lt_walk.specs.Before.{nodes_before}
use Rattle.lt_walk.specs.inner.Context.{IsContext}
use Rattle.lt_walk.specs.inner.Spot.{first_weight}
use Rattle.lt_walk.specs.inner.Underway.{IsAtChoice, IsAtOrder, IsPartAt, IsUnderway, Walks}
use Rattle.lt_walk.proofs.Contexts.{behind_weights, beside_weights, besides, context_again, context_behind, context_beside, context_besides, context_handled, context_turn, handled_weights, in_turn_weights, turn_weight}
use Rattle.lt_walk.proofs.Parts.{assert_part, branch_part, caught_part, exist_part, first_part, handler_part, instant_part, left_part, other_part, right_part, second_part, side_part, try_part, turn_branch, turn_part}

-- what stands before one more turn, and before the end
turns_weight : (w : Weights) (b : Process ℕ) (v s : Weight ℕ) (t : TermTree ℕ) (k : ℕ) → k < 2 → first_weight w (branch v (with_leaves (in_turn b) t) (branch s (leaf vanish) no_branch)) k ≡ first_weight (in_turn_weights w) (branch v t (branch s (leaf vanish) no_branch)) k
turns_weight w b v s t zero l = refl
turns_weight w b v s t (suc zero) l = ap (λ n. n + 0) (turn_weight w b t)
turns_weight w b v s t (suc (suc k)) l = absurd (omega (arith, l))

module _ (at : TermTree ℕ → ℕ → Type 0) (whole : TermTree ℕ) (most : ℕ) (come : List ℕ) (scope : Lasts) (x y : ℕ) (zs : List ℕ) where
  -- in an equal tree
  pub same_tree : (u v : TermTree ℕ) → u ≡ v → IsUnderway at whole most come scope x y zs u → IsUnderway at whole most come scope x y zs v
  same_tree u v e h = subst (λ t. IsUnderway at whole most come scope x y zs t) e h

  -- with equal locals and weights
  pub again : (ls : Lasts) (ys : List ℕ) (u : TermTree ℕ) → ls ≡ scope → ys ≡ zs → IsUnderway at whole most come scope x y zs u → IsUnderway at whole most come ls x y ys u
  again ls ys u d e h = record {
    weights = h.weights;
    context = context_again x y zs ys h.weights e h.context;
    part = subst (λ ms. IsPartAt whole come ms h.weights u) (sym d) h.part;
    holds = h.holds;
  }

  -- Sequences, and turns.

  pub in_first : (p : ℕ) (b : Process ℕ) (u t : TermTree ℕ) → ((w : Weights) → IsContext x y zs w → p ≡ capped (tree_weight w u)) → IsUnderway at whole most come scope x y zs (with_leaves (in_seq b u) t) → IsUnderway at whole most come scope p y zs t
  in_first p b u t e h = record {
    weights = behind_weights h.weights u;
    context = context_behind x y p zs h.weights u h.context (e h.weights h.context);
    part = first_part whole come scope h.weights b u t h.part;
    holds = h.holds;
  }

  pub in_this_turn : (b : Process ℕ) (t v : TermTree ℕ) → IsUnderway at whole most come scope x y zs (ordered (with_leaves (in_turn b) t) v) → IsAtOrder at whole most come 1 y zs t
  in_this_turn b t v h = record {
    weights = in_turn_weights h.weights;
    context = context_turn x y zs h.weights h.context;
    stands = ap (at_path whole) (sym (append-nil come)) ∙ h.part.orders [] refl;
    nodes = ap (λ ks. nodes_before whole ks 1) (sym (append-nil come)) ∙ h.part.counts [] 1 (tree_weight h.weights (with_leaves (in_turn b) t)) refl ∙ turn_weight h.weights b t;
    holds = h.holds;
  }

  -- Two sides.

  pub in_side : (p q : ℕ) (u t : TermTree ℕ) → ((w : Weights) → IsContext x y zs w → p ≡ capped (tree_weight w u)) → ((w : Weights) → IsContext y y zs w → q ≡ capped (tree_weight w u))
      → IsUnderway at whole most come scope x y zs (with_leaves (in_par u) t) → IsUnderway at whole most come scope p q zs t
  in_side p q u t e d h = record {
    weights = besides h.weights u;
    context = context_besides x y p q zs h.weights u h.context (e h.weights h.context) (d (beside_weights h.weights) (context_beside x y zs h.weights h.context));
    part = side_part whole come scope h.weights u t h.part;
    holds = h.holds;
  }

  -- Constraints, locals, handlers.

  pub in_asserted : (c : ℕ) (t : TermTree ℕ) → IsUnderway at whole most come scope x y zs (with_leaves (in_assert c) t) → IsUnderway at whole most come scope x y zs t
  in_asserted c t h = record { weights = h.weights; context = h.context; part = assert_part whole come scope h.weights c t h.part; holds = h.holds }

  pub in_scope : (start : Value) (i : ℕ) (v : Last) (t : TermTree ℕ) → IsUnderway at whole most come scope x y zs (with_leaves (in_exist start i v) (with_local (i, v) t)) → IsUnderway at whole most come (scope ++ (i, v) ∷ []) x y zs t
  in_scope start i v t h = record { weights = h.weights; context = h.context; part = exist_part whole come scope h.weights start i v t h.part; holds = h.holds }

  pub in_caught : (z n : ℕ) (p : Process ℕ) (u t : TermTree ℕ) → z < length zs → ((w : Weights) → IsContext x y zs w → n ≡ capped (tree_weight w u))
      → IsUnderway at whole most come scope x y zs (with_leaves (in_catch z p u) t) → IsUnderway at whole most come scope x y (slice_set zs z n) t
  in_caught z n p u t l e h = record {
    weights = handled_weights h.weights z u;
    context = context_handled x y zs h.weights z n u l h.context (e h.weights h.context);
    part = caught_part whole come scope h.weights z p u t h.part;
    holds = h.holds;
  }

  -- Choices.

  pub in_try_order : (p : Process ℕ) (t u : TermTree ℕ) → IsUnderway at whole most come scope x y zs (ordered (with_leaves (in_try p) t) u) → IsUnderway at whole most come scope x y zs (ordered t u)
  in_try_order p t u h = record { weights = h.weights; context = h.context; part = try_part whole come scope h.weights p t u h.part; holds = h.holds }

  pub at_order : (a b : TermTree ℕ) → IsUnderway at whole most come scope x y zs (ordered a b) → IsAtOrder at whole most come x y zs a
  at_order a b h = record {
    weights = h.weights;
    context = h.context;
    stands = ap (at_path whole) (sym (append-nil come)) ∙ h.part.orders [] refl;
    nodes = ap (λ ks. nodes_before whole ks 1) (sym (append-nil come)) ∙ h.part.counts [] 1 (tree_weight h.weights a) refl;
    holds = h.holds;
  }

  pub at_choice : (bs : Branches ℕ (Process ℕ)) → IsUnderway at whole most come scope x y zs (weighted [] bs) → IsAtChoice at whole most come scope x y zs bs
  at_choice bs h = record {
    weights = h.weights;
    context = h.context;
    stands = ap (at_path whole) (sym (append-nil come)) ∙ h.part.weights [] [] (weights_of bs) refl ∙ ap (λ l. at_weighted l (weights_of bs)) (append-nil scope);
    nodes = λ k l. ap (λ ks. nodes_before whole ks k) (sym (append-nil come)) ∙ h.part.counts [] k (first_weight h.weights bs k) refl;
    holds = h.holds;
  }

  pub at_turns : (b : Process ℕ) (v s : Weight ℕ) (t : TermTree ℕ) → IsUnderway at whole most come scope x y zs (weighted [] (branch v (with_leaves (in_turn b) t) (branch s (leaf vanish) no_branch)))
      → IsAtChoice at whole most come scope 1 y zs (branch v t (branch s (leaf vanish) no_branch))
  unfolding at_choice
  at_turns b v s t h =
      let c = at_choice (branch v (with_leaves (in_turn b) t) (branch s (leaf vanish) no_branch)) h in
      record {
        weights = in_turn_weights h.weights;
        context = context_turn x y zs h.weights h.context;
        stands = c.stands;
        nodes = λ k l. c.nodes k l ∙ turns_weight h.weights b v s t k l;
        holds = h.holds;
      }

  -- What comes behind a leaf of the first part, where the chooser holds this of the whole tree.
  module _ (bt : TermTree ℕ → ℕ → Type 0) (now : List ℕ) (ls : Lasts) (ys : List ℕ) (d : ls ≡ scope) (e : ys ≡ zs) (holds : bt whole most) where
    moved : (w : Weights) (p q : ℕ) (js : List ℕ) (u : TermTree ℕ) → now ≡ come ++ js → IsContext p q zs w → IsPartAt whole (come ++ js) scope w u → IsUnderway bt whole most now ls p q ys u
    moved w p q js u c k part = record {
      weights = w;
      context = context_again p q zs ys w e k;
      part = subst (λ ms. IsPartAt whole now ms w u) (sym d) (subst (λ ks. IsPartAt whole ks scope w u) (sym c) part);
      holds = holds;
    }

    pub in_second : (b : Process ℕ) (u t : TermTree ℕ) (w w1 : Walk) (n : Process ℕ) → Walks t come w reached.Vanish now w1 n → IsUnderway at whole most come scope x y zs (with_leaves (in_seq b u) t) → IsUnderway bt whole most now ls x y ys u
    in_second b u t w w1 n k h = moved h.weights x y k.taken u k.comes h.context (second_part whole come scope h.weights b u t k.taken (λ ks. (k.follows ks tt).stands) h.part)

    pub in_other : (u t : TermTree ℕ) (w w1 : Walk) (n : Process ℕ) → Walks t come w reached.Vanish now w1 n → IsUnderway at whole most come scope x y zs (with_leaves (in_par u) t) → IsUnderway bt whole most now ls x y ys u
    in_other u t w w1 n k h = moved h.weights x y k.taken u k.comes h.context (other_part whole come scope h.weights u t k.taken (λ ks. (k.follows ks tt).stands) h.part)

    pub in_handler : (z i : ℕ) (p : Process ℕ) (u t : TermTree ℕ) (w w1 : Walk) (n : Process ℕ) → i ≡ z → Walks t come w (reached.Raised i) now w1 n → IsUnderway at whole most come scope x y zs (with_leaves (in_catch z p u) t) → IsUnderway bt whole most now ls x y ys u
    in_handler z i p u t w w1 n f k h = moved h.weights x y k.taken u k.comes h.context (handler_part whole come scope h.weights z i p u t k.taken f (λ ks. (k.follows ks tt).stands) h.part)

    pub in_left : (a b : TermTree ℕ) → now ≡ come ++ 0 ∷ [] → IsUnderway at whole most come scope x y zs (ordered a b) → IsUnderway bt whole most now ls x y ys a
    in_left a b c h = moved h.weights x y (0 ∷ []) a c h.context (left_part whole come scope h.weights a b h.part)

    pub in_right : (a b : TermTree ℕ) (i : ℕ) → i ≢ 0 → now ≡ come ++ i ∷ [] → IsUnderway at whole most come scope x y zs (ordered a b) → IsUnderway bt whole most now ls x y ys b
    in_right a b i n c h = moved h.weights x y (i ∷ []) b c h.context (right_part whole come scope h.weights a b i n h.part)

    pub in_branch : (kinds : List Kind) (ps : Parts) (i : ℕ) → now ≡ come ++ i ∷ [] → IsUnderway at whole most come scope x y zs (weighted [] (offers_of_each kinds (choices_of ps)))
        → IsUnderway bt whole most now ls x y ys (offers_of kinds (slice_index_or (body_each ps) i dead))
    in_branch kinds ps i c h = moved h.weights x y (i ∷ []) _ c h.context (branch_part whole come scope h.weights kinds ps i h.part)

    pub in_beside : (u t : TermTree ℕ) (w w1 : Walk) (n : Process ℕ) → Walks t come w reached.Go now w1 n → IsUnderway at whole most come scope x y zs (with_leaves (in_par u) t) → IsUnderway bt whole most now ls y y ys u
    in_beside u t w w1 n k h =
        moved (beside_weights h.weights) y y k.taken u k.comes (context_beside x y zs h.weights h.context)
        (instant_part whole come scope h.weights (λ ks. (k.follows ks tt).found.constraints) (λ ks. (k.follows ks tt).found.lasts) n u t k.taken (λ ks. (k.follows ks tt).stands) h.part)

    pub in_first_turn : (b : Process ℕ) (t v : TermTree ℕ) → now ≡ come ++ 0 ∷ [] → IsUnderway at whole most come scope x y zs (ordered (with_leaves (in_turn b) t) v) → IsUnderway bt whole most now ls 1 y ys t
    in_first_turn b t v c h =
        moved (in_turn_weights h.weights) 1 y (0 ∷ []) t c (context_turn x y zs h.weights h.context)
        (turn_part whole (come ++ 0 ∷ []) scope h.weights b t (left_part whole come scope h.weights (with_leaves (in_turn b) t) v h.part))

    pub in_one_turn : (b : Process ℕ) (v s : Weight ℕ) (t : TermTree ℕ) → now ≡ come ++ 0 ∷ [] → IsUnderway at whole most come scope x y zs (weighted [] (branch v (with_leaves (in_turn b) t) (branch s (leaf vanish) no_branch)))
        → IsUnderway bt whole most now ls 1 y ys t
    in_one_turn b v s t c h =
        moved (in_turn_weights h.weights) 1 y (0 ∷ []) t c (context_turn x y zs h.weights h.context)
        (turn_part whole (come ++ 0 ∷ []) scope h.weights b t (turn_branch whole come scope h.weights v s (with_leaves (in_turn b) t) h.part))

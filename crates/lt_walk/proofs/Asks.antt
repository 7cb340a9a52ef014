-- What a chooser is asked at a choice.
use Rattle.std.proofs.Common.{◌≡◌, ◌<◌, ℕ, zero, suc, ◌+◌, List, [], ◌∷◌, ◌++◌, length, map, get_or, refl, ap, sym, ◌∙◌, append-nil, arith}
use Rattle.lt_term.specs.Offers.{TermTree}
use Rattle.lt_term.specs.Process.{Process}
use Rattle.lt_term.specs.Size.{Weights, capped, tree_weight}
use Rattle.lt_term.specs.Tree.{Lasts, Weight, vanish, leaf, Branches, no_branch, branch, weights_of}
use Rattle.lt_term.specs.TreeView.{weight}
use Rattle.lt_marks.specs.Path.{at_weighted, at_path}
use Rattle.lt_marks.specs.Walk.{held}
use Rattle.lt_marks.specs.declared.walk.Walk.{Walk}
use Rattle.lt_walk.specs.Asked.{IsChoice, IsOrder}
use Rattle.lt_walk.specs.Before.{nodes_before}
use Rattle.lt_walk.specs.inner.Context.{IsContext}
use Rattle.lt_walk.specs.inner.Spot.{first_weight, weights_before}
use Rattle.lt_walk.specs.inner.Underway.{IsAtChoice, IsAtOrder}

module _ (at : TermTree ℕ → ℕ → Type 0) (whole : TermTree ℕ) (most : ℕ) (come now : List ℕ) (x y : ℕ) (zs : List ℕ) (same : now ≡ come ++ []) where
  here : come ≡ now
  here = sym (append-nil come) ∙ sym same

  -- at an order, where its first side is weighed
  pub order_asked : (a : TermTree ℕ) (n : ℕ) → ((w : Weights) → IsContext x y zs w → n ≡ capped (tree_weight w a)) → IsAtOrder at whole most come x y zs a → IsOrder whole now n
  order_asked a n h o = record {
    stands = ap (at_path whole) (sym here) ∙ o.stands;
    nodes = h o.weights o.context ∙ ap capped (sym o.nodes) ∙ ap (λ ks. capped (nodes_before whole ks 1)) here;
  }

  each_before : {C N : Type 0} (w : Weights) (n : ℕ) (bs : Branches C N) → length (weights_before w n bs) ≡ length (weights_of bs)
  each_before w n no_branch = refl
  each_before w n (branch v t bs) = ap suc (each_before w (n + tree_weight w t) bs)

  before_at : {C N : Type 0} (w : Weights) (n : ℕ) (bs : Branches C N) (k : ℕ) → k < length (weights_of bs) → get_or (weights_before w n bs) k 0 ≡ capped (n + first_weight w bs k)
  before_at w n no_branch k l = absurd (omega (arith, l))
  before_at w n (branch v t bs) zero l = let e : n ≡ n + 0 = omega arith in ap capped e
  before_at w n (branch v t bs) (suc k) l =
      let e : n + tree_weight w t + first_weight w bs k ≡ n + (tree_weight w t + first_weight w bs k) = omega arith in
      before_at w (n + tree_weight w t) bs k (omega (arith, l)) ∙ ap capped e

  -- at a choice by weight, where its parts are weighed
  pub choice_asked : (scope ls : Lasts) (bs : Branches ℕ (Process ℕ)) (ws : List (Weight ℕ)) (ns : List ℕ) → ls ≡ scope → ws ≡ weights_of bs → ((w : Weights) → IsContext x y zs w → ns ≡ weights_before w 0 bs) → IsAtChoice at whole most come scope x y zs bs → IsChoice whole now ls ws ns
  choice_asked scope ls bs ws ns d e h o = record {
    stands = ap (at_path whole) (sym here) ∙ o.stands ∙ (λ i. at_weighted (sym d i) (sym e i));
    each = ap length (h o.weights o.context) ∙ each_before o.weights 0 bs ∙ ap length (sym e);
    nodes = λ k l.
        let m : k < length (weights_of bs) = (let s = ap length e in omega (arith, l, s)) in
        let z : 0 + first_weight o.weights bs k ≡ first_weight o.weights bs k = omega arith in
        ap (λ xs. get_or xs k 0) (h o.weights o.context) ∙ before_at o.weights 0 bs k m ∙ ap capped (z ∙ sym (o.nodes k m)) ∙ ap (λ ks. capped (nodes_before whole ks k)) here;
  }

-- of one more turn of a counted loop, and its end
pub turn_before : (w : Weights) (x y : Weight ℕ) (t : TermTree ℕ) (n : ℕ) → n ≡ capped (tree_weight w t) → 0 ∷ (n ∷ []) ≡ weights_before w 0 (branch x t (branch y (leaf vanish) no_branch))
turn_before w x y t n e = let z : tree_weight w t ≡ 0 + tree_weight w t = omega arith in ap (λ m. 0 ∷ (m ∷ [])) (e ∙ ap capped z)

-- a walk that holds the same
pub still_held : (left : List ℕ) (v w : Walk) → v.constraints ≡ w.constraints → v.lasts ≡ w.lasts → v.scope ≡ w.scope → v.weights.items ≡ w.weights.items → held left v ≡ held left w
still_held left v w a b c d = λ i. record { rest = left; constraints = (a i).items; lasts = (b i).items; scope = (c i).items; weights = map weight (d i) }

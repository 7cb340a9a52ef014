-- A walk that sets out from the root.
use Rattle.std.proofs.Common.{◌≡◌, ◌++◌, ℕ, zero, suc, List, [], ◌∷◌, All, refl, ap, sym, ◌∙◌, arith}
use Rattle.lt_tree_size.proofs.Public.{nodes_are_size}
use Rattle.lt_term.specs.Offers.{TermTree}
use Rattle.lt_term.specs.Process.{Process}
use Rattle.lt_term.specs.Size.{each_one}
use Rattle.lt_term.specs.Tree.{Lasts, Branches, no_branch, branch, leaf, vanish, nothing, raised, go, ordered, weighted}
use Rattle.lt_marks.specs.Path.{at_path, at_weighted}
use Rattle.lt_walk.specs.Before.{nodes_before, nodes_before_in, nodes_of_first}
use Rattle.lt_walk.specs.inner.Spot as s
use Rattle.lt_walk.specs.inner.Spot.{at_choice, first_weight, spot, spot_in}
use Rattle.lt_walk.specs.inner.Underway.{IsUnderway}
use Rattle.lt_walk.proofs.Contexts.{context_root}

first_nodes : (bs : Branches ℕ (Process ℕ)) (k : ℕ) → nodes_of_first bs k ≡ first_weight each_one bs k
first_nodes no_branch k = refl
first_nodes (branch w t bs) zero = refl
first_nodes (branch w t bs) (suc k) = let h = nodes_are_size t in let i = first_nodes bs k in omega (arith, h, i)

-- the number of a choice
abbrev number : s.Spot → ℕ
number (at_choice n) = n
number s = 0

mutual
  nodes_are : (t : TermTree ℕ) (ks : List ℕ) (k : ℕ) → nodes_before t ks k ≡ number (spot each_one k t ks)
  nodes_are (leaf vanish) ks k = refl
  nodes_are (leaf nothing) ks k = refl
  nodes_are (leaf (raised z)) ks k = refl
  nodes_are (leaf (go cs ls n)) ks k = refl
  nodes_are (ordered a b) [] zero = refl
  nodes_are (ordered a b) [] (suc k) = sym (nodes_are_size a)
  nodes_are (ordered a b) (zero ∷ ks) k = nodes_are a ks k
  nodes_are (ordered a b) (suc i ∷ ks) k = nodes_are b ks k
  nodes_are (weighted ls bs) [] k = first_nodes bs k
  nodes_are (weighted ls bs) (i ∷ ks) k = nodes_are_in bs i ks k

  nodes_are_in : (bs : Branches ℕ (Process ℕ)) (i : ℕ) (ks : List ℕ) (k : ℕ) → nodes_before_in bs i ks k ≡ number (spot_in each_one k bs i ks)
  nodes_are_in no_branch i ks k = refl
  nodes_are_in (branch w t bs) zero ks k = nodes_are t ks k
  nodes_are_in (branch w t bs) (suc i) ks k = nodes_are_in bs i ks k

pub at_root : (at : TermTree ℕ → ℕ → Type 0) (t : TermTree ℕ) (most : ℕ) (come : List ℕ) (scope : Lasts) (zs : List ℕ) → come ≡ [] → scope ≡ [] → All (λ n. n ≡ 1) zs → at t most → IsUnderway at t most come scope 1 1 zs t
at_root at t most come scope zs c s o h = record {
  weights = each_one;
  context = context_root zs o;
  part = record {
    orders = λ ks e. ap (λ js. at_path t (js ++ ks)) c ∙ e;
    weights = λ ks ls ws e. ap (λ js. at_path t (js ++ ks)) c ∙ e ∙ ap (λ ms. at_weighted (ms ++ ls) ws) (sym s);
    counts = λ ks k n e. ap (λ js. nodes_before t (js ++ ks) k) c ∙ nodes_are t ks k ∙ ap number e;
  };
  holds = h;
}

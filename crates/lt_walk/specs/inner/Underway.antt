-- Walks that are under way in a part of a tree.
use Rattle.std.specs.Prelude.{◌≡◌, ◌<◌, ℕ, List, ◌++◌, length}
use Rattle.lt_term.specs.Offers.{TermTree}
use Rattle.lt_term.specs.Process.{Process}
use Rattle.lt_term.specs.Size.{Weights, tree_weight}
use Rattle.lt_term.specs.Tree.{Lasts, Weight, Branches, weights_of}
use Rattle.lt_walk.specs.Asked.{IsOpen}
use Rattle.lt_walk.specs.Before.{nodes_before}
use Rattle.lt_walk.specs.inner.Context.{IsContext}
use Rattle.lt_walk.specs.inner.Spot.{at_choice, first_weight, spot}
use Rattle.lt_marks.specs.Path.{at_ordered, at_weighted, at_path}
use Rattle.lt_marks.specs.Walk.{Follows, held}
use Rattle.lt_marks.specs.declared.walk.Reached.{Reached}
use Rattle.lt_marks.specs.declared.walk.Walk.{Walk}

-- A choice that stands in a part of a tree stands in the whole tree, behind these choices and with these locals in scope; and of its
-- parts as many nodes stand there as they weigh in the part.
pub record IsPartAt (whole : TermTree ℕ) (come : List ℕ) (scope : Lasts) (w : Weights) (u : TermTree ℕ) : Type 0 where
  pub orders : (ks : List ℕ) → at_path u ks ≡ at_ordered → at_path whole (come ++ ks) ≡ at_ordered
  pub weights : (ks : List ℕ) (ls : Lasts) (ws : List (Weight ℕ)) → at_path u ks ≡ at_weighted ls ws →
      at_path whole (come ++ ks) ≡ at_weighted (scope ++ ls) ws
  pub counts : (ks : List ℕ) (k n : ℕ) → spot w k u ks ≡ at_choice n → nodes_before whole (come ++ ks) k ≡ n

-- A walk is under way in a part, of whose leaves this is known, where its chooser holds something of the whole tree and of how much
-- there is left.
pub record IsUnderway (at : TermTree ℕ → ℕ → Type 0) (whole : TermTree ℕ) (most : ℕ) (come : List ℕ) (scope : Lasts)
    (x y : ℕ) (zs : List ℕ) (u : TermTree ℕ) : Type 0 where
  pub weights : Weights
  pub context : IsContext x y zs weights
  pub part : IsPartAt whole come scope weights u
  pub holds : at whole most

-- a walk has come to a choice between two trees, of which this is the first
pub record IsAtOrder (at : TermTree ℕ → ℕ → Type 0) (whole : TermTree ℕ) (most : ℕ) (come : List ℕ) (x y : ℕ) (zs : List ℕ)
    (first : TermTree ℕ) : Type 0 where
  pub weights : Weights
  pub context : IsContext x y zs weights
  pub stands : at_path whole come ≡ at_ordered
  pub nodes : nodes_before whole come 1 ≡ tree_weight weights first
  pub holds : at whole most

-- a walk has come to a choice among these trees
pub record IsAtChoice (at : TermTree ℕ → ℕ → Type 0) (whole : TermTree ℕ) (most : ℕ) (come : List ℕ) (scope : Lasts)
    (x y : ℕ) (zs : List ℕ) (bs : Branches ℕ (Process ℕ)) : Type 0 where
  pub weights : Weights
  pub context : IsContext x y zs weights
  pub stands : at_path whole come ≡ at_weighted scope (weights_of bs)
  pub nodes : (k : ℕ) → k < length (weights_of bs) → nodes_before whole come k ≡ first_weight weights bs k
  pub holds : at whole most

-- a walk in a tree: the choices that it has taken, whatever may come behind them
pub record Walks (t : TermTree ℕ) (come : List ℕ) (before : Walk) (r : Reached) (now : List ℕ) (after : Walk) (n : Process ℕ) : Type 0 where
  pub taken : List ℕ
  pub comes : now ≡ come ++ taken
  pub follows : (ks : List ℕ) → IsOpen r ks → Follows t (held (taken ++ ks) before) r (held ks after) n

-- How many nodes stand before a part of a choice.
use Rattle.std.specs.Prelude.{ℕ, zero, suc, ◌+◌, List, [], ◌∷◌}
use Rattle.lt_term.specs.Offers.{TermTree}
use Rattle.lt_term.specs.Process.{Process}
use Rattle.lt_term.specs.Tree.{leaf, ordered, weighted, Branches, no_branch, branch, size}

-- how many nodes stand in so many trees to choose from, from the first one on
abbrev pub nodes_of_first : Branches ℕ (Process ℕ) → ℕ → ℕ
nodes_of_first no_branch k = 0
nodes_of_first (branch w a bs) zero = 0
nodes_of_first (branch w a bs) (suc k) = size a + nodes_of_first bs k

-- how many nodes stand in so many parts of the choice at a path
abbrev mutual
  pub nodes_before : TermTree ℕ → List ℕ → ℕ → ℕ
  nodes_before (leaf m) ks k = 0
  nodes_before (ordered a b) [] zero = 0
  nodes_before (ordered a b) [] (suc k) = size a
  nodes_before (ordered a b) (zero ∷ ks) k = nodes_before a ks k
  nodes_before (ordered a b) (suc i ∷ ks) k = nodes_before b ks k
  nodes_before (weighted ls bs) [] k = nodes_of_first bs k
  nodes_before (weighted ls bs) (i ∷ ks) k = nodes_before_in bs i ks k

  pub nodes_before_in : Branches ℕ (Process ℕ) → ℕ → List ℕ → ℕ → ℕ
  nodes_before_in no_branch i ks k = 0
  nodes_before_in (branch w a bs) zero ks k = nodes_before a ks k
  nodes_before_in (branch w a bs) (suc i) ks k = nodes_before_in bs i ks k

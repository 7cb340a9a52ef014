-- What stands at a path.
use Rattle.std.specs.Prelude.{ℕ, zero, suc, ◌+◌, List, [], ◌∷◌}
use Rattle.lt_term.specs.Size.{Weights, capped, tree_weight}
use Rattle.lt_term.specs.Tree.{Leaf, vanish, nothing, raised, go, Tree, leaf, ordered, weighted, Branches, no_branch, branch}

-- what stands at a path: a leaf, with the choices of the path that are left; or a choice
pub data Spot : Type 0 where
  at_vanish : List ℕ → Spot
  at_nothing : List ℕ → Spot
  at_raised : ℕ → List ℕ → Spot
  at_go : List ℕ → Spot
  -- what the first parts of the choice weigh, so many as are asked for
  at_choice : ℕ → Spot

-- a leaf, with these choices left
abbrev pub at_leaf : {C N : Type 0} → Leaf C N → List ℕ → Spot
at_leaf vanish ks = at_vanish ks
at_leaf nothing ks = at_nothing ks
at_leaf (raised z) ks = at_raised z ks
at_leaf (go cs ls n) ks = at_go ks

-- what stands of two trees before a part weighs so much: nothing before the first, which is this, and the first before the second
abbrev pub first_side : {C N : Type 0} → Weights → Tree C N → ℕ → ℕ
first_side w a zero = 0
first_side w a (suc k) = tree_weight w a

-- what so many trees to choose from weigh, from the first one on
abbrev pub first_weight : {C N : Type 0} → Weights → Branches C N → ℕ → ℕ
first_weight w no_branch k = 0
first_weight w (branch x t bs) zero = 0
first_weight w (branch x t bs) (suc k) = tree_weight w t + first_weight w bs k

-- what stands before each of some trees to choose from weighs, behind so much; it is known up to 65,537
abbrev pub weights_before : {C N : Type 0} → Weights → ℕ → Branches C N → List ℕ
weights_before w n no_branch = []
weights_before w n (branch x t bs) = capped n ∷ weights_before w (n + tree_weight w t) bs

-- what stands at a path in a tree, where so many parts of a choice are asked for
abbrev mutual
  pub spot : {C N : Type 0} → Weights → ℕ → Tree C N → List ℕ → Spot
  spot w k (leaf l) ks = at_leaf l ks
  spot w k (ordered a b) [] = at_choice (first_side w a k)
  spot w k (ordered a b) (zero ∷ ks) = spot w k a ks
  spot w k (ordered a b) (suc i ∷ ks) = spot w k b ks
  spot w k (weighted ls bs) [] = at_choice (first_weight w bs k)
  spot w k (weighted ls bs) (i ∷ ks) = spot_in w k bs i ks

  pub spot_in : {C N : Type 0} → Weights → ℕ → Branches C N → ℕ → List ℕ → Spot
  spot_in w k no_branch i ks = at_nothing ks
  spot_in w k (branch x t bs) zero ks = spot w k t ks
  spot_in w k (branch x t bs) (suc i) ks = spot_in w k bs i ks

-- Counted loops turn at most once in an instant.
use Rattle.std.specs.Prelude.{◌≤◌, ℕ, suc, List, All}
use Rattle.lt_num.specs.declared.kind.Kind.{Kind}
use Rattle.lt_term.specs.Counted.{IsDoneTo}
use Rattle.lt_term.specs.Offers.{offers_of}
use Rattle.lt_term.specs.Process.{Process}
use Rattle.lt_term.specs.Tree.{vanish, nothing, raised, go, Node, leaf_node, ordered_node, weighted_node, flattened}

-- what comes next after a node has no more turns done than so many
abbrev pub NextIsDoneTo : {C : Type 0} → ℕ → Node C (Process C) → Type 0
NextIsDoneTo k (leaf_node (go cs ls n)) = IsDoneTo k n
NextIsDoneTo k (leaf_node vanish) = Unit {0}
NextIsDoneTo k (leaf_node nothing) = Unit {0}
NextIsDoneTo k (leaf_node (raised z)) = Unit {0}
NextIsDoneTo k ordered_node = Unit {0}
NextIsDoneTo k (weighted_node ls ws) = Unit {0}

-- Of what a term offers, what comes next has at most one more turn done.
abbrev pub TurnsGrowByOne : Type 0
TurnsGrowByOne = (k : ℕ) (kinds : List Kind) (p : Process ℕ) → IsDoneTo k p → All (NextIsDoneTo (suc k)) (flattened (offers_of kinds p))

-- No more turns than some are no more than a greater number of them.
abbrev pub FewTurnsAreFew : Type 0
FewTurnsAreFew = (k m : ℕ) (p : Process ℕ) → k ≤ m → IsDoneTo k p → IsDoneTo m p

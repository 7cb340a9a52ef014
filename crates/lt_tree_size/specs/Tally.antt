-- How many nodes and leaves the trees of terms have, from those of the trees of their parts.
use Rattle.std.specs.Prelude.{◌≡◌, ℕ, ◌+◌, ◌-◌, ◌*◌, nat_eq, if◌then◌else◌, List}
use Rattle.lt_num.specs.declared.value.Value.{Value}
use Rattle.lt_term.specs.declared.last.Last.{Last}
use Rattle.lt_term.specs.Offers.{TermTree, in_seq, in_par, joined, in_assert, in_exist, in_catch, in_try}
use Rattle.lt_term.specs.Process.{Process}
use Rattle.lt_term.specs.Size.{Weights, each_one, tree_weight}
use Rattle.lt_term.specs.Tree.{Lasts, Tree, with_leaves, with_local, size}

-- the leaves of one kind weigh 1, and all else nothing
abbrev pub just_vanish : Weights
just_vanish = record { other = 0; vanish = 1; go = 0; raise = λ z. 0 }

abbrev pub just_go : Weights
just_go = record { other = 0; vanish = 0; go = 1; raise = λ z. 0 }

abbrev pub just_raise : ℕ → Weights
just_raise z = record { other = 0; vanish = 0; go = 0; raise = λ y. if nat_eq y z then 1 else 0 }

-- the nodes of a tree, its leaves that vanish, that go on, and that raise an exception
abbrev pub nodes : {C N : Type 0} → Tree C N → ℕ
nodes t = tree_weight each_one t

abbrev pub vanishes : {C N : Type 0} → Tree C N → ℕ
vanishes t = tree_weight just_vanish t

abbrev pub goes : {C N : Type 0} → Tree C N → ℕ
goes t = tree_weight just_go t

abbrev pub raises : {C N : Type 0} → ℕ → Tree C N → ℕ
raises z t = tree_weight (just_raise z) t

-- The nodes that are counted are those of the tree.
abbrev pub NodesAreSize : Type 0
NodesAreSize = (t : TermTree ℕ) → nodes t ≡ size t

-- these are the numbers of a tree
pub record Counts (t : TermTree ℕ) (n v g : ℕ) (r : ℕ → ℕ) : Type 0 where
  pub nodes_are : nodes t ≡ n
  pub vanishes_are : vanishes t ≡ v
  pub goes_are : goes t ≡ g
  pub raises_are : (z : ℕ) → raises z t ≡ r z

-- a second part in place of each leaf that vanishes; of `leaf nothing` this is a turn of a loop
abbrev pub SeqRow : Type 0
SeqRow = (b : Process ℕ) (u t : TermTree ℕ) →
    Counts (with_leaves (in_seq b u) t) (nodes t + vanishes t * (nodes u - 1))
    (vanishes t * vanishes u) (goes t + vanishes t * goes u)
    (λ z. raises z t + vanishes t * raises z u)

-- a second side in place of each leaf that vanishes or goes on; beside one that goes on, a leaf that
-- vanishes goes on too
abbrev pub ParRow : Type 0
ParRow = (u t : TermTree ℕ) →
    Counts (with_leaves (in_par u) t) (nodes t + (vanishes t + goes t) * (nodes u - 1))
    (vanishes t * vanishes u) (vanishes t * goes u + goes t * (vanishes u + goes u))
    (λ z. raises z t + (vanishes t + goes t) * raises z u)

-- a constraint changes no number
abbrev pub AssertRow : Type 0
AssertRow = (c : ℕ) (t : TermTree ℕ) →
    Counts (with_leaves (in_assert c) t) (nodes t) (vanishes t) (goes t) (λ z. raises z t)

-- nor does a local
abbrev pub ExistRow : Type 0
ExistRow = (start : Value) (x : ℕ) (v : Last) (t : TermTree ℕ) →
    Counts (with_leaves (in_exist start x v) (with_local (x, v) t))
    (nodes t) (vanishes t) (goes t) (λ z. raises z t)

-- a handler in place of each leaf that raises its exception
abbrev pub CatchRow : Type 0
CatchRow = (z : ℕ) (h : Process ℕ) (u t : TermTree ℕ) →
    Counts (with_leaves (in_catch z h u) t) (nodes t + raises z t * (nodes u - 1))
    (vanishes t + raises z t * vanishes u) (goes t + raises z t * goes u)
    (λ y. (if nat_eq y z then 0 else raises y t) + raises z t * raises y u)

-- nor does another term for where nothing can be done
abbrev pub TryRow : Type 0
TryRow = (h : Process ℕ) (t : TermTree ℕ) →
    Counts (with_leaves (in_try h) t) (nodes t) (vanishes t) (goes t) (λ z. raises z t)

-- the tree of a second side beside one instant of the first
abbrev pub beside_instant : List ℕ → Lasts → Process ℕ → TermTree ℕ → TermTree ℕ
beside_instant cs ls n u = with_leaves (joined cs ls n) u

-- beside an instant, what vanishes goes on too
abbrev pub InstantRow : Type 0
InstantRow = (cs : List ℕ) (ls : Lasts) (n : Process ℕ) (u : TermTree ℕ) →
    Counts (beside_instant cs ls n u) (nodes u) 0 (vanishes u + goes u) (λ z. raises z u)

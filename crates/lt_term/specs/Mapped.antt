-- Trees with other constraints, and trees whose numbers pass a test.
use Rattle.std.specs.Prelude.{Bool, true, ◌&&◌, map}
use Rattle.std.specs.List.{list_all}
use Rattle.lt_term.specs.Process.{Process, with_constraints}
use Rattle.lt_term.specs.Tree.{Lasts, Leaf, vanish, nothing, raised, go, Weight, expression, more, stop, Node, leaf_node, ordered_node, weighted_node}
use Rattle.lt_term.specs.Within.{Tests, passes}

-- a leaf with f of each constraint, and with g of what comes next
abbrev pub leaf_mapped : {C D N M : Type 0} → (C → D) → (N → M) → Leaf C N → Leaf D M
leaf_mapped f g vanish = vanish
leaf_mapped f g nothing = nothing
leaf_mapped f g (raised z) = raised z
leaf_mapped f g (go cs ls n) = go (map f cs) ls (g n)

-- a weight with f of its expression
abbrev pub weight_mapped : {C D : Type 0} → (C → D) → Weight C → Weight D
weight_mapped f (expression c) = expression (f c)
weight_mapped f (more i done) = more i done
weight_mapped f (stop i done) = stop i done

-- a node with f of each constraint, and with g of what comes next
abbrev pub node_mapped : {C D N M : Type 0} → (C → D) → (N → M) → Node C N → Node D M
node_mapped f g (leaf_node l) = leaf_node (leaf_mapped f g l)
node_mapped f g ordered_node = ordered_node
node_mapped f g (weighted_node ls ws) = weighted_node ls (map (weight_mapped f) ws)

-- a node of a term's tree with other constraints
abbrev pub node_with_constraints : {C D : Type 0} → (C → D) → Node C (Process C) → Node D (Process D)
node_with_constraints f n = node_mapped f (with_constraints f) n

-- whether the numbers of locals pass
abbrev pub lasts_pass : {C : Type 0} → Tests C → Lasts → Bool
lasts_pass tests ls = list_all (λ l. tests.local l.0) ls

-- whether the numbers of a leaf pass, and what comes next does
abbrev pub leaf_passes : {C N : Type 0} → Tests C → (N → Bool) → Leaf C N → Bool
leaf_passes tests next vanish = true
leaf_passes tests next nothing = true
leaf_passes tests next (raised z) = tests.exception z
leaf_passes tests next (go cs ls n) = list_all tests.constraint cs && (lasts_pass tests ls && next n)

-- whether those of a weight do
abbrev pub weight_passes : {C : Type 0} → Tests C → Weight C → Bool
weight_passes tests (expression c) = tests.constraint c
weight_passes tests (more i done) = tests.counter i
weight_passes tests (stop i done) = tests.counter i

-- whether those of a node do, and what comes next does
abbrev pub node_and_next_pass : {C N : Type 0} → Tests C → (N → Bool) → Node C N → Bool
node_and_next_pass tests next (leaf_node l) = leaf_passes tests next l
node_and_next_pass tests next ordered_node = true
node_and_next_pass tests next (weighted_node ls ws) = lasts_pass tests ls && list_all (weight_passes tests) ws

-- whether the numbers of a node of a term's tree pass
abbrev pub node_passes : {C : Type 0} → Tests C → Node C (Process C) → Bool
node_passes tests n = node_and_next_pass tests (passes tests) n

-- What is seen of the nodes of a tree.
use Rattle.std.specs.Prelude.{ℕ, nat_lt, Bool, true, false, List, [], ◌∷◌, length, map, replicate, Ok, Err}
use Rattle.std.specs.declared.result.Result.{Result}
use Rattle.lt_num.specs.declared.fault.Arith.{Arith}
use Rattle.lt_term.specs.Evaluated.{Outlook, Worth, faulty, outlook}
use Rattle.lt_term.specs.Tree as t
use Rattle.lt_term.specs.Tree.{Leaf, go, leaf_node, nothing, ordered_node, raised, vanish, weighted_node}
use Rattle.lt_legal.specs.Nodes.{Node, choice, order, spoilt, tip}
use Rattle.lt_marks_laws.specs.Valued.{worths}

-- whether a weight is positive
abbrev pub positive : ℕ → Bool
positive w = nat_lt 0 w

-- how the nodes of a tree are seen: which leaves pass, whether a choice with a fault does, and whether priorities are kept
pub record Sight (C N : Type 0) : Type 0 where
  pub passes : Leaf C N → Bool
  pub fails : Arith → Bool
  pub keeps_order : Bool

-- by what a test says of leaves
abbrev pub test_sight : {C F N : Type 0} → Worth C F → (Outlook F N → Bool) → Sight C N
test_sight worth test = record { passes = λ l. test (outlook worth l); fails = λ f. test (faulty f); keeps_order = true }

-- whether a leaf is an instant
abbrev pub is_instant : {C N : Type 0} → Leaf C N → Bool
is_instant (go cs ls n) = true
is_instant vanish = false
is_instant nothing = false
is_instant (raised z) = false

-- by whether a leaf is an instant, where no priority is kept
abbrev pub loose_sight : {C N : Type 0} → Sight C N
loose_sight = record { passes = λ l. is_instant l; fails = λ f. false; keeps_order = false }

-- a choice with these weights, of so many parts
abbrev pub choice_seen : (Arith → Bool) → Result (List ℕ) Arith → ℕ → Node
choice_seen fails (Ok ws) count = choice (map positive ws)
choice_seen fails (Err fault) count = spoilt (fails fault) (replicate count false)

-- an order
abbrev pub order_seen : Bool → Node
order_seen true = order
order_seen false = choice (true ∷ true ∷ [])

-- a node
abbrev pub node_by : {C F N : Type 0} → Worth C F → Sight C N → t.Node C N → Node
node_by worth sight (leaf_node l) = tip (sight.passes l)
node_by worth sight ordered_node = order_seen sight.keeps_order
node_by worth sight (weighted_node ls ws) = choice_seen sight.fails (worths worth.weight ls ws) (length ws)

-- by what a test says of leaves
abbrev pub node_seen : {C F N : Type 0} → Worth C F → (Outlook F N → Bool) → t.Node C N → Node
node_seen worth test n = node_by worth (test_sight worth test) n

-- where no priority is kept
abbrev pub loose_node : {C F N : Type 0} → Worth C F → t.Node C N → Node
loose_node worth n = node_by worth loose_sight n

-- Trees whose constraints and weights are evaluated.
use Rattle.std.specs.Prelude.{ℕ, ◌+◌, List, Ok, Err, length}
use Rattle.std.specs.declared.result.Result.{Result}
use Rattle.lt_num.specs.declared.fault.Arith.{Arith}
use Rattle.lt_term.specs.Tree as t
use Rattle.lt_term.specs.Tree.{Lasts, Leaf, Weight, Tree, Branches, flattened_each}

-- What can be done in one instant, with a formula F in place of constraints and with N for what comes next.
pub data Outlook (F N : Type 0) : Type 0 where
  -- the term is over, and takes no instant
  vanish : Outlook F N
  -- nothing
  nothing : Outlook F N
  -- it raises an exception
  raised : ℕ → Outlook F N
  -- constraints or weights have this fault
  faulty : Arith → Outlook F N
  -- one instant in which a formula holds, the locals in scope, and what comes next
  go : F → Lasts → N → Outlook F N

mutual
  -- a tree with evaluated leaves and weights
  pub data Evaluated (F N : Type 0) : Type 0 where
    leaf : Outlook F N → Evaluated F N
    -- the left tree, or the right one where nothing can be done in the left one
    ordered : Evaluated F N → Evaluated F N → Evaluated F N
    -- one of these, drawn by weight
    weighted : Parts F N → Evaluated F N
    -- a choice with a fault in a weight: it is one leaf, but so many nodes below it keep their positions
    spoilt : Arith → ℕ → Evaluated F N

  -- trees to choose from, each with its weight
  pub data Parts (F N : Type 0) : Type 0 where
    no_part : Parts F N
    part : ℕ → Evaluated F N → Parts F N → Parts F N

-- how many nodes a tree has
abbrev mutual
  pub node_count : {F N : Type 0} → Evaluated F N → ℕ
  node_count (leaf l) = 1
  node_count (ordered a b) = 1 + node_count a + node_count b
  node_count (weighted ps) = 1 + node_count_of_each ps
  node_count (spoilt fault below) = 1 + below

  pub node_count_of_each : {F N : Type 0} → Parts F N → ℕ
  node_count_of_each no_part = 0
  node_count_of_each (part w t ps) = node_count t + node_count_of_each ps

-- What constraints and weights are worth where these locals are in scope: a formula and a number, or the first fault.
pub record Worth (C F : Type 0) : Type 0 where
  pub formula : Lasts → List C → Result F Arith
  pub weight : Lasts → Weight C → Result ℕ Arith

-- an instant whose constraints are worth this
abbrev pub going : {F N : Type 0} → Result F Arith → Lasts → N → Outlook F N
going (Ok f) ls n = go f ls n
going (Err fault) ls n = faulty fault

-- a leaf, evaluated
abbrev pub outlook : {C F N : Type 0} → Worth C F → Leaf C N → Outlook F N
outlook worth t.vanish = vanish
outlook worth t.nothing = nothing
outlook worth (t.raised z) = raised z
outlook worth (t.go cs ls n) = going (worth.formula ls cs) ls n

-- one more part of a choice: its weight, its tree, and the parts after it, where none of these weights has a fault
abbrev pub with_part : {F N : Type 0} → Result ℕ Arith → Evaluated F N → Result (Parts F N) Arith → Result (Parts F N) Arith
with_part (Ok w) t (Ok ps) = Ok (part w t ps)
with_part (Ok w) t (Err fault) = Err fault
with_part (Err fault) t ps = Err fault

-- a choice of these parts, or the first fault of a weight; so many nodes stand below it
abbrev pub chosen_among : {F N : Type 0} → Result (Parts F N) Arith → ℕ → Evaluated F N
chosen_among (Ok ps) below = weighted ps
chosen_among (Err fault) below = spoilt fault below

-- a tree, evaluated
abbrev mutual
  pub evaluated : {C F N : Type 0} → Worth C F → Tree C N → Evaluated F N
  evaluated worth (t.leaf l) = leaf (outlook worth l)
  evaluated worth (t.ordered a b) = ordered (evaluated worth a) (evaluated worth b)
  evaluated worth (t.weighted ls bs) = chosen_among (evaluated_parts worth ls bs) (length (flattened_each bs))

  -- the parts of a choice with these locals in scope of its weights, or the first fault of a weight
  pub evaluated_parts : {C F N : Type 0} → Worth C F → Lasts → Branches C N → Result (Parts F N) Arith
  evaluated_parts worth ls t.no_branch = Ok no_part
  evaluated_parts worth ls (t.branch w a bs) = with_part (worth.weight ls w) (evaluated worth a) (evaluated_parts worth ls bs)

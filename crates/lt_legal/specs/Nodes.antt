-- What each tree of a preorder has.
use Rattle.std.specs.Prelude.{ℕ, ◌+◌, ◌-◌, ◌^◌, min, Bool, false, ◌&&◌, ◌||◌, List, [], ◌∷◌, ◌++◌, slice_index_or, if◌then◌else◌}
use Rattle.lt_legal.specs.declared.found.Found.{Found}

-- a node
pub data Node : Type 0 where
  tip : Bool → Node
  order : Node
  choice : List Bool → Node
  spoilt : Bool → List Bool → Node

-- a tree, by what a test says of its leaves, and the parts of a choice
mutual
  pub data Shape : Type 0 where
    leaf : Bool → Shape
    ordered : Shape → Shape → Shape
    weighted : Parts → Shape
    faulty : Bool → Parts → Shape

  pub data Parts : Type 0 where
    no_part : Parts
    part : Bool → Shape → Parts → Parts

-- whether a leaf passes that can be reached
abbrev mutual
  pub has : Shape → Bool
  has (leaf b) = b
  has (ordered a b) = has a || has b
  has (weighted ps) = has_in ps
  has (faulty b ps) = b

  pub has_in : Parts → Bool
  has_in no_part = false
  has_in (part w t ps) = (w && has t) || has_in ps

-- how many nodes there are
abbrev mutual
  pub count : Shape → ℕ
  count (leaf b) = 1
  count (ordered a b) = 1 + count a + count b
  count (weighted ps) = 1 + count_in ps
  count (faulty b ps) = 1 + count_in ps

  pub count_in : Parts → ℕ
  count_in no_part = 0
  count_in (part w t ps) = count t + count_in ps

abbrev pub weights : Parts → List Bool
weights no_part = []
weights (part w t ps) = w ∷ weights ps

-- the nodes in preorder, and then these
abbrev mutual
  pub flat : Shape → List Node → List Node
  flat (leaf b) ns = tip b ∷ ns
  flat (ordered a b) ns = order ∷ flat a (flat b ns)
  flat (weighted ps) ns = choice (weights ps) ∷ flat_in ps ns
  flat (faulty b ps) ns = spoilt b (weights ps) ∷ flat_in ps ns

  pub flat_in : Parts → List Node → List Node
  flat_in no_part ns = ns
  flat_in (part w t ps) ns = flat t (flat_in ps ns)

-- what is so far behind
abbrev pub found_at : List Found → ℕ → Found
found_at hs k = slice_index_or hs k (record { has = false; size = 0 })

-- a sum, up to the greatest number of 32 bits
abbrev pub plus : ℕ → ℕ → ℕ
plus m n = min (m + n) (2 ^ 32 - 1)

-- what parts have, one after another, behind these
abbrev pub along : List Bool → List Found → Found → Found
along [] hs acc = acc
along (w ∷ ws) hs acc =
    along ws hs (record {
      has = acc.has || (w && (found_at hs acc.size).has);
      size = plus acc.size (found_at hs acc.size).size;
    })

abbrev pub whole : Bool → Found → Found
whole b f = record { has = b; size = plus 1 f.size }

-- what a tree has, by what those have whose nodes follow
abbrev pub found_of : Node → List Found → Found
found_of (tip b) hs = record { has = b; size = 1 }
found_of order hs =
    record {
      has = (found_at hs 0).has || (found_at hs (found_at hs 0).size).has;
      size = plus (plus 1 (found_at hs 0).size) (found_at hs (found_at hs 0).size).size;
    }
found_of (choice ws) hs =
    whole
    (along ws hs (record { has = false; size = 0 })).has
    (along ws hs (record { has = false; size = 0 }))
found_of (spoilt b ws) hs = whole b (along ws hs (record { has = false; size = 0 }))

-- the table of nodes
abbrev pub run : List Node → List Found
run [] = []
run (n ∷ ns) = found_of n (run ns) ∷ run ns

-- a leaf that passes is put down
abbrev pub put_of : Bool → ℕ → List ℕ
put_of b n = if b then n ∷ [] else []

-- the parts of positive weight, by number
abbrev pub children : List Bool → ℕ → List Found → List ℕ
children [] at hs = []
children (w ∷ ws) at hs = put_of w at ++ children ws (plus at (found_at hs at).size) hs

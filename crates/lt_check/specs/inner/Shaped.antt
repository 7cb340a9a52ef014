-- The shapes of trees, by what is seen of their nodes.
use Rattle.std.specs.Prelude.{ℕ, ◌-◌, nat_eq, nat_lt, Bool, true, false, if◌then◌else◌, List, [], ◌∷◌, length, Ok, Err}
use Rattle.std.specs.declared.result.Result.{Result}
use Rattle.lt_num.specs.declared.fault.Arith.{Arith}
use Rattle.lt_term.specs.Evaluated.{Outlook, Worth}
use Rattle.lt_term.specs.Tree as t
use Rattle.lt_term.specs.Tree.{Branches, Leaf, Tree, no_branch, branch, flattened, weights_of}
use Rattle.lt_legal.specs.Nodes.{Parts, Shape, faulty as faulty_shape, leaf, no_part, ordered, part, weighted}
use Rattle.lt_marks_laws.specs.Valued.{worths}
use Rattle.lt_check.specs.inner.Seen.{Sight, loose_sight, positive, test_sight}

-- a choice of these parts, by what its weights are worth: their parts are given by what each weight is worth
abbrev pub choice_shape : (Arith → Bool) → Result (List ℕ) Arith → (List ℕ → Parts) → Shape
choice_shape fails (Ok ws) parts = weighted (parts ws)
choice_shape fails (Err fault) parts = faulty_shape (fails fault) (parts [])

-- two trees, of which the left one comes first, or either
abbrev pub two_shapes : Bool → Shape → Shape → Shape
two_shapes true a b = ordered a b
two_shapes false a b = weighted (part true a (part true b no_part))

-- a tree, by how it is seen
abbrev mutual
  pub shape_by : {C F N : Type 0} → Worth C F → Sight C N → Tree C N → Shape
  shape_by worth sight (t.leaf l) = leaf (sight.passes l)
  shape_by worth sight (t.ordered a b) = two_shapes sight.keeps_order (shape_by worth sight a) (shape_by worth sight b)
  shape_by worth sight (t.weighted ls bs) = choice_shape sight.fails (worths worth.weight ls (weights_of bs)) (parts_by worth sight bs)

  pub parts_by : {C F N : Type 0} → Worth C F → Sight C N → Branches C N → List ℕ → Parts
  parts_by worth sight no_branch ws = no_part
  parts_by worth sight (branch w a bs) [] = part false (shape_by worth sight a) (parts_by worth sight bs [])
  parts_by worth sight (branch w a bs) (v ∷ vs) = part (positive v) (shape_by worth sight a) (parts_by worth sight bs vs)

-- by what a test says of its leaves
abbrev pub shape_seen : {C F N : Type 0} → Worth C F → (Outlook F N → Bool) → Tree C N → Shape
shape_seen worth test u = shape_by worth (test_sight worth test) u

-- by whether a leaf is an instant, where no priority is kept
abbrev pub shape_loose : {C F N : Type 0} → Worth C F → Tree C N → Shape
shape_loose worth u = shape_by worth loose_sight u

-- the tree that begins at a number of a tree
abbrev mutual
  pub tree_from : {C N : Type 0} → Tree C N → ℕ → Tree C N
  tree_from (t.leaf l) k = t.leaf l
  tree_from (t.ordered a b) k =
      if nat_eq k 0 then t.ordered a b
      else (if nat_lt (k - 1) (length (flattened a)) then tree_from a (k - 1) else tree_from b (k - 1 - length (flattened a)))
  tree_from (t.weighted ls bs) k = if nat_eq k 0 then t.weighted ls bs else tree_among bs (k - 1)

  pub tree_among : {C N : Type 0} → Branches C N → ℕ → Tree C N
  tree_among no_branch k = t.leaf t.nothing
  tree_among (branch w a bs) k = if nat_lt k (length (flattened a)) then tree_from a k else tree_among bs (k - length (flattened a))

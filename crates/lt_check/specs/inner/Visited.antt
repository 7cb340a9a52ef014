-- What is found in a tree, by what is seen of its leaves and by which trees live.
use Rattle.std.specs.Prelude.{ℕ, ◌+◌, nat_le, Bool, if◌then◌else◌, List, [], ◌∷◌, ◌++◌, length, take, Ok, Err}
use Rattle.std.specs.declared.result.Result.{Result}
use Rattle.lt_num.specs.declared.fault.Arith.{Arith}
use Rattle.lt_term.specs.Evaluated.{Worth}
use Rattle.lt_term.specs.Tree as t
use Rattle.lt_term.specs.Tree.{Branches, Leaf, Tree, branch, no_branch, weights_of}
use Rattle.lt_marks_laws.specs.Valued.{worths}
use Rattle.lt_check.specs.inner.Seen.{Sight, positive}

-- the first of two lists, or the second where there is nothing in the first
abbrev pub first_of : {A : Type 0} → List A → List A → List A
first_of [] ys = ys
first_of (x ∷ xs) ys = x ∷ xs

-- what parts have, by what their weights are worth; nothing where a weight has a fault
abbrev pub of_parts : {A : Type 0} → Result (List ℕ) Arith → (List ℕ → List A) → List A
of_parts (Ok ws) f = f ws
of_parts (Err fault) f = []

-- The leaves of a tree that pass and may be taken, the last ones first: those of the right tree of
-- an order where there are none of the left one, and that doesn't live.
abbrev mutual
  pub leaves_of : {C F N : Type 0} → Worth C F → Sight C N → (Tree C N → Bool) → Tree C N
      → List (Leaf C N)
  leaves_of worth sight lives (t.leaf l) = if sight.passes l then l ∷ [] else []
  leaves_of worth sight lives (t.ordered a b) =
      first_of (leaves_of worth sight lives a)
      (if lives a then [] else leaves_of worth sight lives b)
  leaves_of worth sight lives (t.weighted ls bs) =
      of_parts (worths worth.weight ls (weights_of bs)) (leaves_of_parts worth sight lives bs)

  pub leaves_of_parts : {C F N : Type 0} → Worth C F → Sight C N → (Tree C N → Bool)
      → Branches C N → List ℕ → List (Leaf C N)
  leaves_of_parts worth sight lives no_branch vs = []
  leaves_of_parts worth sight lives (branch w a bs) [] = []
  leaves_of_parts worth sight lives (branch w a bs) (v ∷ vs) =
      leaves_of_parts worth sight lives bs vs
      ++ (if positive v then leaves_of worth sight lives a else [])

-- the trees of positive weight
abbrev pub positive_parts : {C N : Type 0} → Branches C N → List ℕ → List (Tree C N)
positive_parts no_branch vs = []
positive_parts (branch w a bs) [] = []
positive_parts (branch w a bs) (v ∷ vs) =
    (if positive v then a ∷ [] else []) ++ positive_parts bs vs

-- how many tasks it takes at most to visit a tree
abbrev mutual
  pub tree_work : {C N : Type 0} → Tree C N → ℕ
  tree_work (t.leaf l) = 1
  tree_work (t.ordered a b) = 4 + (tree_work a + tree_work b)
  tree_work (t.weighted ls bs) = 1 + parts_work bs

  pub parts_work : {C N : Type 0} → Branches C N → ℕ
  parts_work no_branch = 0
  parts_work (branch w a bs) = tree_work a + parts_work bs

-- What is still to be done with a tree.
pub data Todo (T : Type 0) : Type 0 where
  -- to visit it
  visit : T → Todo T
  -- to visit the second of two trees, if there were no more than so many leaves so far
  right : T → T → ℕ → Todo T
  -- to let go all but the first so many leaves, if it lives
  check : T → ℕ → Todo T

-- all but the first so many are let go
abbrev pub let_go : {A : Type 0} → Bool → ℕ → List A → List A
let_go b n xs = if b then take n xs else xs

-- the leaves behind a task, by which trees live and by the leaves of trees
abbrev pub done_with : {T A : Type 0} → (T → Bool) → (T → List A) → Todo T → List A → List A
done_with lives leaves (visit t) found = found ++ leaves t
done_with lives leaves (right a b n) found =
    if nat_le (length found) n then let_go (lives a) n (found ++ leaves b) else found
done_with lives leaves (check a n) found = let_go (lives a) n found

-- behind some tasks, the last one of which is done first
abbrev pub all_done : {T A : Type 0} → (T → Bool) → (T → List A) → List (Todo T) → List A → List A
all_done lives leaves [] found = found
all_done lives leaves (x ∷ xs) found = done_with lives leaves x (all_done lives leaves xs found)

-- how much work a task is, by how much trees are
abbrev pub todo_work : {T : Type 0} → (T → ℕ) → Todo T → ℕ
todo_work work (visit t) = work t
todo_work work (right a b n) = 2 + work b
todo_work work (check a n) = 1

-- how much work all of some things are
abbrev pub all_work : {A : Type 0} → (A → ℕ) → List A → ℕ
all_work work [] = 0
all_work work (x ∷ xs) = work x + all_work work xs

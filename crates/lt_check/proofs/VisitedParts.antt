-- The parts of choices that have a positive weight: which live, how much work they are, and what holds of each.
use Rattle.std.proofs.Common.{◌≡◌, ◌∙◌, ◌<◌, ◌≤◌, ℕ, ◌+◌, Bool, true, false, IsTrue, List, [], ◌∷◌, ◌++◌, ap, arith, refl, sym, subst}
use Rattle.std.specs.Prelude.{◌&&◌, ◌||◌, Ok, Err, if◌then◌else◌}
use Rattle.std.specs.List.{list_all, list_any}
use Rattle.std.proofs.lemmas.List.Folds.{list_all-append}
use Rattle.lt_num.specs.declared.fault.Arith.{Arith}
use Rattle.lt_term.specs.Evaluated.{Worth}
use Rattle.lt_term.specs.Tree as t
use Rattle.lt_term.specs.Tree.{Branches, Node, Tree, branch, flattened, flattened_each, no_branch, weights_of}
use Rattle.lt_term.proofs.Public.{left_of, right_of}
use Rattle.lt_legal.specs.Nodes.{has, has_in}
use Rattle.lt_marks_laws.specs.Valued.{worths}
use Rattle.lt_check.specs.inner.Seen.{Sight, positive}
use Rattle.lt_check.specs.inner.Shaped.{choice_shape, parts_by, shape_by, two_shapes}
use Rattle.lt_check.specs.inner.Visited.{all_work, parts_work, positive_parts, tree_work}

-- ---- which live

module _ {C F N : Type 0} (worth : Worth C F) (sight : Sight C N) where
  abbrev pub lives : Tree C N → Bool
  lives a = has (shape_by worth sight a)

  pub order_lives : sight.keeps_order ≡ true → (a b : Tree C N) → lives (t.ordered a b) ≡ (lives a || lives b)
  order_lives keeps a b = ap (λ k. has (two_shapes k (shape_by worth sight a) (shape_by worth sight b))) keeps

  pub choice_lives : (ls : t.Lasts) (bs : Branches C N) (vs : List ℕ) → worths worth.weight ls (weights_of bs) ≡ Ok vs → lives (t.weighted ls bs) ≡ has_in (parts_by worth sight bs vs)
  choice_lives ls bs vs e = ap (λ y. has (choice_shape sight.fails y (parts_by worth sight bs))) e

  pub fault_lives : (ls : t.Lasts) (bs : Branches C N) (x : Arith) → worths worth.weight ls (weights_of bs) ≡ Err x → lives (t.weighted ls bs) ≡ sight.fails x
  fault_lives ls bs x e = ap (λ y. has (choice_shape sight.fails y (parts_by worth sight bs))) e

  one_part : (p : Bool) (a : Tree C N) (rest : List (Tree C N)) → list_any lives ((if p then a ∷ [] else []) ++ rest) ≡ ((p && lives a) || list_any lives rest)
  one_part true a rest = refl
  one_part false a rest = refl

  none_left : (bs : Branches C N) → has_in (parts_by worth sight bs []) ≡ false
  none_left no_branch = refl
  none_left (branch w a bs) = none_left bs

  pub parts_live : (bs : Branches C N) (vs : List ℕ) → list_any lives (positive_parts bs vs) ≡ has_in (parts_by worth sight bs vs)
  parts_live no_branch vs = refl
  parts_live (branch w a bs) [] = sym (none_left bs)
  parts_live (branch w a bs) (v ∷ vs) = one_part (positive v) a (positive_parts bs vs) ∙ ap (λ b. (positive v && lives a) || b) (parts_live bs vs)

-- ---- how much work they are

-- that of lists one behind the other
pub work_append : {A : Type 0} (work : A → ℕ) (xs ys : List A) → all_work work (xs ++ ys) ≡ all_work work xs + all_work work ys
work_append work [] ys = omega arith
work_append work (x ∷ xs) ys = let e = work_append work xs ys in omega (arith, e)

one_work : {C N : Type 0} (p : Bool) (a : Tree C N) (rest : List (Tree C N)) (n : ℕ) → all_work tree_work rest ≤ n → all_work tree_work ((if p then a ∷ [] else []) ++ rest) ≤ tree_work a + n
one_work true a rest n h = omega (arith, h)
one_work false a rest n h = omega (arith, h)

pub parts_less : {C N : Type 0} (bs : Branches C N) (vs : List ℕ) → all_work tree_work (positive_parts bs vs) ≤ parts_work bs
parts_less no_branch vs = omega arith
parts_less (branch w a bs) [] = omega arith
parts_less (branch w a bs) (v ∷ vs) = one_work (positive v) a (positive_parts bs vs) (parts_work bs) (parts_less bs vs)

pub some_work : {C N : Type 0} (a : Tree C N) → 0 < tree_work a
some_work (t.leaf l) = omega arith
some_work (t.ordered a b) = omega arith
some_work (t.weighted ls bs) = omega arith

-- ---- what holds of all nodes

module _ {C N : Type 0} (test : Node C N → Bool) where
  -- all nodes of a tree pass
  abbrev pub NodesPass : Tree C N → Type 0
  NodesPass a = IsTrue (list_all test (flattened a))

  split_pass : (xs ys : List (Node C N)) → IsTrue (list_all test (xs ++ ys)) → IsTrue (list_all test xs && list_all test ys)
  split_pass xs ys h = subst IsTrue (list_all-append test xs ys) h

  pub left_pass : (a b : Tree C N) → NodesPass (t.ordered a b) → NodesPass a
  left_pass a b h = left_of (list_all test (flattened a)) (list_all test (flattened b)) (split_pass (flattened a) (flattened b) (right_of (test t.ordered_node) (list_all test (flattened a ++ flattened b)) h))

  pub right_pass : (a b : Tree C N) → NodesPass (t.ordered a b) → NodesPass b
  right_pass a b h = right_of (list_all test (flattened a)) (list_all test (flattened b)) (split_pass (flattened a) (flattened b) (right_of (test t.ordered_node) (list_all test (flattened a ++ flattened b)) h))

  pub leaf_pass : (l : t.Leaf C N) → NodesPass (t.leaf l) → IsTrue (test (t.leaf_node l))
  leaf_pass l h = left_of (test (t.leaf_node l)) true h

  pub choice_pass : (ls : t.Lasts) (bs : Branches C N) → NodesPass (t.weighted ls bs) → IsTrue (test (t.weighted_node ls (weights_of bs)))
  choice_pass ls bs h = left_of (test (t.weighted_node ls (weights_of bs))) (list_all test (flattened_each bs)) h

  pub below_pass : (ls : t.Lasts) (bs : Branches C N) → NodesPass (t.weighted ls bs) → IsTrue (list_all test (flattened_each bs))
  below_pass ls bs h = right_of (test (t.weighted_node ls (weights_of bs))) (list_all test (flattened_each bs)) h

  -- it holds of each tree of a list
  abbrev pub EachPasses : List (Tree C N) → Type 0
  EachPasses [] = Unit {0}
  EachPasses (a ∷ rest) = NodesPass a × EachPasses rest

  one_pass : (p : Bool) (a : Tree C N) (rest : List (Tree C N)) → NodesPass a → EachPasses rest → EachPasses ((if p then a ∷ [] else []) ++ rest)
  one_pass true a rest h k = (h, k)
  one_pass false a rest h k = k

  pub parts_pass : (bs : Branches C N) (vs : List ℕ) → IsTrue (list_all test (flattened_each bs)) → EachPasses (positive_parts bs vs)
  parts_pass no_branch vs h = tt
  parts_pass (branch w a bs) [] h = tt
  parts_pass (branch w a bs) (v ∷ vs) h =
      let k = split_pass (flattened a) (flattened_each bs) h in
      one_pass (positive v) a (positive_parts bs vs) (left_of (list_all test (flattened a)) (list_all test (flattened_each bs)) k) (parts_pass bs vs (right_of (list_all test (flattened a)) (list_all test (flattened_each bs)) k))

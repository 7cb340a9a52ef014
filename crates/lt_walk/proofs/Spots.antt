-- What stands at a path where leaves are replaced.
use Rattle.std.proofs.Common.{◌≡◌, ◌<◌, ◌≤◌, ℕ, zero, suc, ◌+◌, ◌*◌, Bool, true, false, nat_eq, if◌then◌else◌, List, [], ◌∷◌, refl, ap, sym, ◌∙◌, arith}
use Rattle.std.specs.Prelude.{slice_index_or}
use Rattle.lt_num.specs.declared.kind.Kind.{Kind}
use Rattle.lt_num.specs.declared.value.Value.{Value}
use Rattle.lt_term.specs.declared.last.Last.{Last}
use Rattle.lt_term.specs.Offers.{TermLeaf, TermTree, in_seq, in_turn, joined, in_par, in_assert, in_exist, in_catch, in_try, offers_of, offers_of_each}
use Rattle.lt_term.specs.Process.{Process, dead}
use Rattle.lt_term.specs.Size.{Weights, tree_weight}
use Rattle.lt_term.specs.Tree.{Lasts, Weight, Leaf, vanish, nothing, raised, go, Tree, leaf, ordered, weighted, Branches, no_branch, branch, with_leaves, branches_with_leaves, with_local, branches_with_local}
use Rattle.lt_tree_size.proofs.Public.{assert_weight, catch_weight, in_exist_weight, joined_weight, par_weight, seq_weight, try_weight, local_weight}
use Rattle.lt_marks.specs.View.{body_each, choices_of}
use Rattle.lt_marks.specs.declared.track.Parts.{Parts}
use Rattle.lt_marks.specs.declared.track.Parts.TheVariants.{End, Part'}
use Rattle.lt_walk.proofs.Contexts.{behind_weights, beside_weights, besides, handled_weights, in_turn_weights, turn_weight}
use Rattle.lt_walk.specs.inner.Spot.{Spot, at_vanish, at_nothing, at_raised, at_go, at_choice, at_leaf, first_side, first_weight, spot, spot_in}

-- Trees with f of each leaf in its place: they weigh what the trees do where leaves weigh what replaces them; and g says what stands
-- behind a leaf.
module _ {C N M : Type 0} (w v : Weights) (k : ℕ) (f : Leaf C N → Tree C M) (e : (t : Tree C N) → tree_weight w (with_leaves f t) ≡ tree_weight v t)
    (g : Spot → Spot) (same : (n : ℕ) → at_choice n ≡ g (at_choice n)) (none : (ks : List ℕ) → at_nothing ks ≡ g (at_nothing ks))
    (at : (l : Leaf C N) (ks : List ℕ) → spot w k (f l) ks ≡ g (at_leaf l ks)) where
  side_behind : (a : Tree C N) (n : ℕ) → first_side w (with_leaves f a) n ≡ first_side v a n
  side_behind a zero = refl
  side_behind a (suc n) = e a

  first_behind : (bs : Branches C N) (n : ℕ) → first_weight w (branches_with_leaves f bs) n ≡ first_weight v bs n
  first_behind no_branch n = refl
  first_behind (branch x t bs) zero = refl
  first_behind (branch x t bs) (suc n) = λ i. e t i + first_behind bs n i

  mutual
    behind : (t : Tree C N) (ks : List ℕ) → spot w k (with_leaves f t) ks ≡ g (spot v k t ks)
    behind (leaf l) ks = at l ks
    behind (ordered a b) [] = ap at_choice (side_behind a k) ∙ same (first_side v a k)
    behind (ordered a b) (zero ∷ ks) = behind a ks
    behind (ordered a b) (suc i ∷ ks) = behind b ks
    behind (weighted ls bs) [] = ap at_choice (first_behind bs k) ∙ same (first_weight v bs k)
    behind (weighted ls bs) (i ∷ ks) = behind_in bs i ks

    behind_in : (bs : Branches C N) (i : ℕ) (ks : List ℕ) → spot_in w k (branches_with_leaves f bs) i ks ≡ g (spot_in v k bs i ks)
    behind_in no_branch i ks = none ks
    behind_in (branch x t bs) zero ks = behind t ks
    behind_in (branch x t bs) (suc i) ks = behind_in bs i ks

-- a local in scope changes nothing
module _ {C N : Type 0} (w : Weights) (k : ℕ) (x : ℕ × Last) where
  side_local : (a : Tree C N) (n : ℕ) → first_side w (with_local x a) n ≡ first_side w a n
  side_local a zero = refl
  side_local a (suc n) = local_weight w x a

  first_local : (bs : Branches C N) (n : ℕ) → first_weight w (branches_with_local x bs) n ≡ first_weight w bs n
  first_local no_branch n = refl
  first_local (branch y t bs) zero = refl
  first_local (branch y t bs) (suc n) = λ i. local_weight w x t i + first_local bs n i

  mutual
    with_local_spot : (t : Tree C N) (ks : List ℕ) → spot w k (with_local x t) ks ≡ spot w k t ks
    with_local_spot (leaf l) ks = refl
    with_local_spot (ordered a b) [] = ap at_choice (side_local a k)
    with_local_spot (ordered a b) (zero ∷ ks) = with_local_spot a ks
    with_local_spot (ordered a b) (suc i ∷ ks) = with_local_spot b ks
    with_local_spot (weighted ls bs) [] = ap at_choice (first_local bs k)
    with_local_spot (weighted ls bs) (i ∷ ks) = with_local_spot_in bs i ks

    with_local_spot_in : (bs : Branches C N) (i : ℕ) (ks : List ℕ) → spot_in w k (branches_with_local x bs) i ks ≡ spot_in w k bs i ks
    with_local_spot_in no_branch i ks = refl
    with_local_spot_in (branch y t bs) zero ks = with_local_spot t ks
    with_local_spot_in (branch y t bs) (suc i) ks = with_local_spot_in bs i ks

-- What stands behind the leaves that the rules replace, u being the tree of the other part.

-- behind a first part
abbrev pub in_turn_spot : Weights → ℕ → TermTree ℕ → Spot → Spot
in_turn_spot w k u (at_vanish ks) = spot w k u ks
in_turn_spot w k u s = s

-- beside an instant of a first side
abbrev pub joined_spot : Spot → Spot
joined_spot (at_vanish ks) = at_go ks
joined_spot s = s

-- behind a first side
abbrev pub beside_spot : Weights → ℕ → TermTree ℕ → Spot → Spot
beside_spot w k u (at_vanish ks) = spot w k u ks
beside_spot w k u (at_go ks) = joined_spot (spot (beside_weights w) k u ks)
beside_spot w k u s = s

-- behind a part with a handler of an exception
abbrev pub handled_spot : Weights → ℕ → ℕ → TermTree ℕ → Spot → Spot
handled_spot w k z u (at_raised y ks) = if nat_eq y z then spot w k u ks else at_raised y ks
handled_spot w k z u s = s

-- Turns, of which so many parts are asked for.
module _ (w : Weights) where
  -- the next turn of a loop
  pub turn_side : (b : Process ℕ) (t : TermTree ℕ) (n : ℕ) → first_side (in_turn_weights w) t n ≡ first_side w (with_leaves (in_turn b) t) n
  turn_side b t zero = refl
  turn_side b t (suc n) = sym (turn_weight w b t)

  -- the next turn of a counted loop, and its end, of which so many are asked for
  pub one_turn : (x y : Weight ℕ) (t : TermTree ℕ) (n : ℕ) → n < 2 → first_side w t n ≡ first_weight w (branch x t (branch y (leaf vanish) no_branch)) n
  one_turn x y t zero l = refl
  one_turn x y t (suc zero) l = omega arith
  one_turn x y t (suc (suc n)) l = absurd (omega (arith, l))

  pub both_turns : (x y : Weight ℕ) (t : TermTree ℕ) (n : ℕ) → 2 ≤ n → first_side w t n + 1 * w.vanish ≡ first_weight w (branch x t (branch y (leaf vanish) no_branch)) n
  both_turns x y t zero l = absurd (omega (arith, l))
  both_turns x y t (suc zero) l = absurd (omega (arith, l))
  both_turns x y t (suc (suc n)) l = omega arith

module _ (w : Weights) (k : ℕ) where
  pub seq_spot : (b : Process ℕ) (u t : TermTree ℕ) (ks : List ℕ) → spot w k (with_leaves (in_seq b u) t) ks ≡ in_turn_spot w k u (spot (behind_weights w u) k t ks)
  seq_spot b u t ks = behind w (behind_weights w u) k (in_seq b u) (seq_weight b u w) (in_turn_spot w k u) (λ n. refl) (λ js. refl) at t ks
    where
      at : (l : TermLeaf ℕ) (js : List ℕ) → spot w k (in_seq b u l) js ≡ in_turn_spot w k u (at_leaf l js)
      at vanish js = refl
      at nothing js = refl
      at (raised z) js = refl
      at (go cs ls n) js = refl

  pub instant_spot : (cs : List ℕ) (ls : Lasts) (n : Process ℕ) (u : TermTree ℕ) (ks : List ℕ) → spot w k (with_leaves (joined cs ls n) u) ks ≡ joined_spot (spot (beside_weights w) k u ks)
  instant_spot cs ls n u ks = behind w (beside_weights w) k (joined cs ls n) (joined_weight w cs ls n) joined_spot (λ n. refl) (λ js. refl) at u ks
    where
      at : (l : TermLeaf ℕ) (js : List ℕ) → spot w k (joined cs ls n l) js ≡ joined_spot (at_leaf l js)
      at vanish js = refl
      at nothing js = refl
      at (raised z) js = refl
      at (go ds ms m) js = refl

  pub par_spot : (u t : TermTree ℕ) (ks : List ℕ)
      → spot w k (with_leaves (in_par u) t) ks ≡ beside_spot w k u (spot (besides w u) k t ks)
  par_spot u t ks = behind w (besides w u) k (in_par u) (par_weight u w) (beside_spot w k u) (λ n. refl) (λ js. refl) at t ks
    where
      at : (l : TermLeaf ℕ) (js : List ℕ) → spot w k (in_par u l) js ≡ beside_spot w k u (at_leaf l js)
      at vanish js = refl
      at nothing js = refl
      at (raised z) js = refl
      at (go cs ls n) js = instant_spot cs ls n u js

  pub assert_spot : (c : ℕ) (t : TermTree ℕ) (ks : List ℕ) → spot w k (with_leaves (in_assert c) t) ks ≡ spot w k t ks
  assert_spot c t ks = behind w w k (in_assert c) (assert_weight w c) (λ s. s) (λ n. refl) (λ js. refl) at t ks
    where
      at : (l : TermLeaf ℕ) (js : List ℕ) → spot w k (in_assert c l) js ≡ at_leaf l js
      at vanish js = refl
      at nothing js = refl
      at (raised z) js = refl
      at (go cs ls n) js = refl

  pub exist_spot : (start : Value) (x : ℕ) (v : Last) (t : TermTree ℕ) (ks : List ℕ) → spot w k (with_leaves (in_exist start x v) (with_local (x, v) t)) ks ≡ spot w k t ks
  exist_spot start x v t ks = behind w w k (in_exist start x v) (in_exist_weight w start x v) (λ s. s) (λ n. refl) (λ js. refl) at (with_local (x, v) t) ks ∙ with_local_spot w k (x, v) t ks
    where
      at : (l : TermLeaf ℕ) (js : List ℕ) → spot w k (in_exist start x v l) js ≡ at_leaf l js
      at vanish js = refl
      at nothing js = refl
      at (raised z) js = refl
      at (go cs ls n) js = refl

  by_test : (y : ℕ) (b : Bool) (u : TermTree ℕ) (ks : List ℕ) → spot w k (if b then u else leaf (raised y)) ks ≡ (if b then spot w k u ks else at_raised y ks)
  by_test y true u ks = refl
  by_test y false u ks = refl

  pub catch_spot : (z : ℕ) (h : Process ℕ) (u t : TermTree ℕ) (ks : List ℕ) → spot w k (with_leaves (in_catch z h u) t) ks ≡ handled_spot w k z u (spot (handled_weights w z u) k t ks)
  catch_spot z h u t ks = behind w (handled_weights w z u) k (in_catch z h u) (catch_weight w z h u) (handled_spot w k z u) (λ n. refl) (λ js. refl) at t ks
    where
      at : (l : TermLeaf ℕ) (js : List ℕ) → spot w k (in_catch z h u l) js ≡ handled_spot w k z u (at_leaf l js)
      at vanish js = refl
      at nothing js = refl
      at (raised y) js = by_test y (nat_eq y z) u js
      at (go cs ls n) js = refl

  try_part : (h : Process ℕ) (t : TermTree ℕ) (ks : List ℕ) → spot w k (with_leaves (in_try h) t) ks ≡ spot w k t ks
  try_part h t ks = behind w w k (in_try h) (try_weight w h) (λ s. s) (λ n. refl) (λ js. refl) at t ks
    where
      at : (l : TermLeaf ℕ) (js : List ℕ) → spot w k (in_try h l) js ≡ at_leaf l js
      at vanish js = refl
      at nothing js = refl
      at (raised z) js = refl
      at (go cs ls n) js = refl

  try_side : (h : Process ℕ) (t : TermTree ℕ) (n : ℕ) → first_side w (with_leaves (in_try h) t) n ≡ first_side w t n
  try_side h t zero = refl
  try_side h t (suc n) = try_weight w h t

  pub try_spot : (h : Process ℕ) (t u : TermTree ℕ) (ks : List ℕ) → spot w k (ordered (with_leaves (in_try h) t) u) ks ≡ spot w k (ordered t u) ks
  try_spot h t u [] = ap at_choice (try_side h t k)
  try_spot h t u (zero ∷ ks) = try_part h t ks
  try_spot h t u (suc i ∷ ks) = refl

  -- the alternative of a place
  pub part_spot : (kinds : List Kind) (ps : Parts) (i : ℕ) (ks : List ℕ) → spot_in w k (offers_of_each kinds (choices_of ps)) i ks ≡ spot w k (offers_of kinds (slice_index_or (body_each ps) i dead)) ks
  part_spot kinds End i ks = refl
  part_spot kinds (Part' x p t q ps) zero ks = refl
  part_spot kinds (Part' x p t q ps) (suc i) ks = part_spot kinds ps i ks

-- Weights of trees.
use Rattle.std.proofs.Common.{◌≡◌, ◌≤◌, ℕ, ◌+◌, ◌-◌, ◌*◌, Bool, true, false, nat_eq, if◌then◌else◌, List, length, refl, ap, sym, ◌∙◌, arith, length-append}
use Rattle.std.proofs.lemmas.Bool.{eqb-true, eqb-false, ne_eqb}
use Rattle.lt_num.specs.declared.value.Value.{Value}
use Rattle.lt_term.specs.declared.last.Last.{Last}
use Rattle.lt_term.specs.Offers.{TermLeaf, TermTree, in_seq, in_par, joined, in_assert, in_exist, in_catch, in_try}
use Rattle.lt_term.specs.Process.{Process}
use Rattle.lt_term.specs.Size.{Weights, each_one, leaf_weight, tree_weight, branches_weight, with_raise}
use Rattle.lt_term.specs.Tree.{Lasts, Leaf, vanish, nothing, raised, go, Tree, leaf, ordered, weighted, Branches, no_branch, branch, with_leaves, branches_with_leaves, with_local, branches_with_local, flattened, flattened_each, size}
use Rattle.lt_tree_size.specs.Tally.{just_vanish, just_go, just_raise, nodes, vanishes, goes, raises, NodesAreSize, SeqRow, ParRow, InstantRow, AssertRow, ExistRow, CatchRow, TryRow}

-- The nodes are the size.

leaf_one : {C N : Type 0} (l : Leaf C N) → leaf_weight each_one l ≡ 1
leaf_one vanish = refl
leaf_one nothing = refl
leaf_one (raised z) = refl
leaf_one (go cs ls n) = refl

mutual
  nodes_size : {C N : Type 0} (t : Tree C N) → nodes t ≡ size t
  nodes_size (leaf l) = leaf_one l
  nodes_size (ordered a b) = let h = nodes_size a in let k = nodes_size b in let m = length-append (flattened a) (flattened b) in omega (arith, h, k, m)
  nodes_size (weighted ls bs) = let h = nodes_size_each bs in omega (arith, h)

  nodes_size_each : {C N : Type 0} (bs : Branches C N) → branches_weight each_one bs ≡ length (flattened_each bs)
  nodes_size_each no_branch = refl
  nodes_size_each (branch w t bs) = let h = nodes_size t in let k = nodes_size_each bs in let m = length-append (flattened t) (flattened_each bs) in omega (arith, h, k, m)

-- A tree whose leaves are replaced weighs what the tree weighs where each leaf weighs what replaces it.

module _ {C N M : Type 0} (w v : Weights) (f : Leaf C N → Tree C M) (same : v.other ≡ w.other) (e : (l : Leaf C N) → tree_weight w (f l) ≡ leaf_weight v l) where
  mutual
    replaced : (t : Tree C N) → tree_weight w (with_leaves f t) ≡ tree_weight v t
    replaced (leaf l) = e l
    replaced (ordered a b) = λ i. sym same i + (replaced a i + replaced b i)
    replaced (weighted ls bs) = λ i. sym same i + replaced_each bs i

    replaced_each : (bs : Branches C N) → branches_weight w (branches_with_leaves f bs) ≡ branches_weight v bs
    replaced_each no_branch = refl
    replaced_each (branch x t bs) = λ i. replaced t i + replaced_each bs i

-- Weights may be added: what weighs so many times as much of one kind more.

module _ {C N : Type 0} (w v one : Weights) (k : ℕ) (o : v.other ≡ w.other + one.other * k) (e : (l : Leaf C N) → leaf_weight v l ≡ leaf_weight w l + leaf_weight one l * k) where
  mutual
    pub added : (t : Tree C N) → tree_weight v t ≡ tree_weight w t + tree_weight one t * k
    added (leaf l) = e l
    added (ordered a b) = let h = added a in let g = added b in omega (arith, o, h, g)
    added (weighted ls bs) = let h = added_each bs in omega (arith, o, h)

    added_each : (bs : Branches C N) → branches_weight v bs ≡ branches_weight w bs + branches_weight one bs * k
    added_each no_branch = omega arith
    added_each (branch x t bs) = let h = added t in let g = added_each bs in omega (arith, h, g)

mutual
  pub local_weight : {C N : Type 0} (w : Weights) (x : ℕ × Last) (t : Tree C N) → tree_weight w (with_local x t) ≡ tree_weight w t
  local_weight w x (leaf l) = refl
  local_weight w x (ordered a b) = λ i. w.other + (local_weight w x a i + local_weight w x b i)
  local_weight w x (weighted ls bs) = λ i. w.other + local_weight_each w x bs i

  local_weight_each : {C N : Type 0} (w : Weights) (x : ℕ × Last) (bs : Branches C N) → branches_weight w (branches_with_local x bs) ≡ branches_weight w bs
  local_weight_each w x no_branch = refl
  local_weight_each w x (branch v t bs) = λ i. local_weight w x t i + local_weight_each w x bs i

pub nodes_positive : {C N : Type 0} (t : Tree C N) → 1 ≤ nodes t
nodes_positive (leaf vanish) = omega arith
nodes_positive (leaf nothing) = omega arith
nodes_positive (leaf (raised z)) = omega arith
nodes_positive (leaf (go cs ls n)) = omega arith
nodes_positive (ordered a b) = omega arith
nodes_positive (weighted ls bs) = omega arith

-- A second part in place of what vanishes.

module _ (b : Process ℕ) (u : TermTree ℕ) where
  pub seq_weight : (w : Weights) (t : TermTree ℕ) → tree_weight w (with_leaves (in_seq b u) t) ≡ tree_weight (record w { vanish = tree_weight w u }) t
  seq_weight w t = replaced w (record w { vanish = tree_weight w u }) (in_seq b u) refl at t
    where
      at : (l : TermLeaf ℕ) → tree_weight w (in_seq b u l) ≡ leaf_weight (record w { vanish = tree_weight w u }) l
      at vanish = refl
      at nothing = refl
      at (raised z) = refl
      at (go cs ls n) = refl

-- more weight for what vanishes, on top of another
more_vanish : (w : Weights) (x k : ℕ) → x ≡ w.vanish + k → (t : TermTree ℕ) → tree_weight (record w { vanish = x }) t ≡ tree_weight w t + vanishes t * k
more_vanish w x k e t = added w (record w { vanish = x }) just_vanish k (omega arith) at t
  where
    at : (l : TermLeaf ℕ) → leaf_weight (record w { vanish = x }) l ≡ leaf_weight w l + leaf_weight just_vanish l * k
    at vanish = omega (arith, e)
    at nothing = omega arith
    at (raised z) = omega arith
    at (go cs ls n) = omega arith

more_go : (w : Weights) (x k : ℕ) → x ≡ w.go + k → (t : TermTree ℕ) → tree_weight (record w { go = x }) t ≡ tree_weight w t + goes t * k
more_go w x k e t = added w (record w { go = x }) just_go k (omega arith) at t
  where
    at : (l : TermLeaf ℕ) → leaf_weight (record w { go = x }) l ≡ leaf_weight w l + leaf_weight just_go l * k
    at vanish = omega arith
    at nothing = omega arith
    at (raised z) = omega arith
    at (go cs ls n) = omega (arith, e)

-- nothing weighs nothing
abbrev no_weight : Weights
no_weight = record { other = 0; vanish = 0; go = 0; raise = λ z. 0 }

mutual
  weightless : (t : TermTree ℕ) → tree_weight no_weight t ≡ 0
  weightless (leaf vanish) = refl
  weightless (leaf nothing) = refl
  weightless (leaf (raised z)) = refl
  weightless (leaf (go cs ls n)) = refl
  weightless (ordered a b) = let h = weightless a in let k = weightless b in omega (arith, h, k)
  weightless (weighted ls bs) = let h = weightless_each bs in omega (arith, h)

  weightless_each : (bs : Branches ℕ (Process ℕ)) → branches_weight no_weight bs ≡ 0
  weightless_each no_branch = refl
  weightless_each (branch w t bs) = let h = weightless t in let k = weightless_each bs in omega (arith, h, k)

pub seq_row : SeqRow
seq_row b u t =
    let one = nodes_positive u in
    let m : nodes u ≡ 1 + (nodes u - 1) = omega (arith, one) in
    record {
      nodes_are = seq_weight b u each_one t ∙ more_vanish each_one (nodes u) (nodes u - 1) m t;
      vanishes_are = (let h = more_vanish no_weight (vanishes u) (vanishes u) (omega arith) t in let z = weightless t in seq_weight b u just_vanish t ∙ omega (arith, h, z));
      goes_are = seq_weight b u just_go t ∙ more_vanish just_go (goes u) (goes u) (omega arith) t;
      raises_are = λ z. seq_weight b u (just_raise z) t ∙ more_vanish (just_raise z) (raises z u) (raises z u) (omega arith) t;
    }

-- A second side.

pub joined_weight : (w : Weights) (cs : List ℕ) (ls : Lasts) (n : Process ℕ) (u : TermTree ℕ) → tree_weight w (with_leaves (joined cs ls n) u) ≡ tree_weight (record w { vanish = w.go }) u
joined_weight w cs ls n u = replaced w (record w { vanish = w.go }) (joined cs ls n) refl at u
  where
    at : (l : TermLeaf ℕ) → tree_weight w (joined cs ls n l) ≡ leaf_weight (record w { vanish = w.go }) l
    at vanish = refl
    at nothing = refl
    at (raised z) = refl
    at (go ds ms m) = refl

module _ (u : TermTree ℕ) where
  pub par_weight : (w : Weights) (t : TermTree ℕ) → tree_weight w (with_leaves (in_par u) t) ≡ tree_weight (record w { vanish = tree_weight w u; go = tree_weight (record w { vanish = w.go }) u }) t
  par_weight w t = replaced w (record w { vanish = tree_weight w u; go = tree_weight (record w { vanish = w.go }) u }) (in_par u) refl at t
    where
      at : (l : TermLeaf ℕ) → tree_weight w (in_par u l) ≡ leaf_weight (record w { vanish = tree_weight w u; go = tree_weight (record w { vanish = w.go }) u }) l
      at vanish = refl
      at nothing = refl
      at (raised z) = refl
      at (go cs ls n) = joined_weight w cs ls n u

-- more weight for what vanishes and for what goes on
more_both : (w : Weights) (x y k j : ℕ) → x ≡ w.vanish + k → y ≡ w.go + j → (t : TermTree ℕ) → tree_weight (record w { vanish = x; go = y }) t ≡ tree_weight w t + vanishes t * k + goes t * j
more_both w x y k j e d t = let h = more_vanish w x k e t in let g = more_go (record w { vanish = x }) y j d t in omega (arith, h, g)

pub par_row : ParRow
par_row u t =
    let one = nodes_positive u in
    let m : nodes u ≡ 1 + (nodes u - 1) = omega (arith, one) in
    let z = weightless t in
    let none = weightless u in
    record {
      nodes_are = (let h = more_both each_one (nodes u) (nodes u) (nodes u - 1) (nodes u - 1) m m t in par_weight u each_one t ∙ omega (arith, h));
      vanishes_are = (let h = more_both no_weight (vanishes u) 0 (vanishes u) 0 (omega arith) (omega arith) t in let g = par_weight u just_vanish t in let y : tree_weight no_weight u ≡ 0 = none in g ∙ ap (λ x. tree_weight (record no_weight { vanish = vanishes u; go = x }) t) y ∙ omega (arith, h, z));
      goes_are = (let s : tree_weight (record just_go { vanish = 1 }) u ≡ vanishes u + goes u = (let q = more_vanish just_go 1 1 (omega arith) u in omega (arith, q)) in
          let h = more_both no_weight (goes u) (vanishes u + goes u) (goes u) (vanishes u + goes u) (omega arith) (omega arith) t in
          par_weight u just_go t ∙ ap (λ x. tree_weight (record no_weight { vanish = goes u; go = x }) t) s ∙ omega (arith, h, z));
      raises_are = λ y. (let h = more_both (just_raise y) (raises y u) (raises y u) (raises y u) (raises y u) (omega arith) (omega arith) t in par_weight u (just_raise y) t ∙ omega (arith, h));
    }

pub instant_row : InstantRow
instant_row cs ls n u = record {
  nodes_are = joined_weight each_one cs ls n u;
  vanishes_are = joined_weight just_vanish cs ls n u ∙ weightless u;
  goes_are = (let q = more_vanish just_go 1 1 (omega arith) u in joined_weight just_go cs ls n u ∙ omega (arith, q));
  raises_are = λ z. joined_weight (just_raise z) cs ls n u;
}

-- What changes no number.

same_weight : (w : Weights) (f : TermLeaf ℕ → TermTree ℕ) → ((l : TermLeaf ℕ) → tree_weight w (f l) ≡ leaf_weight w l) → (t : TermTree ℕ) → tree_weight w (with_leaves f t) ≡ tree_weight w t
same_weight w f e t = replaced w w f refl e t

assert_at : (w : Weights) (c : ℕ) (l : TermLeaf ℕ) → tree_weight w (in_assert c l) ≡ leaf_weight w l
assert_at w c vanish = refl
assert_at w c nothing = refl
assert_at w c (raised z) = refl
assert_at w c (go cs ls n) = refl

pub assert_weight : (w : Weights) (c : ℕ) (t : TermTree ℕ) → tree_weight w (with_leaves (in_assert c) t) ≡ tree_weight w t
assert_weight w c t = same_weight w (in_assert c) (assert_at w c) t

pub assert_row : AssertRow
assert_row c t = record {
  nodes_are = assert_weight each_one c t;
  vanishes_are = assert_weight just_vanish c t;
  goes_are = assert_weight just_go c t;
  raises_are = λ z. assert_weight (just_raise z) c t;
}

exist_at : (w : Weights) (start : Value) (x : ℕ) (v : Last) (l : TermLeaf ℕ) → tree_weight w (in_exist start x v l) ≡ leaf_weight w l
exist_at w start x v vanish = refl
exist_at w start x v nothing = refl
exist_at w start x v (raised z) = refl
exist_at w start x v (go cs ls n) = refl

pub in_exist_weight : (w : Weights) (start : Value) (x : ℕ) (v : Last) (t : TermTree ℕ) → tree_weight w (with_leaves (in_exist start x v) t) ≡ tree_weight w t
in_exist_weight w start x v t = same_weight w (in_exist start x v) (exist_at w start x v) t

exist_weight : (w : Weights) (start : Value) (x : ℕ) (v : Last) (t : TermTree ℕ) → tree_weight w (with_leaves (in_exist start x v) (with_local (x, v) t)) ≡ tree_weight w t
exist_weight w start x v t = in_exist_weight w start x v (with_local (x, v) t) ∙ local_weight w (x, v) t

pub exist_row : ExistRow
exist_row start x v t = record {
  nodes_are = exist_weight each_one start x v t;
  vanishes_are = exist_weight just_vanish start x v t;
  goes_are = exist_weight just_go start x v t;
  raises_are = λ z. exist_weight (just_raise z) start x v t;
}

try_at : (w : Weights) (h : Process ℕ) (l : TermLeaf ℕ) → tree_weight w (in_try h l) ≡ leaf_weight w l
try_at w h vanish = refl
try_at w h nothing = refl
try_at w h (raised z) = refl
try_at w h (go cs ls n) = refl

pub try_weight : (w : Weights) (h : Process ℕ) (t : TermTree ℕ) → tree_weight w (with_leaves (in_try h) t) ≡ tree_weight w t
try_weight w h t = same_weight w (in_try h) (try_at w h) t

pub try_row : TryRow
try_row h t = record {
  nodes_are = try_weight each_one h t;
  vanishes_are = try_weight just_vanish h t;
  goes_are = try_weight just_go h t;
  raises_are = λ z. try_weight (just_raise z) h t;
}

-- A handler.

by_test : (w : Weights) (b : Bool) (y : ℕ) (u : TermTree ℕ) → tree_weight w (if b then u else leaf (raised y)) ≡ (if b then tree_weight w u else w.raise y)
by_test w true y u = refl
by_test w false y u = refl

pub catch_weight : (w : Weights) (z : ℕ) (h : Process ℕ) (u t : TermTree ℕ) → tree_weight w (with_leaves (in_catch z h u) t) ≡ tree_weight (with_raise w z (tree_weight w u)) t
catch_weight w z h u t = replaced w (with_raise w z (tree_weight w u)) (in_catch z h u) refl at t
  where
    at : (l : TermLeaf ℕ) → tree_weight w (in_catch z h u l) ≡ leaf_weight (with_raise w z (tree_weight w u)) l
    at vanish = refl
    at nothing = refl
    at (raised y) = by_test w (nat_eq y z) y u
    at (go cs ls n) = refl

more_by : (b : Bool) (x base k : ℕ) → x ≡ base + k → (if b then x else base) ≡ base + (if b then 1 else 0) * k
more_by true x base k e = omega (arith, e)
more_by false x base k e = omega arith

-- more weight for an exception, where all exceptions weigh the same
more_raise : (w : Weights) (z x base k : ℕ) → w.raise ≡ (λ y. base) → x ≡ base + k → (t : TermTree ℕ) → tree_weight (with_raise w z x) t ≡ tree_weight w t + raises z t * k
more_raise w z x base k same e t = added w (with_raise w z x) (just_raise z) k (omega arith) at t
  where
    at : (l : TermLeaf ℕ) → leaf_weight (with_raise w z x) l ≡ leaf_weight w l + leaf_weight (just_raise z) l * k
    at vanish = omega arith
    at nothing = omega arith
    at (raised y) =
        let r : w.raise y ≡ base = ap (λ f. f y) same in
        ap (λ n. if nat_eq y z then x else n) r ∙ more_by (nat_eq y z) x base k e ∙ ap (λ n. n + (if nat_eq y z then 1 else 0) * k) (sym r)
    at (go cs ls n) = omega arith

other_by : (b c : Bool) (k : ℕ) → (b ≡ true → c ≡ false) → (if b then k else (if c then 1 else 0)) ≡ (if c then 1 else 0) + (if b then 1 else 0) * k
other_by true true k n = absurd (let e : true ≡ false = n refl in cc)
other_by true false k n = omega arith
other_by false c k n = omega arith

-- what is raised besides the exception that is handled
others_raised : (y z k : ℕ) → (y ≡ z → ⊥) → (t : TermTree ℕ) → tree_weight (with_raise (just_raise y) z k) t ≡ raises y t + raises z t * k
others_raised y z k n t = added (just_raise y) (with_raise (just_raise y) z k) (just_raise z) k (omega arith) at t
  where
    at : (l : TermLeaf ℕ) → leaf_weight (with_raise (just_raise y) z k) l ≡ leaf_weight (just_raise y) l + leaf_weight (just_raise z) l * k
    at vanish = omega arith
    at nothing = omega arith
    at (raised x) = other_by (nat_eq x z) (nat_eq x y) k (λ e. ne_eqb x y (λ d. n (sym d ∙ eqb-true x z e)))
    at (go cs ls n) = omega arith

same_by : (b : Bool) (k : ℕ) → (if b then k else (if b then 1 else 0)) ≡ (if b then 1 else 0) * k
same_by true k = omega arith
same_by false k = omega arith

-- of the exception that is handled, only what the handler raises is left
same_raised : (z k : ℕ) (t : TermTree ℕ) → tree_weight (with_raise (just_raise z) z k) t ≡ raises z t * k
same_raised z k t = let h = added no_weight (with_raise (just_raise z) z k) (just_raise z) k (omega arith) at t in let e = weightless t in omega (arith, h, e)
  where
    at : (l : TermLeaf ℕ) → leaf_weight (with_raise (just_raise z) z k) l ≡ leaf_weight no_weight l + leaf_weight (just_raise z) l * k
    at vanish = omega arith
    at nothing = omega arith
    at (raised x) = let e = same_by (nat_eq x z) k in omega (arith, e)
    at (go cs ls n) = omega arith

left_by : (b : Bool) (y z k : ℕ) (t : TermTree ℕ) → nat_eq y z ≡ b → tree_weight (with_raise (just_raise y) z k) t ≡ (if b then 0 else raises y t) + raises z t * k
left_by true y z k t e = let d = eqb-true y z e in ap (λ x. tree_weight (with_raise (just_raise x) z k) t) d ∙ (let h = same_raised z k t in omega (arith, h))
left_by false y z k t e = others_raised y z k (eqb-false y z e) t

pub catch_row : CatchRow
catch_row z h u t =
    let one = nodes_positive u in
    let m : nodes u ≡ 1 + (nodes u - 1) = omega (arith, one) in
    record {
      nodes_are = catch_weight each_one z h u t ∙ more_raise each_one z (nodes u) 1 (nodes u - 1) refl m t;
      vanishes_are = catch_weight just_vanish z h u t ∙ more_raise just_vanish z (vanishes u) 0 (vanishes u) refl (omega arith) t;
      goes_are = catch_weight just_go z h u t ∙ more_raise just_go z (goes u) 0 (goes u) refl (omega arith) t;
      raises_are = λ y. catch_weight (just_raise y) z h u t ∙ left_by (nat_eq y z) y z (raises y u) t refl;
    }

pub nodes_are_size : NodesAreSize
nodes_are_size t = nodes_size t

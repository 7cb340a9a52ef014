-- The tree in which a draw goes is that of what a term offers.
use Rattle.std.proofs.Common.{◌≡◌, ◌≢◌, ℕ, zero, suc, ◌+◌, ◌<◌, List, [], ◌∷◌, ◌++◌, length, Ok, Err, Some, None, refl, ap, sym, ◌∙◌, subst, arith, length-append}
use Rattle.std.specs.declared.result.Result.{Result}
use Rattle.lt_num.specs.declared.fault.Arith.{Arith}
use Rattle.lt_term.specs.Offers.{TermTree}
use Rattle.lt_term.specs.Process.{Process}
use Rattle.lt_term.specs.Tree as t
use Rattle.lt_term.specs.Tree.{Lasts, Weight, Branches, flattened, flattened_each}
use Rattle.lt_draw_path.specs.Tree as l
use Rattle.lt_draw_path.specs.Tree.{Tree, leaf, ordered, weighted, spoilt, no_branch, branch, size, size_of_each, weights_of, leaf_of, branch_at, part_of, below, before, before_each, HasPart, Leads}
use Rattle.lt_walk.specs.Before.{nodes_of_first, nodes_before, nodes_before_in}
use Rattle.lt_marks.specs.Path.{Arrival, at_leaf, at_ordered, at_weighted, at_path, at_branch}
use Rattle.lt_marks.specs.Walk.{arrival}
use Rattle.lt_marks_laws.specs.Valued.{Spot, plain, broken, Weigher, with_worth, worths, worth_or_none, choice_of, valued, valued_each, IsChoiceOf, IsOrdered, Agrees, IsSpotOf, SizesAgree, PlacesAgree, WalksAgree, LeavesAgree}

module _ (weigh : Weigher ℕ) where
  -- Sizes.

  choice_size : (r : Result (List ℕ) Arith) (bs : l.Branches Spot) → size (choice_of r bs) ≡ 1 + size_of_each bs
  choice_size (Ok ws) bs = refl
  choice_size (Err fault) bs = refl

  mutual
    same_size : (u : TermTree ℕ) → size (valued weigh u) ≡ t.size u
    same_size (t.leaf m) = refl
    same_size (t.ordered a b) =
        let x : size (valued weigh a) ≡ length (flattened a) = same_size a in
        let y : size (valued weigh b) ≡ length (flattened b) = same_size b in
        let z : length (flattened a ++ flattened b) ≡ length (flattened a) + length (flattened b) = length-append (flattened a) (flattened b) in
        omega (arith, x, y, z)
    same_size (t.weighted ls bs) =
        let x : size (choice_of (worths weigh ls (t.weights_of bs)) (valued_each weigh ls bs)) ≡ 1 + size_of_each (valued_each weigh ls bs) = choice_size (worths weigh ls (t.weights_of bs)) (valued_each weigh ls bs) in
        let y : size_of_each (valued_each weigh ls bs) ≡ length (flattened_each bs) = same_size_each ls bs in
        omega (arith, x, y)

    same_size_each : (ls : Lasts) (bs : Branches ℕ (Process ℕ)) → size_of_each (valued_each weigh ls bs) ≡ length (flattened_each bs)
    same_size_each ls t.no_branch = refl
    same_size_each ls (t.branch w a bs) =
        let x : size (valued weigh a) ≡ length (flattened a) = same_size a in
        let y : size_of_each (valued_each weigh ls bs) ≡ length (flattened_each bs) = same_size_each ls bs in
        let z : length (flattened a ++ flattened_each bs) ≡ length (flattened a) + length (flattened_each bs) = length-append (flattened a) (flattened_each bs) in
        omega (arith, x, y, z)

  -- Weights.

  worth_front : (a : Result ℕ Arith) (r : Result (List ℕ) Arith) (vs : List ℕ) → with_worth a r ≡ Ok vs → (ws : List ℕ) × (r ≡ Ok ws) × (worth_or_none a ∷ ws ≡ vs)
  worth_front (Ok w) (Ok ws) vs e = (ws, refl, (let d : w ∷ ws ≡ vs = cc in d))
  worth_front (Ok w) (Err fault) vs e = absurd (cc)
  worth_front (Err fault) r vs e = absurd (cc)

  pub weights_are : (ls : Lasts) (bs : Branches ℕ (Process ℕ)) (vs : List ℕ) → worths weigh ls (t.weights_of bs) ≡ Ok vs → weights_of (valued_each weigh ls bs) ≡ vs
  weights_are ls t.no_branch vs e = let d : [] ≡ vs = cc in d
  weights_are ls (t.branch w a bs) vs e =
      let s = worth_front (weigh ls w) (worths weigh ls (t.weights_of bs)) vs e in
      ap (λ ws. worth_or_none (weigh ls w) ∷ ws) (weights_are ls bs s.0 s.1) ∙ s.2

  pub worth_count : (ls : Lasts) (ws : List (Weight ℕ)) (vs : List ℕ) → worths weigh ls ws ≡ Ok vs → length vs ≡ length ws
  worth_count ls [] vs e = let d : [] ≡ vs = cc in ap length (sym d)
  worth_count ls (w ∷ ws) vs e =
      let s = worth_front (weigh ls w) (worths weigh ls ws) vs e in
      ap length (sym s.2) ∙ ap suc (worth_count ls ws s.0 s.1)

  is_choice : (r : Result (List ℕ) Arith) (bs : l.Branches Spot) → ((vs : List ℕ) → r ≡ Ok vs → weights_of bs ≡ vs) → IsChoiceOf r (choice_of r bs)
  is_choice (Ok vs) bs f = f vs refl
  is_choice (Err fault) bs f = refl

  -- Paths.

  one_branch : (r : Result (List ℕ) Arith) (bs : l.Branches Spot) (k : ℕ) → HasPart (choice_of r bs) k → (k < length (weights_of bs)) × (part_of (choice_of r bs) k ≡ branch_at bs k)
  one_branch (Ok vs) bs k h = (h, refl)
  one_branch (Err fault) bs k h = absurd h

  mutual
    pub agrees : (u : TermTree ℕ) (ks : List ℕ) → Leads (valued weigh u) ks → Agrees weigh (at_path u ks) (below (valued weigh u) ks)
    agrees (t.leaf m) [] h = refl
    agrees (t.leaf m) (k ∷ ks) h = absurd h.0
    agrees (t.ordered a b) [] h = tt
    agrees (t.ordered a b) (zero ∷ ks) h = agrees a ks h.1
    agrees (t.ordered a b) (suc k ∷ ks) h = agrees b ks h.1
    agrees (t.weighted ls bs) [] h = is_choice (worths weigh ls (t.weights_of bs)) (valued_each weigh ls bs) (weights_are ls bs)
    agrees (t.weighted ls bs) (k ∷ ks) h =
        let o = one_branch (worths weigh ls (t.weights_of bs)) (valued_each weigh ls bs) k h.0 in
        let P : Tree Spot → Type 0 = λ u. Leads u ks in
        let Q : Tree Spot → Type 0 = λ u. Agrees weigh (at_branch bs k ks) (below u ks) in
        subst Q (sym o.1) (each_agrees ls bs k ks o.0 (subst P o.1 h.1))

    each_agrees : (ls : Lasts) (bs : Branches ℕ (Process ℕ)) (k : ℕ) (ks : List ℕ) → k < length (weights_of (valued_each weigh ls bs)) → Leads (branch_at (valued_each weigh ls bs) k) ks
        → Agrees weigh (at_branch bs k ks) (below (branch_at (valued_each weigh ls bs) k) ks)
    each_agrees ls t.no_branch k ks l h = absurd (omega (arith, l))
    each_agrees ls (t.branch w a bs) zero ks l h = agrees a ks h
    each_agrees ls (t.branch w a bs) (suc k) ks l h = each_agrees ls bs k ks (omega (arith, l)) h

  -- Places.

  first_nodes : (ls : Lasts) (bs : Branches ℕ (Process ℕ)) (k : ℕ) → before_each (valued_each weigh ls bs) k ≡ nodes_of_first bs k
  first_nodes ls t.no_branch k = refl
  first_nodes ls (t.branch w a bs) zero = refl
  first_nodes ls (t.branch w a bs) (suc k) = λ i. same_size a i + first_nodes ls bs k i

  choice_before : (r : Result (List ℕ) Arith) (bs : l.Branches Spot) (k : ℕ) → HasPart (choice_of r bs) k → before (choice_of r bs) k ≡ before_each bs k
  choice_before (Ok vs) bs k h = refl
  choice_before (Err fault) bs k h = absurd h

  mutual
    same_place : (u : TermTree ℕ) (ks : List ℕ) (k : ℕ) → Leads (valued weigh u) ks → HasPart (below (valued weigh u) ks) k → before (below (valued weigh u) ks) k ≡ nodes_before u ks k
    same_place (t.leaf m) [] k h p = refl
    same_place (t.leaf m) (i ∷ ks) k h p = absurd h.0
    same_place (t.ordered a b) [] zero h p = refl
    same_place (t.ordered a b) [] (suc k) h p = same_size a
    same_place (t.ordered a b) (zero ∷ ks) k h p = same_place a ks k h.1 p
    same_place (t.ordered a b) (suc i ∷ ks) k h p = same_place b ks k h.1 p
    same_place (t.weighted ls bs) [] k h p = choice_before (worths weigh ls (t.weights_of bs)) (valued_each weigh ls bs) k p ∙ first_nodes ls bs k
    same_place (t.weighted ls bs) (i ∷ ks) k h p =
        let o = one_branch (worths weigh ls (t.weights_of bs)) (valued_each weigh ls bs) i h.0 in
        let P : Tree Spot → Type 0 = λ u. Leads u ks in
        let Q : Tree Spot → Type 0 = λ u. HasPart (below u ks) k in
        ap (λ u. before (below u ks) k) o.1 ∙ same_place_in ls bs i ks k o.0 (subst P o.1 h.1) (subst Q o.1 p)

    same_place_in : (ls : Lasts) (bs : Branches ℕ (Process ℕ)) (i : ℕ) (ks : List ℕ) (k : ℕ) → i < length (weights_of (valued_each weigh ls bs)) → Leads (branch_at (valued_each weigh ls bs) i) ks
        → HasPart (below (branch_at (valued_each weigh ls bs) i) ks) k → before (below (branch_at (valued_each weigh ls bs) i) ks) k ≡ nodes_before_in bs i ks k
    same_place_in ls t.no_branch i ks k l h p = absurd (omega (arith, l))
    same_place_in ls (t.branch w a bs) zero ks k l h p = same_place a ks k h p
    same_place_in ls (t.branch w a bs) (suc i) ks k l h p = same_place_in ls bs i ks k (omega (arith, l)) h p

  -- Leaves.

  -- behind a part that there isn't there is no leaf
  abbrev no_part : Tree Spot
  no_part = weighted no_branch

  nowhere : (ks : List ℕ) → leaf_of (below no_part ks) ≡ None
  nowhere [] = refl
  nowhere (k ∷ ks) = nowhere ks

  none_at : (bs : l.Branches Spot) (k : ℕ) (ks : List ℕ) (n : Spot) → leaf_of (below (branch_at bs k) ks) ≡ Some n → k < length (weights_of bs)
  none_at no_branch k ks n e = absurd (let d = nowhere ks in cc)
  none_at (branch w u bs) zero ks n e = omega arith
  none_at (branch w u bs) (suc k) ks n e = let m = none_at bs k ks n e in omega (arith, m)

  has_part : (u : Tree Spot) (k : ℕ) (ks : List ℕ) (n : Spot) → leaf_of (below (part_of u k) ks) ≡ Some n → HasPart u k
  has_part (leaf m) k ks n e = absurd (let d = nowhere ks in cc)
  has_part (spoilt m bs) k ks n e = absurd (let d = nowhere ks in cc)
  has_part (ordered a b) k ks n e = tt
  has_part (weighted bs) k ks n e = none_at bs k ks n e

  leads : (u : Tree Spot) (ks : List ℕ) (n : Spot) → leaf_of (below u ks) ≡ Some n → Leads u ks
  leads u [] n e = tt
  leads u (k ∷ ks) n e = (has_part u k ks n e, leads (part_of u k) ks n e)

  faulty : (r : Result (List ℕ) Arith) (u : Tree Spot) (n : Spot) → IsChoiceOf r u → leaf_of u ≡ Some n → (fault : Arith) × (r ≡ Err fault) × (broken fault ≡ n)
  faulty (Ok ws) (weighted bs) n h e = absurd (cc)
  faulty (Ok ws) (leaf m) n h e = absurd h
  faulty (Ok ws) (ordered a b) n h e = absurd h
  faulty (Ok ws) (spoilt m bs) n h e = absurd h
  faulty (Err fault) (weighted bs) n h e = absurd h
  faulty (Err fault) (leaf m) n h e = absurd h
  faulty (Err fault) (ordered a b) n h e = absurd h
  faulty (Err fault) (spoilt m bs) n h e = (fault, refl, (let d : m ≡ n = cc in sym h ∙ d))

  no_leaf : (u : Tree Spot) (n : Spot) → IsOrdered u → leaf_of u ≢ Some n
  no_leaf (ordered a b) n h e = cc
  no_leaf (leaf m) n h e = h
  no_leaf (weighted bs) n h e = h
  no_leaf (spoilt m bs) n h e = h

  leaf_is : (a : Arrival ℕ (Process ℕ)) (u : Tree Spot) (n : Spot) → Agrees weigh a u → leaf_of u ≡ Some n → IsSpotOf weigh n a
  leaf_is (at_leaf m []) u n h e = let d : Some (plain m) ≡ Some n = sym (ap leaf_of h) ∙ e in cc
  leaf_is (at_leaf m (k ∷ ks)) u n h e = h
  leaf_is at_ordered u n h e = no_leaf u n h e
  leaf_is (at_weighted ls ws) u n h e = faulty (worths weigh ls ws) u n h e

pub sizes_agree : SizesAgree
sizes_agree weigh u = same_size weigh u

pub places_agree : PlacesAgree
places_agree weigh u path k h p = same_place weigh u path k h p

pub walks_agree : WalksAgree
walks_agree weigh u path r after n f h = let P : Arrival ℕ (Process ℕ) → Type 0 = λ a. Agrees weigh a (below (valued weigh u) path) in subst P f.stands (agrees weigh u path h)

pub leaves_agree : LeavesAgree
leaves_agree weigh u path r after n spot f e = leaf_is weigh (arrival r after.rest f.found n) (below (valued weigh u) path) spot (walks_agree weigh u path r after n f (leads weigh (valued weigh u) path spot e)) e

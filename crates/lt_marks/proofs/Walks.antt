-- Walks in trees whose leaves are replaced.
use Rattle.std.proofs.Common.{◌≡◌, ℕ, zero, suc, List, [], ◌∷◌, ◌++◌, if◌then◌else◌, length, take, refl, ap, sym, ◌∙◌, append-nil, append_assoc}
use Rattle.std.specs.Prelude.{slice_index_or}
use Rattle.std.proofs.lemmas.Bool.{eq-eqb, ne_eqb}
use Rattle.std.proofs.Math.Seq.{take-append_seam}
use Rattle.lt_num.specs.declared.kind.Kind.{Kind}
use Rattle.lt_num.specs.declared.value.Value.{Value}
use Rattle.lt_term.specs.declared.last.Last.{Last}
use Rattle.lt_term.specs.Next.{followed_by, beside, asserting, with_scope, catching, trying, kept}
use Rattle.lt_term.specs.Offers.{TermTree, TermLeaf, in_seq, in_turn, joined, in_par, in_assert, in_exist, in_catch, in_try, offers_of, offers_of_each}
use Rattle.lt_term.specs.Process.{Process, eps, dead, Choices, no_choice, choice}
use Rattle.lt_term.specs.Tree.{Lasts, Leaf, vanish, nothing, raised, go, expression, Tree, leaf, ordered, weighted, Branches, no_branch, branch, with_leaves, branches_with_leaves, with_local, branches_with_local, weights_of}
use Rattle.lt_marks.specs.Choices.{weights_in}
use Rattle.lt_marks.specs.Path.{at_leaf, at_weighted, at_path, at_branch, behind, beside_local}
use Rattle.lt_marks.specs.View.{choices_of, body_each}
use Rattle.lt_marks.specs.Walk.{State, Found, Follows, arrival, loaded, settled, closed}
use Rattle.lt_marks.specs.declared.track.Parts.{Parts}
use Rattle.lt_marks.specs.declared.track.Parts.TheVariants.{End, Part'}
use Rattle.lt_marks.specs.declared.walk.Reached.{Reached}
use Rattle.lt_marks.specs.declared.walk.Reached.TheVariants as reached

-- Replaced leaves.

weights_of-with_leaves : {C N M : Type 0} (f : Leaf C N → Tree C M) (bs : Branches C N) → weights_of (branches_with_leaves f bs) ≡ weights_of bs
weights_of-with_leaves f no_branch = refl
weights_of-with_leaves f (branch w t bs) = ap (λ ws. w ∷ ws) (weights_of-with_leaves f bs)

module _ {C N M : Type 0} (f : Leaf C N → Tree C M) (none : f nothing ≡ leaf nothing) where
  mutual
    pub at_path-with_leaves : (t : Tree C N) (ks : List ℕ) → at_path (with_leaves f t) ks ≡ behind f (at_path t ks)
    at_path-with_leaves (leaf l) ks = refl
    at_path-with_leaves (ordered a b) [] = refl
    at_path-with_leaves (ordered a b) (zero ∷ ks) = at_path-with_leaves a ks
    at_path-with_leaves (ordered a b) (suc k ∷ ks) = at_path-with_leaves b ks
    at_path-with_leaves (weighted ls bs) [] = ap (at_weighted ls) (weights_of-with_leaves f bs)
    at_path-with_leaves (weighted ls bs) (k ∷ ks) = at_branch-with_leaves bs k ks

    at_branch-with_leaves : (bs : Branches C N) (k : ℕ) (ks : List ℕ) → at_branch (branches_with_leaves f bs) k ks ≡ behind f (at_branch bs k ks)
    at_branch-with_leaves no_branch k ks = ap (λ t. at_path t ks) (sym none)
    at_branch-with_leaves (branch w t bs) zero ks = at_path-with_leaves t ks
    at_branch-with_leaves (branch w t bs) (suc k) ks = at_branch-with_leaves bs k ks

module _ {C N : Type 0} (x : ℕ × Last) where
  weights_of-with_local : (bs : Branches C N) → weights_of (branches_with_local x bs) ≡ weights_of bs
  weights_of-with_local no_branch = refl
  weights_of-with_local (branch w t bs) = ap (λ ws. w ∷ ws) (weights_of-with_local bs)

  mutual
    pub at_path-with_local : (t : Tree C N) (ks : List ℕ) → at_path (with_local x t) ks ≡ beside_local x (at_path t ks)
    at_path-with_local (leaf l) ks = refl
    at_path-with_local (ordered a b) [] = refl
    at_path-with_local (ordered a b) (zero ∷ ks) = at_path-with_local a ks
    at_path-with_local (ordered a b) (suc k ∷ ks) = at_path-with_local b ks
    at_path-with_local (weighted ls bs) [] = ap (at_weighted (x ∷ ls)) (weights_of-with_local bs)
    at_path-with_local (weighted ls bs) (k ∷ ks) = at_branch-with_local bs k ks

    at_branch-with_local : (bs : Branches C N) (k : ℕ) (ks : List ℕ) → at_branch (branches_with_local x bs) k ks ≡ beside_local x (at_branch bs k ks)
    at_branch-with_local no_branch k ks = refl
    at_branch-with_local (branch w t bs) zero ks = at_path-with_local t ks
    at_branch-with_local (branch w t bs) (suc k) ks = at_branch-with_local bs k ks

-- Walks.

-- nothing is found
abbrev none_found : Found
none_found = record { constraints = []; lasts = []; weights = [] }

-- choices that were taken before don't matter
reload : (r : Reached) (s : State) (js ks : List ℕ) (f : Found) → loaded r (record s { rest = js }) ks f ≡ loaded r s ks f
reload reached.Vanish s js ks f = refl
reload reached.Nothing s js ks f = refl
reload (reached.Raised z) s js ks f = refl
reload reached.Go s js ks f = refl
reload reached.Ordered s js ks f = refl
reload reached.Weighted s js ks f = refl

-- what a second walk holds, where the first one has only taken choices
held_behind : (r : Reached) (s s1 s2 : State) (f : Found) → s1 ≡ record s { rest = s1.rest } → s2 ≡ loaded r s1 s2.rest f → s2 ≡ loaded r s s2.rest f
held_behind r s s1 s2 f e h = h ∙ ap (λ u. loaded r u s2.rest f) e ∙ reload r s s1.rest s2.rest f

-- a walk in a tree is one in an equal tree
pub on : (t u : TermTree ℕ) (s s2 : State) (r : Reached) (n m : Process ℕ) → t ≡ u → m ≡ n → Follows u s r s2 n → Follows t s r s2 m
on t u s s2 r n m e d h = record { found = h.found; stands = ap (λ v. at_path v s.rest) e ∙ h.stands ∙ ap (arrival r s2.rest h.found) (sym d); holds = h.holds }

-- a walk that ends in the root
pub vanishes : (s : State) (n : Process ℕ) → Follows (leaf vanish) s reached.Vanish s n
vanishes s n = record { found = none_found; stands = refl; holds = refl }

pub does_nothing : (s : State) (n : Process ℕ) → Follows (leaf nothing) s reached.Nothing s n
does_nothing s n = record { found = none_found; stands = refl; holds = refl }

pub raises : (z : ℕ) (s : State) (n : Process ℕ) → Follows (leaf (raised z)) s (reached.Raised z) s n
raises z s n = record { found = none_found; stands = refl; holds = refl }

pub meets : (c : ℕ) (s s2 : State) → s2 ≡ record s { constraints = s.constraints ++ c ∷ [] } → Follows (leaf (go (c ∷ []) [] eps)) s reached.Go s2 eps
meets c s s2 e =
    let rest : s.rest ≡ s2.rest = ap (λ u. u.rest) (sym e) in
    record {
      found = record { constraints = c ∷ []; lasts = []; weights = [] };
      stands = ap (at_leaf (go (c ∷ []) [] eps)) rest;
      holds = e ∙ (λ i. record s { rest = rest i; constraints = s.constraints ++ c ∷ []; lasts = sym (append-nil s.lasts) i });
    }

-- a walk to a leaf of the first tree, and on in the tree that replaces it
leads : (f : TermLeaf ℕ → TermTree ℕ) → f nothing ≡ leaf nothing → (l : TermLeaf ℕ) (t : TermTree ℕ) (s s1 : State) (v : Reached) (p : Process ℕ)
    → ((js : List ℕ) (g : Found) → arrival v js g p ≡ at_leaf l js) → ((js : List ℕ) (g : Found) → loaded v s js g ≡ record s { rest = js })
    → Follows t s v s1 p → (r : Reached) (s2 : State) (q : Process ℕ) → Follows (f l) s1 r s2 q → Follows (with_leaves f t) s r s2 q
leads f none l t s s1 v p leaves empty h r s2 q k = record {
  found = k.found;
  stands = at_path-with_leaves f none t s.rest ∙ ap (behind f) (h.stands ∙ leaves s1.rest h.found) ∙ k.stands;
  holds = held_behind r s s1 s2 k.found (h.holds ∙ empty s1.rest h.found) k.holds;
}

-- a walk to where nothing is replaced but what comes next
stays : (f : TermLeaf ℕ → TermTree ℕ) → f nothing ≡ leaf nothing → (t : TermTree ℕ) (s s2 : State) (r : Reached) (p q : Process ℕ)
    → ((js : List ℕ) (g : Found) → behind f (arrival r js g p) ≡ arrival r js g q) → Follows t s r s2 p → Follows (with_leaves f t) s r s2 q
stays f none t s s2 r p q e h = record { found = h.found; stands = at_path-with_leaves f none t s.rest ∙ ap (behind f) h.stands ∙ e s2.rest h.found; holds = h.holds }

-- Sequences, and turns.

first_arrival : (b : Process ℕ) (u : TermTree ℕ) (r : Reached) (js : List ℕ) (g : Found) (p : Process ℕ) → (r ≡ reached.Vanish → ⊥) → behind (in_seq b u) (arrival r js g p) ≡ arrival r js g (followed_by p b)
first_arrival b u reached.Vanish js g p n = absurd (n refl)
first_arrival b u reached.Nothing js g p n = refl
first_arrival b u (reached.Raised z) js g p n = refl
first_arrival b u reached.Go js g p n = refl
first_arrival b u reached.Ordered js g p n = refl
first_arrival b u reached.Weighted js g p n = refl

-- the first part of a sequence, or a turn, that isn't over
pub first_stays : (b : Process ℕ) (u t : TermTree ℕ) (s s2 : State) (r : Reached) (p : Process ℕ) → (r ≡ reached.Vanish → ⊥) → Follows t s r s2 p → Follows (with_leaves (in_seq b u) t) s r s2 (followed_by p b)
first_stays b u t s s2 r p n h = stays (in_seq b u) refl t s s2 r p (followed_by p b) (λ js g. first_arrival b u r js g p n) h

-- one that is over
pub first_leads : (b : Process ℕ) (u t : TermTree ℕ) (s s1 : State) (p : Process ℕ) → Follows t s reached.Vanish s1 p → (r : Reached) (s2 : State) (q : Process ℕ) → Follows u s1 r s2 q → Follows (with_leaves (in_seq b u) t) s r s2 q
first_leads b u t s s1 p h r s2 q k = leads (in_seq b u) refl vanish t s s1 reached.Vanish p (λ js g. refl) (λ js g. refl) h r s2 q k

-- a turn that takes no instant
pub turn_is_none : (b : Process ℕ) (t : TermTree ℕ) (s s1 : State) (p q : Process ℕ) → Follows t s reached.Vanish s1 p → Follows (with_leaves (in_turn b) t) s reached.Nothing s1 q
turn_is_none b t s s1 p q h = first_leads b (leaf nothing) t s s1 p h reached.Nothing s1 q (does_nothing s1 q)

-- Orders.

pub stops : (a b : TermTree ℕ) (s : State) (n : Process ℕ) → s.rest ≡ [] → Follows (ordered a b) s reached.Ordered s n
stops a b s n e = record { found = none_found; stands = ap (at_path (ordered a b)) e; holds = refl }

pub goes_first : (a b : TermTree ℕ) (s s2 : State) (ks : List ℕ) (r : Reached) (n : Process ℕ) → s.rest ≡ zero ∷ ks → Follows a (record s { rest = ks }) r s2 n → Follows (ordered a b) s r s2 n
goes_first a b s s2 ks r n e k = record { found = k.found; stands = ap (at_path (ordered a b)) e ∙ k.stands; holds = k.holds ∙ reload r s ks s2.rest k.found }

pub goes_second : (a b : TermTree ℕ) (s s2 : State) (i : ℕ) (ks : List ℕ) (r : Reached) (n : Process ℕ) → s.rest ≡ suc i ∷ ks → Follows b (record s { rest = ks }) r s2 n → Follows (ordered a b) s r s2 n
goes_second a b s s2 i ks r n e k = record { found = k.found; stands = ap (at_path (ordered a b)) e ∙ k.stands; holds = k.holds ∙ reload r s ks s2.rest k.found }

-- Choices by weight.

pub weighs : (bs : Branches ℕ (Process ℕ)) (s s2 : State) (n : Process ℕ) → s.rest ≡ [] → s2 ≡ record s { weights = weights_of bs } → Follows (weighted [] bs) s reached.Weighted s2 n
weighs bs s s2 n e k =
    let rest : s.rest ≡ s2.rest = ap (λ u. u.rest) (sym k) in
    record {
      found = record { constraints = []; lasts = []; weights = weights_of bs };
      stands = ap (at_path (weighted [] bs)) e;
      holds = k ∙ (λ i. record s { rest = rest i; scope = sym (append-nil s.scope) i; weights = weights_of bs });
    }

pub chooses : (bs : Branches ℕ (Process ℕ)) (k : ℕ) (u : TermTree ℕ) (s s2 : State) (ks : List ℕ) (r : Reached) (n : Process ℕ) → s.rest ≡ k ∷ ks → at_branch bs k ks ≡ at_path u ks
    → Follows u (record s { rest = ks }) r s2 n → Follows (weighted [] bs) s r s2 n
chooses bs k u s s2 ks r n e d f = record { found = f.found; stands = ap (at_path (weighted [] bs)) e ∙ d ∙ f.stands; holds = f.holds ∙ reload r s ks s2.rest f.found }

-- the alternative of a place
pub branch_of : (kinds : List Kind) (ps : Parts) (k : ℕ) (ks : List ℕ) → at_branch (offers_of_each kinds (choices_of ps)) k ks ≡ at_path (offers_of kinds (slice_index_or (body_each ps) k dead)) ks
branch_of kinds End k ks = refl
branch_of kinds (Part' w p t q ps) zero ks = refl
branch_of kinds (Part' w p t q ps) (suc k) ks = branch_of kinds ps k ks

pub weights_are : (kinds : List Kind) (cs : Choices ℕ) → weights_of (offers_of_each kinds cs) ≡ weights_in cs
weights_are kinds no_choice = refl
weights_are kinds (choice w t cs) = ap (λ ws. expression w ∷ ws) (weights_are kinds cs)

-- Two sides.

-- the second side where the first is over
pub side_leads : (t u : TermTree ℕ) (s s1 : State) (p : Process ℕ) → Follows t s reached.Vanish s1 p → (r : Reached) (s2 : State) (q : Process ℕ) → Follows u s1 r s2 q → Follows (with_leaves (in_par u) t) s r s2 q
side_leads t u s s1 p h r s2 q k = leads (in_par u) refl vanish t s s1 reached.Vanish p (λ js g. refl) (λ js g. refl) h r s2 q k

module _ (t u : TermTree ℕ) (s s1 s2 : State) (p q : Process ℕ) (h : Follows t s reached.Go s1 p) where
  to_second : (r : Reached) (k : Follows u s1 r s2 q) → at_path (with_leaves (in_par u) t) s.rest ≡ behind (joined h.found.constraints h.found.lasts p) (arrival r s2.rest k.found q)
  to_second r k =
      at_path-with_leaves (in_par u) refl t s.rest
      ∙ ap (behind (in_par u)) h.stands
      ∙ at_path-with_leaves (joined h.found.constraints h.found.lasts p) refl u s1.rest
      ∙ ap (behind (joined h.found.constraints h.found.lasts p)) k.stands

  -- both sides in one instant
  pub both_go : Follows u s1 reached.Go s2 q → Follows (with_leaves (in_par u) t) s reached.Go s2 (beside p q)
  both_go k = record {
    found = record { constraints = h.found.constraints ++ k.found.constraints; lasts = h.found.lasts ++ k.found.lasts; weights = [] };
    stands = to_second reached.Go k;
    holds =
        k.holds
        ∙ ap (λ v. loaded reached.Go v s2.rest k.found) h.holds
        ∙ (λ i. record s { rest = s2.rest; constraints = append_assoc s.constraints h.found.constraints k.found.constraints i; lasts = append_assoc s.lasts h.found.lasts k.found.lasts i });
  }

  -- an instant of the first side alone
  pub first_goes : Follows u s1 reached.Vanish s2 q → Follows (with_leaves (in_par u) t) s reached.Go s2 p
  first_goes k = record {
    found = h.found;
    stands = to_second reached.Vanish k;
    holds = k.holds ∙ ap {A = State} (λ v. record v { rest = s2.rest }) h.holds;
  }

joined_arrival : (cs : List ℕ) (ls : Lasts) (p : Process ℕ) (r : Reached) (js : List ℕ) (g : Found) (q x : Process ℕ) → (r ≡ reached.Go → ⊥) → (r ≡ reached.Vanish → ⊥) → behind (joined cs ls p) (arrival r js g q) ≡ arrival r js g x
joined_arrival cs ls p reached.Vanish js g q x n v = absurd (v refl)
joined_arrival cs ls p reached.Nothing js g q x n v = refl
joined_arrival cs ls p (reached.Raised z) js g q x n v = refl
joined_arrival cs ls p reached.Go js g q x n v = absurd (n refl)
joined_arrival cs ls p reached.Ordered js g q x n v = refl
joined_arrival cs ls p reached.Weighted js g q x n v = refl

-- what was met in a first side is taken back
abbrev pub taken_back : State → State → State
taken_back s s2 = record s2 { constraints = take (length s.constraints) s2.constraints; lasts = take (length s.lasts) s2.lasts }

back : (s : State) (cs : List ℕ) (ls : Lasts) (r : Reached) (js ks : List ℕ) (g : Found) → (r ≡ reached.Go → ⊥)
    → taken_back s (loaded r (record s { rest = js; constraints = s.constraints ++ cs; lasts = s.lasts ++ ls }) ks g) ≡ loaded r s ks g
back s cs ls reached.Go js ks g n = absurd (n refl)
back s cs ls reached.Vanish js ks g n = λ i. record s { rest = ks; constraints = take-append_seam s.constraints cs i; lasts = take-append_seam s.lasts ls i }
back s cs ls reached.Nothing js ks g n = λ i. record s { rest = ks; constraints = take-append_seam s.constraints cs i; lasts = take-append_seam s.lasts ls i }
back s cs ls (reached.Raised z) js ks g n = λ i. record s { rest = ks; constraints = take-append_seam s.constraints cs i; lasts = take-append_seam s.lasts ls i }
back s cs ls reached.Ordered js ks g n = λ i. record s { rest = ks; constraints = take-append_seam s.constraints cs i; lasts = take-append_seam s.lasts ls i }
back s cs ls reached.Weighted js ks g n = λ i. record s { rest = ks; constraints = take-append_seam s.constraints cs i; lasts = take-append_seam s.lasts ls i; scope = s.scope ++ g.lasts; weights = g.weights }

-- an instant of the first side, and none of the second
pub second_stops : (t u : TermTree ℕ) (s s1 s2 s3 : State) (r : Reached) (p q x : Process ℕ) → (r ≡ reached.Go → ⊥) → (r ≡ reached.Vanish → ⊥) → s3 ≡ taken_back s s2
    → Follows t s reached.Go s1 p → Follows u s1 r s2 q → Follows (with_leaves (in_par u) t) s r s3 x
second_stops t u s s1 s2 s3 r p q x n v e h k =
    let rest : s2.rest ≡ s3.rest = ap (λ w. w.rest) (sym e) in
    record {
      found = k.found;
      stands = to_second t u s s1 s2 p q h r k ∙ joined_arrival h.found.constraints h.found.lasts p r s2.rest k.found q x n v ∙ ap (λ js. arrival r js k.found x) rest;
      holds =
          e
          ∙ ap (taken_back s) (k.holds ∙ ap (λ w. loaded r w s2.rest k.found) h.holds)
          ∙ back s h.found.constraints h.found.lasts r s1.rest s2.rest k.found n
          ∙ ap (λ js. loaded r s js k.found) rest;
    }

stopped_arrival : (u : TermTree ℕ) (r : Reached) (js : List ℕ) (g : Found) (p x : Process ℕ) → (r ≡ reached.Go → ⊥) → (r ≡ reached.Vanish → ⊥) → behind (in_par u) (arrival r js g p) ≡ arrival r js g x
stopped_arrival u reached.Vanish js g p x n v = absurd (v refl)
stopped_arrival u reached.Nothing js g p x n v = refl
stopped_arrival u (reached.Raised z) js g p x n v = refl
stopped_arrival u reached.Go js g p x n v = absurd (n refl)
stopped_arrival u reached.Ordered js g p x n v = refl
stopped_arrival u reached.Weighted js g p x n v = refl

-- a first side that neither is over nor goes on
pub first_stops : (t u : TermTree ℕ) (s s2 : State) (r : Reached) (p x : Process ℕ) → (r ≡ reached.Go → ⊥) → (r ≡ reached.Vanish → ⊥) → Follows t s r s2 p → Follows (with_leaves (in_par u) t) s r s2 x
first_stops t u s s2 r p x n v h = stays (in_par u) refl t s s2 r p x (λ js g. stopped_arrival u r js g p x n v) h

-- Constraints.

-- an instant has one more constraint
abbrev with_constraint : ℕ → Reached → Found → Found
with_constraint c reached.Go g = record g { constraints = c ∷ g.constraints }
with_constraint c r g = g

assert_arrival : (c : ℕ) (r : Reached) (js : List ℕ) (g : Found) (p : Process ℕ) → behind (in_assert c) (arrival r js g p) ≡ arrival r js (with_constraint c r g) (asserting c p)
assert_arrival c reached.Vanish js g p = refl
assert_arrival c reached.Nothing js g p = refl
assert_arrival c (reached.Raised z) js g p = refl
assert_arrival c reached.Go js g p = refl
assert_arrival c reached.Ordered js g p = refl
assert_arrival c reached.Weighted js g p = refl

assert_holds : (c : ℕ) (s : State) (r : Reached) (ks : List ℕ) (g : Found) → settled r (length s.constraints) (loaded r (record s { constraints = s.constraints ++ c ∷ [] }) ks g) ≡ loaded r s ks (with_constraint c r g)
assert_holds c s reached.Vanish ks g = λ i. record s { rest = ks; constraints = take-append_seam s.constraints (c ∷ []) i }
assert_holds c s reached.Nothing ks g = λ i. record s { rest = ks; constraints = take-append_seam s.constraints (c ∷ []) i }
assert_holds c s (reached.Raised z) ks g = λ i. record s { rest = ks; constraints = take-append_seam s.constraints (c ∷ []) i }
assert_holds c s reached.Go ks g = λ i. record s { rest = ks; constraints = append_assoc s.constraints (c ∷ []) g.constraints i; lasts = s.lasts ++ g.lasts }
assert_holds c s reached.Ordered ks g = λ i. record s { rest = ks; constraints = take-append_seam s.constraints (c ∷ []) i }
assert_holds c s reached.Weighted ks g = λ i. record s { rest = ks; constraints = take-append_seam s.constraints (c ∷ []) i; scope = s.scope ++ g.lasts; weights = g.weights }

settled_rest : (r : Reached) (n : ℕ) (s : State) → (settled r n s).rest ≡ s.rest
settled_rest reached.Vanish n s = refl
settled_rest reached.Nothing n s = refl
settled_rest (reached.Raised z) n s = refl
settled_rest reached.Go n s = refl
settled_rest reached.Ordered n s = refl
settled_rest reached.Weighted n s = refl

pub asserts : (c : ℕ) (t : TermTree ℕ) (s s1 s2 s3 : State) (r : Reached) (n : Process ℕ) → s1 ≡ record s { constraints = s.constraints ++ c ∷ [] } → s3 ≡ settled r (length s.constraints) s2
    → Follows t s1 r s2 n → Follows (with_leaves (in_assert c) t) s r s3 (asserting c n)
asserts c t s s1 s2 s3 r n d e h =
    let rest : s2.rest ≡ s3.rest = sym (settled_rest r (length s.constraints) s2) ∙ ap (λ w. w.rest) (sym e) in
    record {
      found = with_constraint c r h.found;
      stands =
          at_path-with_leaves (in_assert c) refl t s.rest
          ∙ ap (behind (in_assert c)) (ap (λ w. at_path t w.rest) (sym d) ∙ h.stands)
          ∙ assert_arrival c r s2.rest h.found n
          ∙ ap (λ js. arrival r js (with_constraint c r h.found) (asserting c n)) rest;
      holds =
          e
          ∙ ap (settled r (length s.constraints)) (h.holds ∙ ap (λ w. loaded r w s2.rest h.found) d)
          ∙ assert_holds c s r s2.rest h.found
          ∙ ap (λ js. loaded r s js (with_constraint c r h.found)) rest;
    }

-- Locals.

-- an instant, or a choice by weight, has one more local in scope
abbrev with_one_local : ℕ × Last → Reached → Found → Found
with_one_local x reached.Go g = record g { lasts = x ∷ g.lasts }
with_one_local x reached.Weighted g = record g { lasts = x ∷ g.lasts }
with_one_local x r g = g

exist_arrival : (start : Value) (x : ℕ) (v : Last) (r : Reached) (js : List ℕ) (g : Found) (p : Process ℕ) → behind (in_exist start x v) (beside_local (x, v) (arrival r js g p)) ≡ arrival r js (with_one_local (x, v) r g) (with_scope x (kept start v) p)
exist_arrival start x v reached.Vanish js g p = refl
exist_arrival start x v reached.Nothing js g p = refl
exist_arrival start x v (reached.Raised z) js g p = refl
exist_arrival start x v reached.Go js g p = refl
exist_arrival start x v reached.Ordered js g p = refl
exist_arrival start x v reached.Weighted js g p = refl

-- a walk that has entered the scope of a local
abbrev pub opened : ℕ × Last → State → State
opened x s = record s { lasts = s.lasts ++ x ∷ []; scope = s.scope ++ x ∷ [] }

exist_holds : (x : ℕ × Last) (s : State) (r : Reached) (ks : List ℕ) (g : Found) → closed r (length s.lasts) (length s.scope) (loaded r (opened x s) ks g) ≡ loaded r s ks (with_one_local x r g)
exist_holds x s reached.Vanish ks g = λ i. record s { rest = ks; lasts = take-append_seam s.lasts (x ∷ []) i; scope = take-append_seam s.scope (x ∷ []) i }
exist_holds x s reached.Nothing ks g = λ i. record s { rest = ks; lasts = take-append_seam s.lasts (x ∷ []) i; scope = take-append_seam s.scope (x ∷ []) i }
exist_holds x s (reached.Raised z) ks g = λ i. record s { rest = ks; lasts = take-append_seam s.lasts (x ∷ []) i; scope = take-append_seam s.scope (x ∷ []) i }
exist_holds x s reached.Go ks g = λ i. record s { rest = ks; constraints = s.constraints ++ g.constraints; lasts = append_assoc s.lasts (x ∷ []) g.lasts i; scope = take-append_seam s.scope (x ∷ []) i }
exist_holds x s reached.Ordered ks g = λ i. record s { rest = ks; lasts = take-append_seam s.lasts (x ∷ []) i; scope = take-append_seam s.scope (x ∷ []) i }
exist_holds x s reached.Weighted ks g = λ i. record s { rest = ks; lasts = take-append_seam s.lasts (x ∷ []) i; scope = append_assoc s.scope (x ∷ []) g.lasts i; weights = g.weights }

closed_rest : (r : Reached) (n m : ℕ) (s : State) → (closed r n m s).rest ≡ s.rest
closed_rest reached.Vanish n m s = refl
closed_rest reached.Nothing n m s = refl
closed_rest (reached.Raised z) n m s = refl
closed_rest reached.Go n m s = refl
closed_rest reached.Ordered n m s = refl
closed_rest reached.Weighted n m s = refl

pub exists : (start : Value) (x : ℕ) (v : Last) (t : TermTree ℕ) (s s1 s2 s3 : State) (r : Reached) (n : Process ℕ) → s1 ≡ opened (x, v) s → s3 ≡ closed r (length s.lasts) (length s.scope) s2
    → Follows t s1 r s2 n → Follows (with_leaves (in_exist start x v) (with_local (x, v) t)) s r s3 (with_scope x (kept start v) n)
exists start x v t s s1 s2 s3 r n d e h =
    let rest : s2.rest ≡ s3.rest = sym (closed_rest r (length s.lasts) (length s.scope) s2) ∙ ap (λ w. w.rest) (sym e) in
    record {
      found = with_one_local (x, v) r h.found;
      stands =
          at_path-with_leaves (in_exist start x v) refl (with_local (x, v) t) s.rest
          ∙ ap (behind (in_exist start x v)) (at_path-with_local (x, v) t s.rest ∙ ap (beside_local (x, v)) (ap (λ w. at_path t w.rest) (sym d) ∙ h.stands))
          ∙ exist_arrival start x v r s2.rest h.found n
          ∙ ap (λ js. arrival r js (with_one_local (x, v) r h.found) (with_scope x (kept start v) n)) rest;
      holds =
          e
          ∙ ap (closed r (length s.lasts) (length s.scope)) (h.holds ∙ ap (λ w. loaded r w s2.rest h.found) d)
          ∙ exist_holds (x, v) s r s2.rest h.found
          ∙ ap (λ js. loaded r s js (with_one_local (x, v) r h.found)) rest;
    }

-- Handlers.

-- an exception that is handled
pub handled : (z y : ℕ) (h : Process ℕ) (t u : TermTree ℕ) (s s1 : State) (p : Process ℕ) → y ≡ z → Follows t s (reached.Raised y) s1 p → (r : Reached) (s2 : State) (q : Process ℕ) → Follows u s1 r s2 q → Follows (with_leaves (in_catch z h u) t) s r s2 q
handled z y h t u s s1 p e f r s2 q k =
    leads (in_catch z h u) refl (raised y) t s s1 (reached.Raised y) p (λ js g. refl) (λ js g. refl) f r s2 q
    (on (in_catch z h u (raised y)) u s1 s2 r q q (ap (λ b. if b then u else leaf (raised y)) (eq-eqb y z e)) refl k)

-- another one
pub not_handled : (z y : ℕ) (h : Process ℕ) (t u : TermTree ℕ) (s s2 : State) (p x : Process ℕ) → (y ≡ z → ⊥) → Follows t s (reached.Raised y) s2 p → Follows (with_leaves (in_catch z h u) t) s (reached.Raised y) s2 x
not_handled z y h t u s s2 p x e f = stays (in_catch z h u) refl t s s2 (reached.Raised y) p x (λ js g. ap (λ b. at_path (if b then u else leaf (raised y)) js) (ne_eqb y z e)) f

catch_arrival : (z : ℕ) (h : Process ℕ) (u : TermTree ℕ) (r : Reached) (js : List ℕ) (g : Found) (p : Process ℕ) → ((y : ℕ) → r ≡ reached.Raised y → ⊥) → behind (in_catch z h u) (arrival r js g p) ≡ arrival r js g (catching z p h)
catch_arrival z h u reached.Vanish js g p n = refl
catch_arrival z h u reached.Nothing js g p n = refl
catch_arrival z h u (reached.Raised y) js g p n = absurd (n y refl)
catch_arrival z h u reached.Go js g p n = refl
catch_arrival z h u reached.Ordered js g p n = refl
catch_arrival z h u reached.Weighted js g p n = refl

-- no exception
pub not_raised : (z : ℕ) (h : Process ℕ) (t u : TermTree ℕ) (s s2 : State) (r : Reached) (p : Process ℕ) → ((y : ℕ) → r ≡ reached.Raised y → ⊥) → Follows t s r s2 p → Follows (with_leaves (in_catch z h u) t) s r s2 (catching z p h)
not_raised z h t u s s2 r p n f = stays (in_catch z h u) refl t s s2 r p (catching z p h) (λ js g. catch_arrival z h u r js g p n) f

try_arrival : (h : Process ℕ) (r : Reached) (js : List ℕ) (g : Found) (p : Process ℕ) → behind (in_try h) (arrival r js g p) ≡ arrival r js g (trying p h)
try_arrival h reached.Vanish js g p = refl
try_arrival h reached.Nothing js g p = refl
try_arrival h (reached.Raised z) js g p = refl
try_arrival h reached.Go js g p = refl
try_arrival h reached.Ordered js g p = refl
try_arrival h reached.Weighted js g p = refl

-- what has another term for where nothing can be done
pub tries : (h : Process ℕ) (t : TermTree ℕ) (s s2 : State) (r : Reached) (p : Process ℕ) → Follows t s r s2 p → Follows (with_leaves (in_try h) t) s r s2 (trying p h)
tries h t s s2 r p f = stays (in_try h) refl t s s2 r p (trying p h) (λ js g. try_arrival h r js g p) f

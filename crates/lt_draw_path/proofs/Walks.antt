-- A walk through a tree that is not made.
use Rattle.std.proofs.Common.{◌≡◌, ℕ, zero, suc, ◌+◌, ◌<◌, ◌≤◌, Bool, true, false, if◌then◌else◌, List, [], ◌∷◌, ◌++◌, length, map, take, get_or, None, Some, Option, refl, ap, sym, ◌∙◌, subst, arith, append-nil, append_assoc, length-append}
use Rattle.std.specs.List.{flat_map}
use Rattle.std.proofs.lemmas.List.{length-take-le, take-append-le, take-take, take_all}
use Rattle.lt_draw_path.specs.Order.{order, orders, tries, first_stop, Ends}
use Rattle.lt_draw_path.specs.Tree.{Tree, leaf, ordered, weighted, spoilt, Branches, no_branch, branch, size, size_of_each, weights_of, leaf_of, branch_at, part_of, below, before_each, HasPart, Leads}
use Rattle.lt_draw_path.specs.declared.draw_path.Entry.{Entry}
use Rattle.lt_draw_path.specs.Walking.{AreLeft, entry_of, entry_parent, entry_tree, order_on, size_on, AreNested, IsWalking, IsLeft}
use Rattle.lt_draw_path.specs.Going.{part_entry}
use Rattle.lt_draw_path.proofs.Picks.{nodes_on, AreBelow, open_sum, picks-below, picks-nodes}

pub size-positive : {L : Type 0} (t : Tree L) → 1 ≤ size t
size-positive (leaf l) = omega arith
size-positive (ordered a b) = omega arith
size-positive (weighted bs) = omega arith
size-positive (spoilt l bs) = omega arith

-- Paths.

below-append : {L : Type 0} (t : Tree L) (ks : List ℕ) (k : ℕ) → below t (ks ++ k ∷ []) ≡ part_of (below t ks) k
below-append t [] k = refl
below-append t (j ∷ ks) k = below-append (part_of t j) ks k

-- a path that leads to a node does so up to each choice, and on to a part that is there
pub leads_take : {L : Type 0} (t : Tree L) (n : ℕ) (ks : List ℕ) → Leads t ks → Leads t (take n ks)
leads_take t zero ks h = tt
leads_take t (suc n) [] h = tt
leads_take t (suc n) (k ∷ ks) h = (h.0, leads_take (part_of t k) n ks h.1)

leads_on : {L : Type 0} (t : Tree L) (ks : List ℕ) (k : ℕ) → Leads t ks → HasPart (below t ks) k → Leads t (ks ++ k ∷ [])
leads_on t [] k h p = (p, tt)
leads_on t (j ∷ ks) k h p = (h.0, leads_on (part_of t j) ks k h.1 p)

-- The parts of a choice.

order_at : {L : Type 0} (word : ℕ → ℕ) (p : ℕ) (bs : Branches L) (k : ℕ) → get_or (orders word p bs) k [] ≡ order word (p + before_each bs k) (branch_at bs k)
order_at word p no_branch zero = refl
order_at word p no_branch (suc k) = refl
order_at word p (branch w t bs) zero = let e : p ≡ p + 0 = omega arith in ap (λ n. order word n t) e
order_at word p (branch w t bs) (suc k) = let e : p + size t + before_each bs k ≡ p + (size t + before_each bs k) = omega arith in order_at word (p + size t) bs k ∙ ap (λ n. order word n (branch_at bs k)) e

-- the sizes of trees to choose from
abbrev sizes_of : {L : Type 0} → Branches L → List ℕ
sizes_of no_branch = []
sizes_of (branch w t bs) = size t ∷ sizes_of bs

size_at : {L : Type 0} (bs : Branches L) (k : ℕ) → k < length (weights_of bs) → size (branch_at bs k) ≡ get_or (sizes_of bs) k 0
size_at no_branch k h = absurd (omega (arith, h))
size_at (branch w t bs) zero h = refl
size_at (branch w t bs) (suc k) h = size_at bs k (omega (arith, h))

inside_each : {L : Type 0} (bs : Branches L) (k : ℕ) → k < length (weights_of bs) → before_each bs k + size (branch_at bs k) ≤ size_of_each bs
inside_each no_branch k h = absurd (omega (arith, h))
inside_each (branch w t bs) zero h = omega arith
inside_each (branch w t bs) (suc k) h = let m = inside_each bs k (omega (arith, h)) in omega (arith, m)

open_most : {L : Type 0} (ws : List ℕ) (bs : Branches L) → open_sum ws (sizes_of bs) ≤ size_of_each bs
open_most [] bs = omega arith
open_most (zero ∷ ws) no_branch = omega arith
open_most (suc w ∷ ws) no_branch = omega arith
open_most (zero ∷ ws) (branch v t bs) = let m = open_most ws bs in omega (arith, m)
open_most (suc w ∷ ws) (branch v t bs) = let m = open_most ws bs in omega (arith, m)

weights_few : {L : Type 0} (bs : Branches L) → length (weights_of bs) ≤ size_of_each bs
weights_few no_branch = omega arith
weights_few (branch w t bs) = let m = weights_few bs in let n = size-positive t in omega (arith, m, n)

-- What a draw does at a leaf.

-- the leaves of a leaf
leaf_order : {L : Type 0} (word : ℕ → ℕ) (p : ℕ) (u : Tree L) (l : L) → leaf_of u ≡ Some l → order word p u ≡ l ∷ []
leaf_order word p (leaf m) l e = let d : m ≡ l = cc in ap (λ n. n ∷ []) d
leaf_order word p (spoilt m bs) l e = let d : m ≡ l = cc in ap (λ n. n ∷ []) d
leaf_order word p (ordered a b) l e = absurd (cc)
leaf_order word p (weighted bs) l e = absurd (cc)

module _ {L : Type 0} (stops : L → Bool) where
  by_first : (l : L) (b : Bool) (o : Option L) → stops l ≡ b → (if stops l then Some l else o) ≡ (if b then Some l else o)
  by_first l b o h = ap (λ c. if c then Some l else o) h

  one_behind : (x : L) (xs ys : List L) (b : Bool) → stops x ≡ b → (first_stop stops xs ≡ None → first_stop stops (xs ++ ys) ≡ first_stop stops ys)
      → first_stop stops (x ∷ xs) ≡ None → first_stop stops ((x ∷ xs) ++ ys) ≡ first_stop stops ys
  one_behind x xs ys true h later none = absurd (let some : Some x ≡ None = sym (by_first x true (first_stop stops xs) h) ∙ none in cc some)
  one_behind x xs ys false h later none = by_first x false (first_stop stops (xs ++ ys)) h ∙ later (sym (by_first x false (first_stop stops xs) h) ∙ none)

  first_behind : (xs ys : List L) → first_stop stops xs ≡ None → first_stop stops (xs ++ ys) ≡ first_stop stops ys
  first_behind [] ys none = refl
  first_behind (x ∷ xs) ys none = one_behind x xs ys (stops x) refl (first_behind xs ys) none

  -- the first leaf at which the draw stops is left
  pub left_first : (all left : List L) → AreLeft stops all left → first_stop stops left ≡ first_stop stops all
  left_first all left h = sym (first_behind h.passed left h.none) ∙ ap (first_stop stops) (sym h.split)

  left_same : (all left other : List L) → left ≡ other → AreLeft stops all other → AreLeft stops all left
  left_same all left other is h = subst (AreLeft stops all) (sym is) h

  -- one more is passed
  left_behind : (all left : List L) (l : L) → AreLeft stops all (l ∷ left) → stops l ≡ false → AreLeft stops all left
  left_behind all left l h passes = record {
    passed = h.passed ++ l ∷ [];
    split = h.split ∙ sym (append_assoc h.passed (l ∷ []) left);
    none = first_behind h.passed (l ∷ []) h.none ∙ by_first l false None passes;
  }

module _ {L : Type 0} (word : ℕ → ℕ) (stops : L → Bool) (t : Tree L) where
  -- a walk at its beginning
  pub begins : IsWalking word stops t [] 0 []
  begins = record {
    ends = record { passed = []; split = sym (append-nil (order word 0 t)); none = refl };
    nested = tt;
    within = omega arith;
    deep = omega arith;
    few = omega arith;
    leads = tt;
  }

  module _ (path : List ℕ) (p : ℕ) (es : List Entry) (w : IsWalking word stops t path p es) where
    -- it arrives at a leaf
    pub meets_here : (l : L) → leaf_of (below t path) ≡ Some l → AreLeft stops (order word 0 t) (l ∷ order_on word t path es)
    meets_here l e =
        left_same stops (order word 0 t) (l ∷ order_on word t path es) (order word p (below t path) ++ order_on word t path es)
        (ap (λ ls. ls ++ order_on word t path es) (sym (leaf_order word p (below t path) l e))) w.ends

    -- the draw stops
    pub stops_here : (l : L) → leaf_of (below t path) ≡ Some l → stops l ≡ true → Ends (first_stop stops (order word 0 t)) t path true
    stops_here l e h =
        subst (λ o. Ends o t path true)
        (sym (by_first stops l true (first_stop stops (order_on word t path es)) h) ∙ left_first stops (order word 0 t) (l ∷ order_on word t path es) (meets_here l e)) e

    -- it passes a leaf
    pub passes_here : (l : L) → leaf_of (below t path) ≡ Some l → stops l ≡ false → IsLeft word stops t path (size (below t path) + size_on t path es) es
    passes_here l e h =
        let n = size-positive (below t path) in
        record {
          ends = left_behind stops (order word 0 t) (order_on word t path es) l (meets_here l e) h;
          nested = w.nested;
          few = omega (arith, n);
          whole = w.few;
          leads = w.leads;
        }

    -- an entry of the choice at hand
    parent_is : (q k : ℕ) → entry_parent t path (entry_of q (length path) k) ≡ below t path
    parent_is q k = ap (below t) (take_all (length path) path (omega arith))

    -- it goes down into the sides of an order
    goes_down : (a b : Tree L) → below t path ≡ ordered a b → IsLeft word stops t path (size (below t path) + size_on t path es) (entry_of (p + 1) (length path) 0 ∷ (entry_of (p + 1 + size a) (length path) 1 ∷ es))
    goes_down a b is =
        let x : Entry = entry_of (p + 1) (length path) 0 in
        let y : Entry = entry_of (p + 1 + size a) (length path) 1 in
        let px : entry_parent t path x ≡ ordered a b = parent_is (p + 1) 0 ∙ is in
        let py : entry_parent t path y ≡ ordered a b = parent_is (p + 1 + size a) 1 ∙ is in
        let size_is : size (below t path) ≡ 1 + size a + size b = ap size is in
        let left : entry_tree t path x ≡ a = ap (λ u. part_of u 0) px in
        let right : entry_tree t path y ≡ b = ap (λ u. part_of u 1) py in
        let left_size : size (entry_tree t path x) ≡ size a = ap size left in
        let right_size : size (entry_tree t path y) ≡ size b = ap size right in
        record {
          ends =
              left_same stops (order word 0 t) _ (order word p (below t path) ++ order_on word t path es)
              ((λ i. order word (p + 1) (left i) ++ (order word (p + 1 + size a) (right i) ++ order_on word t path es))
              ∙ sym (append_assoc (order word (p + 1) a) (order word (p + 1 + size a) b) (order_on word t path es))
              ∙ ap (λ u. order word p u ++ order_on word t path es) (sym is))
              w.ends;
          nested = (
            omega arith,
            record { within = omega (arith, left_size, size_is, w.within); deep = omega (arith, left_size, size_is, w.deep); has = subst (λ u. HasPart u 0) (sym px) tt },
            (omega arith, record { within = omega (arith, right_size, size_is, w.within); deep = omega (arith, right_size, size_is, w.deep); has = subst (λ u. HasPart u 1) (sym py) tt }, w.nested),
          );
          few = omega (arith, left_size, right_size, size_is);
          whole = w.few;
          leads = w.leads;
        }

    module _ (bs : Branches L) (is : below t path ≡ weighted bs) (before : List ℕ) (known : (k : ℕ) → k < length (weights_of bs) → get_or before k 0 ≡ before_each bs k) where
      abbrev part : ℕ → Entry
      part k = part_entry (p + 1) (length path) before k

      q : (k : ℕ) → entry_parent t path (part k) ≡ weighted bs
      q k = parent_is (p + 1 + get_or before k 0) k ∙ is

      tries_order : (ks : List ℕ) → AreBelow (length (weights_of bs)) ks → order_on word t path (map part ks ++ es) ≡ flat_map (λ k. get_or (orders word (p + 1) bs) k []) ks ++ order_on word t path es
      tries_order [] h = refl
      tries_order (k ∷ ks) h =
          (λ i. (ap (λ u. order word (p + 1 + get_or before k 0) (part_of u k)) (q k) ∙ ap (λ n. order word (p + 1 + n) (branch_at bs k)) (known k h.0) ∙ sym (order_at word (p + 1) bs k)) i ++ tries_order ks h.1 i)
          ∙ sym (append_assoc (get_or (orders word (p + 1) bs) k []) (flat_map (λ k. get_or (orders word (p + 1) bs) k []) ks) (order_on word t path es))

      tries_nested : (n : ℕ) (ks : List ℕ) → length path ≤ n → AreBelow (length (weights_of bs)) ks → AreNested t path n (map part ks ++ es)
      tries_nested n [] l h = nested_more n es l w.nested
        where
          nested_more : (n : ℕ) (fs : List Entry) → length path ≤ n → AreNested t path (length path) fs → AreNested t path n fs
          nested_more n [] l h = tt
          nested_more n (f ∷ fs) l h = (omega (arith, l, h.0), h.1, h.2)
      tries_nested n (k ∷ ks) l h =
          let b : get_or before k 0 ≡ before_each bs k = known k h.0 in
          let s : size (entry_tree t path (part k)) ≡ size (branch_at bs k) = ap (λ u. size (part_of u k)) (q k) in
          let m = inside_each bs k h.0 in
          let z : size (below t path) ≡ 1 + size_of_each bs = ap size is in
          (l, record { within = omega (arith, b, s, m, z, w.within); deep = omega (arith, s, m, z, w.deep); has = subst (λ u. HasPart u k) (sym (q k)) h.0 }, tries_nested (length path) ks (omega arith) h.1)

      tries_size : (ks : List ℕ) → AreBelow (length (weights_of bs)) ks → size_on t path (map part ks ++ es) ≡ nodes_on (sizes_of bs) ks + size_on t path es
      tries_size [] h = omega arith
      tries_size (k ∷ ks) h =
          let s : size (entry_tree t path (part k)) ≡ get_or (sizes_of bs) k 0 = ap (λ u. size (part_of u k)) (q k) ∙ size_at bs k h.0 in
          let m = tries_size ks h.1 in
          omega (arith, s, m)

      -- it goes to the parts of a choice by weight
      spreads : IsLeft word stops t path (size (below t path) + size_on t path es) (map part (tries word p (weights_of bs)) ++ es)
      spreads =
          let ks : List ℕ = tries word p (weights_of bs) in
          let ranged : AreBelow (length (weights_of bs)) ks = picks-below word p (length (weights_of bs)) 0 (weights_of bs) in
          let total = tries_size ks ranged in
          let most = picks-nodes word p (length (weights_of bs)) 0 (weights_of bs) (sizes_of bs) in
          let most_open = open_most (weights_of bs) bs in
          let z : size (below t path) ≡ 1 + size_of_each bs = ap size is in
          record {
            ends =
                left_same stops (order word 0 t) _ (order word p (below t path) ++ order_on word t path es)
                (tries_order ks ranged ∙ ap (λ u. order word p u ++ order_on word t path es) (sym is)) w.ends;
            nested = tries_nested (length path) ks (omega arith) ranged;
            few = omega (arith, total, most, most_open, z);
            whole = w.few;
            leads = w.leads;
          }

  -- Going on to an entry.

  module _ (path new : List ℕ) (e : Entry) (deep : e.depth ≤ length path) (is : new ≡ take e.depth path ++ e.choice ∷ []) where
    same_parent : (f : Entry) → f.depth ≤ e.depth → entry_parent t new f ≡ entry_parent t path f
    same_parent f l =
        let n : length (take e.depth path) ≡ e.depth = length-take-le e.depth path deep in
        ap (below t) (ap (take f.depth) is ∙ take-append-le f.depth (take e.depth path) (e.choice ∷ []) (omega (arith, l, n)) ∙ take-take f.depth e.depth path l)

    same_order : (n : ℕ) (es : List Entry) → n ≤ e.depth → AreNested t path n es → order_on word t new es ≡ order_on word t path es
    same_order n [] l h = refl
    same_order n (f ∷ es) l h =
        let d : f.depth ≤ e.depth = omega (arith, l, h.0) in
        λ i. ap (λ u. order word f.position (part_of u f.choice)) (same_parent f d) i ++ same_order f.depth es d h.2 i

    same_size : (n : ℕ) (es : List Entry) → n ≤ e.depth → AreNested t path n es → size_on t new es ≡ size_on t path es
    same_size n [] l h = refl
    same_size n (f ∷ es) l h =
        let d : f.depth ≤ e.depth = omega (arith, l, h.0) in
        λ i. size (part_of (same_parent f d i) f.choice) + same_size f.depth es d h.2 i

    same_nested : (n m : ℕ) (es : List Entry) → n ≤ e.depth → n ≤ m → AreNested t path n es → AreNested t new m es
    same_nested n m [] l g h = tt
    same_nested n m (f ∷ es) l g h =
        let d : f.depth ≤ e.depth = omega (arith, l, h.0) in
        let s : size (entry_tree t new f) ≡ size (entry_tree t path f) = ap (λ u. size (part_of u f.choice)) (same_parent f d) in
        (omega (arith, g, h.0), record { within = omega (arith, s, h.1.within); deep = omega (arith, s, h.1.deep); has = subst (λ u. HasPart u f.choice) (sym (same_parent f d)) h.1.has }, same_nested f.depth f.depth es d (omega arith) h.2)

    there : below t new ≡ entry_tree t path e
    there = ap (below t) is ∙ below-append t (take e.depth path) e.choice

    pub goes_on : (most : ℕ) (es : List Entry) (p : ℕ) → p ≡ e.position → IsLeft word stops t path most (e ∷ es) → IsWalking word stops t new p es × (size (below t new) + size_on t new es < most)
    goes_on most es p at left =
        let n = left.nested in
        let z : size (below t new) ≡ size (entry_tree t path e) = ap size there in
        let s = same_size e.depth es (omega arith) n.2 in
        let long : length new ≡ e.depth + 1 = (let a = length-take-le e.depth path deep in let b : length new ≡ length (take e.depth path) + 1 = ap length is ∙ length-append (take e.depth path) (e.choice ∷ []) in omega (arith, a, b)) in (
          record {
            ends = left_same stops (order word 0 t) _ (order_on word t path (e ∷ es)) (λ i. order word (at i) (there i) ++ same_order e.depth es (omega arith) n.2 i) left.ends;
            nested = same_nested e.depth (length new) es (omega arith) (omega (arith, long)) n.2;
            within = omega (arith, at, z, n.1.within);
            deep = omega (arith, long, z, n.1.deep);
            few = omega (arith, z, s, left.few, left.whole);
            leads = subst (Leads t) (sym is) (leads_on t (take e.depth path) e.choice (leads_take t e.depth path left.leads) n.1.has);
          },
          omega (arith, z, s, left.few),
        )

  -- the draw has nothing left to try
  pub nothing_left : (path : List ℕ) (most : ℕ) → IsLeft word stops t path most [] → Ends (first_stop stops (order word 0 t)) t path false
  nothing_left path most left = subst (λ o. Ends o t path false) (left_first stops (order word 0 t) [] left.ends) tt

  -- It goes on to the first side of an order.
  pub to_side : (path : List ℕ) (p nodes : ℕ) (es : List Entry) (a b : Tree L) → below t path ≡ ordered a b → nodes ≡ size a → IsWalking word stops t path p es
      → IsWalking word stops t (path ++ 0 ∷ []) (p + 1) (entry_of (p + 1 + nodes) (length path) 1 ∷ es)
      × (size (below t (path ++ 0 ∷ [])) + size_on t (path ++ 0 ∷ []) (entry_of (p + 1 + nodes) (length path) 1 ∷ es) < size (below t path) + size_on t path es)
  to_side path p nodes es a b is n w =
      let left = goes_down path p es w a b is in
      let whole : path ++ 0 ∷ [] ≡ take (length path) path ++ 0 ∷ [] = ap (λ ks. ks ++ 0 ∷ []) (sym (take_all (length path) path (omega arith))) in
      let P : ℕ → Type 0 = λ m. IsLeft word stops t path (size (below t path) + size_on t path es) (entry_of (p + 1) (length path) 0 ∷ (entry_of (p + 1 + m) (length path) 1 ∷ es)) in
      goes_on path (path ++ 0 ∷ []) (entry_of (p + 1) (length path) 0) (omega arith) whole (size (below t path) + size_on t path es) (entry_of (p + 1 + nodes) (length path) 1 ∷ es) (p + 1) refl (subst P (sym n) left)

  module _ (path : List ℕ) (p : ℕ) (es : List Entry) (bs : Branches L) (is : below t path ≡ weighted bs) (ws before : List ℕ) (same : ws ≡ weights_of bs)
      (known : (k : ℕ) → k < length (weights_of bs) → get_or before k 0 ≡ before_each bs k) (w : IsWalking word stops t path p es) where
    tried : (ks : List ℕ) → tries word p ws ≡ ks → IsLeft word stops t path (size (below t path) + size_on t path es) (map (part_entry (p + 1) (length path) before) ks ++ es)
    tried ks h =
        let P : List ℕ → Type 0 = λ js. IsLeft word stops t path (size (below t path) + size_on t path es) (map (part_entry (p + 1) (length path) before) js ++ es) in
        subst P (sym (ap (tries word p) same) ∙ h) (spreads path p es w bs is before known)

    -- of a choice it goes on to the part that is tried first
    pub to_part : (k : ℕ) (ks : List ℕ) → tries word p ws ≡ k ∷ ks
        → IsWalking word stops t (path ++ k ∷ []) (p + 1 + get_or before k 0) (map (part_entry (p + 1) (length path) before) ks ++ es)
        × (size (below t (path ++ k ∷ [])) + size_on t (path ++ k ∷ []) (map (part_entry (p + 1) (length path) before) ks ++ es) < size (below t path) + size_on t path es)
    to_part k ks h =
        let whole : path ++ k ∷ [] ≡ take (length path) path ++ k ∷ [] = ap (λ js. js ++ k ∷ []) (sym (take_all (length path) path (omega arith))) in
        goes_on path (path ++ k ∷ []) (part_entry (p + 1) (length path) before k) (omega arith) whole (size (below t path) + size_on t path es) (map (part_entry (p + 1) (length path) before) ks ++ es)
        (p + 1 + get_or before k 0) refl (tried (k ∷ ks) h)

    -- or it passes one of which no part is tried
    pub to_none : tries word p ws ≡ [] → IsLeft word stops t path (size (below t path) + size_on t path es) es
    to_none h = tried [] h

-- There are no more entries than nodes.
pub entries_few : {L : Type 0} (t : Tree L) (path : List ℕ) (es : List Entry) → length es ≤ size_on t path es
entries_few t path [] = omega arith
entries_few t path (e ∷ es) = let m = entries_few t path es in let n = size-positive (entry_tree t path e) in omega (arith, m, n)

-- a choice by weight has no more weights than nodes below it
pub weights_within : {L : Type 0} (u : Tree L) (bs : Branches L) → u ≡ weighted bs → length (weights_of bs) + 1 ≤ size u
weights_within u bs h = let z : size u ≡ 1 + size_of_each bs = ap size h in omega (arith, z, weights_few bs)

-- an order has two more nodes, and its first side is smaller
pub sides_within : {L : Type 0} (u a b : Tree L) → u ≡ ordered a b → size a + 2 ≤ size u
sides_within u a b h = let z : size u ≡ 1 + size a + size b = ap size h in omega (arith, z, size-positive b)

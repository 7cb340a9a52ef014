-- Which variables are shared.
use Rattle.std.proofs.Common.{◌≡◌, ◌<◌, ◌≤◌, ◌&&◌, ◌||◌, ◌⊎◌, inl, inr, ℕ, zero, suc, ◌+◌, Bool, true, false, not, List, [], ◌∷◌, Option, None, Some, length, refl, ap, sym, ◌∙◌, subst, arith, get_or, set, replicate, take, nat_eq, nat_le}
use Rattle.std.specs.Prelude.{if◌then◌else◌}
use Rattle.std.specs.List.{list_any}
use Rattle.std.proofs.lemmas.Bool.{and_from, and_parts, and_right, both_ways, cases_eq, eq-eqb, false_from_ne_true, lt-leb, leb-false, ne_eqb, not_from_false, not_from_true, or_cases, or_from, or_left, or_right}
use Rattle.std.proofs.lemmas.List.{get_or-set_other, get_or-set_same, take_all}
use Rattle.std.proofs.lemmas.List.Folds.{list_any_more}
use Rattle.lt_formula.specs.Limits.{most_variables}
use Rattle.lt_linear.specs.Form.{Term}
use Rattle.lt_space.specs.Circuit.{formula_at}
use Rattle.lt_space.specs.Formula.{Formula, atom, choice, conjunction, disjunction, exclusive, negation, truth}
use Rattle.lt_space.specs.declared.formula.Atom.{Atom}
use Rattle.lt_num.specs.declared.range.Range.{Range}
use Rattle.lt_need.specs.Need.{has_variable, is_difference, is_equation, is_hard, is_hard_variable, is_shared, same_atom, several_terms}
use Rattle.lt_need.specs.inner.Counts.{found_atoms, is_among}
use Rattle.lt_need.specs.inner.Marks.{own_atoms}
use Rattle.lt_need.specs.inner.Uses.{AreOwned, AreOwners, IsOwned, IsRising, UseTest, equation_in, has_shared, is_hard_among, is_hard_at, is_hard_with, is_used, passes_some, same_at, several_at, several_in}
use Rattle.lt_need.specs.inner.Reached.{IsIn}
use Rattle.lt_need.proofs.Counting.{atom_same, found_any, same_atom_is}
use Rattle.lt_need.proofs.Lists.{any_in, in_any, same_from}

-- Tests.

or_false : (a : Bool) → (a || false) ≡ a
or_false true = refl
or_false false = refl

or_assoc : (a b c : Bool) → ((a || b) || c) ≡ (a || (b || c))
or_assoc true b c = refl
or_assoc false b c = refl

or_four : (a b c d : Bool) → ((a || b) || (c || d)) ≡ ((a || c) || (b || d))
or_four true b c d = refl
or_four false true true d = refl
or_four false true false d = refl
or_four false false true d = refl
or_four false false false d = refl

or_nothing : (x y : Bool) → y ≡ false → x ≡ (x || y)
or_nothing x y e = sym (ap (λ b. x || b) e ∙ or_false x)

and_nothing : (b y : Bool) → b ≡ false → (b && y) ≡ false
and_nothing b y e = ap (λ x. x && y) e

and_flip : (a b : Bool) → (a && b) ≡ (b && a)
and_flip true true = refl
and_flip true false = refl
and_flip false true = refl
and_flip false false = refl

self_eq : (v : ℕ) → nat_eq v v ≡ true
self_eq v = eq-eqb v v refl

-- Lists.

any_false : {A : Type 0} (xs : List A) → list_any (λ (x : A). false) xs ≡ false
any_false [] = refl
any_false (x ∷ xs) = any_false xs

any_or : {A : Type 0} (p q : A → Bool) (xs : List A) → list_any (λ x. p x || q x) xs ≡ (list_any p xs || list_any q xs)
any_or p q [] = refl
any_or p q (x ∷ xs) = ap (λ b. (p x || q x) || b) (any_or p q xs) ∙ or_four (p x) (q x) (list_any p xs) (list_any q xs)

any_and : {A : Type 0} (p : A → Bool) (k : Bool) (xs : List A) → list_any (λ x. p x && k) xs ≡ (list_any p xs && k)
any_and p k [] = refl
any_and p k (x ∷ xs) = ap (λ b. (p x && k) || b) (any_and p k xs) ∙ out (p x) (list_any p xs) k
  where
    out : (a b k : Bool) → ((a && k) || (b && k)) ≡ ((a || b) && k)
    out true true true = refl
    out true true false = refl
    out true false true = refl
    out true false false = refl
    out false b k = refl

any_swap : {A B : Type 0} (f : A → B → Bool) (xs : List A) (ys : List B) → list_any (λ x. list_any (λ y. f x y) ys) xs ≡ list_any (λ y. list_any (λ x. f x y) xs) ys
any_swap f [] ys = sym (any_false ys)
any_swap f (x ∷ xs) ys = ap (λ b. list_any (λ y. f x y) ys || b) (any_swap f xs ys) ∙ sym (any_or (λ y. f x y) (λ y. list_any (λ z. f z y) xs) ys)

-- Atoms of numbers.

own_few : (f : Formula) → length (own_atoms f) ≤ 1
own_few (truth b) = omega arith
own_few (atom a) = omega arith
own_few (negation f) = omega arith
own_few (conjunction f g) = omega arith
own_few (disjunction f g) = omega arith
own_few (exclusive f g) = omega arith
own_few (choice f g h) = omega arith

atom_flip : (a b : Atom) → same_atom a b ≡ same_atom b a
atom_flip a b = same_from (same_atom a b) (same_atom b a) (λ h. ap (same_atom b) (same_atom_is a b h) ∙ atom_same b) (λ h. ap (same_atom a) (same_atom_is b a h) ∙ atom_same a)

among_flip : (xs ys : List Atom) → length xs ≤ 1 → length ys ≤ 1 → is_among xs ys ≡ is_among ys xs
among_flip [] [] l m = refl
among_flip [] (b ∷ ys) l m = refl
among_flip (a ∷ xs) [] l m = refl
among_flip (a ∷ c ∷ xs) (b ∷ ys) l m = absurd (omega (arith, l))
among_flip (a ∷ []) (b ∷ d ∷ ys) l m = absurd (omega (arith, m))
among_flip (a ∷ []) (b ∷ []) l m = ap (λ x. x || false) (atom_flip a b)

among_through : (xs ys zs : List Atom) → length xs ≤ 1 → length ys ≤ 1 → length zs ≤ 1 → is_among xs ys ≡ true → is_among zs ys ≡ is_among xs zs
among_through [] ys zs l m k h = absurd (cc)
among_through (a ∷ c ∷ xs) ys zs l m k h = absurd (omega (arith, l))
among_through (a ∷ []) [] zs l m k h = absurd (cc)
among_through (a ∷ []) (b ∷ d ∷ ys) zs l m k h = absurd (omega (arith, m))
among_through (a ∷ []) (b ∷ []) [] l m k h = refl
among_through (a ∷ []) (b ∷ []) (c ∷ d ∷ zs) l m k h = absurd (omega (arith, k))
among_through (a ∷ []) (b ∷ []) (c ∷ []) l m k h =
    let same : a ≡ b = same_atom_is a b (sym (or_false (same_atom a b)) ∙ h) in
    ap (λ x. same_atom c x || false) (sym same) ∙ ap (λ x. x || false) (atom_flip c a)

module _ (fs : List Formula) where
  same_flip : (m n : ℕ) → same_at fs m n ≡ same_at fs n m
  same_flip m n = among_flip (own_atoms (formula_at fs m)) (own_atoms (formula_at fs n)) (own_few (formula_at fs m)) (own_few (formula_at fs n))

  same_through : (g o n : ℕ) → same_at fs g o ≡ true → same_at fs n o ≡ same_at fs g n
  same_through g o n h =
      among_through (own_atoms (formula_at fs g)) (own_atoms (formula_at fs o)) (own_atoms (formula_at fs n)) (own_few (formula_at fs g)) (own_few (formula_at fs o)) (own_few (formula_at fs n)) h

  -- a number that uses a variable has an atom
  pub self_same : (n i : ℕ) → i < length (several_at fs n) → same_at fs n n ≡ true
  self_same n i l = by_own (own_atoms (formula_at fs n)) l
    where
      by_own : (own : List Atom) → i < length (several_in own) → is_among own own ≡ true
      by_own [] l = absurd (omega (arith, l))
      by_own (a ∷ more) l = or_left (same_atom a a) (list_any (same_atom a) more) (atom_same a)

-- One use more.

module _ (fs : List Formula) (used : UseTest → Bool) (n v : ℕ) where
  abbrev added : UseTest → Bool
  added test = used test || test n v

  added_rising : IsRising used → IsRising added
  added_rising rising less more sub h = by_part (or_cases (used less) (less n v) h)
    where
      by_part : (used less ≡ true) ⊎ (less n v ≡ true) → (used more || more n v) ≡ true
      by_part (inl e) = or_left (used more) (more n v) (rising less more sub e)
      by_part (inr e) = or_right (used more) (more n v) (sub n v e)

  -- of another variable
  other_owned : (u : ℕ) (owner : Option ℕ) (shared : Bool) → nat_eq v u ≡ false → IsOwned fs used u owner shared → IsOwned fs added u owner shared
  other_owned u None shared ne s = (s.0, or_from (used (λ m i. nat_eq i u)) (nat_eq v u) s.1 ne)
  other_owned u (Some o) shared ne s = (
    or_left (used (λ m i. nat_eq i u && same_at fs m o)) (nat_eq v u && same_at fs n o) s.0,
    s.1 ∙ or_nothing (used (λ m i. nat_eq i u && not (same_at fs m o))) (nat_eq v u && not (same_at fs n o)) (and_nothing (nat_eq v u) (not (same_at fs n o)) ne),
  )

  -- of one whose owner has the same atom, or another one
  same_owned : (o : ℕ) (shared : Bool) → same_at fs n o ≡ true → IsOwned fs used v (Some o) shared → IsOwned fs added v (Some o) shared
  same_owned o shared same s = (
    or_left (used (λ m i. nat_eq i v && same_at fs m o)) (nat_eq v v && same_at fs n o) s.0,
    s.1 ∙ or_nothing (used (λ m i. nat_eq i v && not (same_at fs m o))) (nat_eq v v && not (same_at fs n o)) (and_right (nat_eq v v) (not (same_at fs n o)) (not_from_true (same_at fs n o) same)),
  )

  differing_owned : (o : ℕ) (shared : Bool) → same_at fs n o ≡ false → IsOwned fs used v (Some o) shared → IsOwned fs added v (Some o) true
  differing_owned o shared differs s = (
    or_left (used (λ m i. nat_eq i v && same_at fs m o)) (nat_eq v v && same_at fs n o) s.0,
    sym (or_right (used (λ m i. nat_eq i v && not (same_at fs m o))) (nat_eq v v && not (same_at fs n o)) (and_from (nat_eq v v) (not (same_at fs n o)) (self_eq v) (not_from_false (same_at fs n o) differs))),
  )

  -- of all
  module _ (owners : List (Option ℕ)) (shared : List Bool) (few : v < most_variables) (known : AreOwned fs used owners shared) where
    none_beyond : added (λ m i. nat_le most_variables i) ≡ false
    none_beyond = or_from (used (λ m i. nat_le most_variables i)) (nat_le most_variables v) known.few (lt-leb most_variables v few)

    pub later_use : (o : ℕ) (after : List Bool) → (long : length shared ≡ most_variables) → get_or owners v None ≡ Some o → after ≡ (if same_at fs n o then shared else set shared v true) → AreOwned fs added owners after
    later_use o after long named is = subst (λ (ms : List Bool). AreOwned fs added owners ms) (sym is) (by_same (same_at fs n o) refl)
      where
        within : v < length shared
        within = omega (arith, few, long)

        owned : IsOwned fs used v (Some o) (get_or shared v false)
        owned = subst (λ (x : Option ℕ). IsOwned fs used v x (get_or shared v false)) named (known.each v few)

        same_here : same_at fs n o ≡ true → IsOwned fs added v (get_or owners v None) (get_or shared v false)
        same_here e = subst (λ (x : Option ℕ). IsOwned fs added v x (get_or shared v false)) (sym named) (same_owned o (get_or shared v false) e owned)

        other_here : same_at fs n o ≡ false → IsOwned fs added v (get_or owners v None) (get_or (set shared v true) v false)
        other_here e = subst (λ (b : Bool). IsOwned fs added v (get_or owners v None) b) (sym (get_or-set_same shared v true false within))
            (subst (λ (x : Option ℕ). IsOwned fs added v x true) (sym named) (differing_owned o (get_or shared v false) e owned))

        elsewhere : (u : ℕ) → u < most_variables → (u ≡ v → ⊥) → IsOwned fs added u (get_or owners u None) (get_or shared u false)
        elsewhere u l ne = other_owned u (get_or owners u None) (get_or shared u false) (ne_eqb v u (λ e. ne (sym e))) (known.each u l)

        by_place_same : (u : ℕ) → same_at fs n o ≡ true → u < most_variables → (u ≡ v) ⊎ (u ≡ v → ⊥) → IsOwned fs added u (get_or owners u None) (get_or shared u false)
        by_place_same u e l (inl p) = subst (λ (j : ℕ). IsOwned fs added j (get_or owners j None) (get_or shared j false)) (sym p) (same_here e)
        by_place_same u e l (inr ne) = elsewhere u l ne

        by_place_other : (u : ℕ) → same_at fs n o ≡ false → u < most_variables → (u ≡ v) ⊎ (u ≡ v → ⊥) → IsOwned fs added u (get_or owners u None) (get_or (set shared v true) u false)
        by_place_other u e l (inl p) = subst (λ (j : ℕ). IsOwned fs added j (get_or owners j None) (get_or (set shared v true) j false)) (sym p) (other_here e)
        by_place_other u e l (inr ne) = subst (λ (b : Bool). IsOwned fs added u (get_or owners u None) b) (sym (get_or-set_other shared v u true false ne)) (elsewhere u l ne)

        by_same : (b : Bool) → same_at fs n o ≡ b → AreOwned fs added owners (if b then shared else set shared v true)
        by_same true e = record { each = λ u l. by_place_same u e l (cases_eq u v); few = none_beyond; rising = added_rising known.rising }
        by_same false e = record { each = λ u l. by_place_other u e l (cases_eq u v); few = none_beyond; rising = added_rising known.rising }

-- The same uses, told otherwise.

module _ (fs : List Formula) (used told : UseTest → Bool) (same : (test : UseTest) → used test ≡ told test) where
  owned_alike : (v : ℕ) (owner : Option ℕ) (shared : Bool) → IsOwned fs used v owner shared → IsOwned fs told v owner shared
  owned_alike v None shared s = (s.0, sym (same (λ n i. nat_eq i v)) ∙ s.1)
  owned_alike v (Some o) shared s = (sym (same (λ n i. nat_eq i v && same_at fs n o)) ∙ s.0, s.1 ∙ same (λ n i. nat_eq i v && not (same_at fs n o)))

  pub owned_told : (owners : List (Option ℕ)) (shared : List Bool) → AreOwned fs used owners shared → AreOwned fs told owners shared
  owned_told owners shared known = record {
    each = λ v l. owned_alike v (get_or owners v None) (get_or shared v false) (known.each v l);
    few = sym (same (λ n i. nat_le most_variables i)) ∙ known.few;
    rising = λ less more sub h. sym (same more) ∙ known.rising less more sub (same less ∙ h);
  }

-- Loops over terms and numbers.

pub term_more : (fs : List Formula) (used : UseTest → Bool) (n : ℕ) (terms : List Term) (i v : ℕ) (t : Term) (owners : List (Option ℕ)) (shared : List Bool) → i < length terms → v ≡ (get_or terms i t).0
    → AreOwned fs (λ test. (used test || passes_some test n (take i terms)) || test n v) owners shared → AreOwned fs (λ test. used test || passes_some test n (take (i + 1) terms)) owners shared
term_more fs used n terms i v t owners shared l named known =
    owned_told fs (λ test. (used test || passes_some test n (take i terms)) || test n v) (λ test. used test || passes_some test n (take (i + 1) terms))
    (λ test. or_assoc (used test) (passes_some test n (take i terms)) (test n v) ∙ ap (λ b. used test || b) (ap (λ (k : ℕ). passes_some test n (take i terms) || test n k) named ∙ sym (list_any_more (λ x. test n x.0) terms i t l))) owners shared known

pub terms_whole : (fs : List Formula) (used : UseTest → Bool) (n i : ℕ) (terms : List Term) (owners : List (Option ℕ)) (shared : List Bool) → length terms ≤ i → terms ≡ several_at fs n
    → AreOwned fs (λ test. used test || passes_some test n (take i terms)) owners shared → AreOwned fs (λ test. used test || passes_some test n (several_at fs n)) owners shared
terms_whole fs used n i terms owners shared l is known =
    subst (λ (ts : List Term). AreOwned fs (λ test. used test || passes_some test n ts) owners shared) (take_all i terms l ∙ is) known

pub number_more : (fs : List Formula) (ns : List ℕ) (i d : ℕ) (owners : List (Option ℕ)) (shared : List Bool) → i < length ns
    → AreOwned fs (λ test. is_used fs (take i ns) test || passes_some test (get_or ns i d) (several_at fs (get_or ns i d))) owners shared → AreOwned fs (is_used fs (take (i + 1) ns)) owners shared
number_more fs ns i d owners shared l known =
    owned_told fs (λ test. is_used fs (take i ns) test || passes_some test (get_or ns i d) (several_at fs (get_or ns i d))) (is_used fs (take (i + 1) ns))
    (λ test. sym (list_any_more (λ k. passes_some test k (several_at fs k)) ns i d l)) owners shared known

-- no owners
none_owner : (n v : ℕ) (absent : Option ℕ) → get_or (replicate n absent) v absent ≡ absent
none_owner zero v absent = refl
none_owner (suc n) zero absent = refl
none_owner (suc n) (suc v) absent = none_owner n v absent

pub none_owned : (count n : ℕ) (owners : List (Option ℕ)) → owners ≡ replicate n None → AreOwners count owners
none_owned count n owners is v owner e = let wrong : None ≡ Some owner = sym (ap (λ (os : List (Option ℕ)). get_or os v None) is ∙ none_owner n v None) ∙ e in absurd (cc)

-- What shared variables say of atoms.

module _ (ranges : List Range) (fs : List Formula) (ns : List ℕ) (owners : List (Option ℕ)) (shared : List Bool) (known : AreOwned fs (is_used fs ns) owners shared) where
  alike : (p q : UseTest) → ((m i : ℕ) → p m i ≡ q m i) → is_used fs ns p ≡ is_used fs ns q
  alike p q e = same_from (is_used fs ns p) (is_used fs ns q) (known.rising p q (λ m i h. sym (e m i) ∙ h)) (known.rising q p (λ m i h. e m i ∙ h))

  -- of a variable that a number uses
  shared_at : (g v : ℕ) → ((test : UseTest) → test g v ≡ true → is_used fs ns test ≡ true) → get_or shared v false ≡ is_used fs ns (λ m i. nat_eq i v && not (same_at fs g m))
  shared_at g v uses = by_owner (get_or owners v None) (get_or shared v false) (known.each v below)
    where
      within : nat_le most_variables v ≡ false
      within = false_from_ne_true (nat_le most_variables v) (λ h. both_ways (is_used fs ns (λ m i. nat_le most_variables i)) known.few (uses (λ m i. nat_le most_variables i) h))

      below : v < most_variables
      below = leb-false most_variables v within

      by_same : (o : ℕ) (s : Bool) → IsOwned fs (is_used fs ns) v (Some o) s → (b : Bool) → same_at fs g o ≡ b → s ≡ is_used fs ns (λ m i. nat_eq i v && not (same_at fs g m))
      by_same o s k true e = k.1 ∙ alike (λ m i. nat_eq i v && not (same_at fs m o)) (λ m i. nat_eq i v && not (same_at fs g m)) (λ m i. ap (λ b. nat_eq i v && not b) (same_through fs g o m e))
      by_same o s k false e =
          k.1 ∙ uses (λ m i. nat_eq i v && not (same_at fs m o)) (and_from (nat_eq v v) (not (same_at fs g o)) (self_eq v) (not_from_false (same_at fs g o) e))
          ∙ sym (known.rising (λ m i. nat_eq i v && same_at fs m o) (λ m i. nat_eq i v && not (same_at fs g m)) (λ m i h. other m i (and_parts (nat_eq i v) (same_at fs m o) h)) k.0)
        where
          differs : (m : ℕ) → same_at fs m o ≡ true → same_at fs g m ≡ true → ⊥
          differs m h f = both_ways (same_at fs g o) e (same_through fs m o g h ∙ same_flip fs m g ∙ f)

          other : (m i : ℕ) → (nat_eq i v ≡ true) × (same_at fs m o ≡ true) → (nat_eq i v && not (same_at fs g m)) ≡ true
          other m i h = and_from (nat_eq i v) (not (same_at fs g m)) h.0 (not_from_false (same_at fs g m) (false_from_ne_true (same_at fs g m) (differs m h.1)))

      by_owner : (o : Option ℕ) (s : Bool) → IsOwned fs (is_used fs ns) v o s → s ≡ is_used fs ns (λ m i. nat_eq i v && not (same_at fs g m))
      by_owner None s k = absurd (both_ways (is_used fs ns (λ m i. nat_eq i v)) k.1 (uses (λ m i. nat_eq i v) (self_eq v)))
      by_owner (Some o) s k = by_same o s k (same_at fs g o) refl

  -- of what another number has
  between_two : (a : Atom) (ts : List Term) (own : List Atom) → length own ≤ 1
      → list_any (λ t. list_any (λ u. nat_eq u.0 t.0 && not (is_among (a ∷ []) own)) (several_in own)) ts ≡ list_any (λ b. not (same_atom a b) && list_any (λ t. has_variable (several_terms b) t.0) ts) own
  between_two a ts [] l = any_false ts
  between_two a ts (b ∷ c ∷ own) l = absurd (omega (arith, l))
  between_two a ts (b ∷ []) l =
      any_in (λ t. list_any (λ u. nat_eq u.0 t.0 && not (same_atom a b || false)) (several_terms b)) (λ t. has_variable (several_terms b) t.0 && not (same_atom a b || false)) ts
      (λ t h. any_and (λ u. nat_eq u.0 t.0) (not (same_atom a b || false)) (several_terms b))
      ∙ any_and (λ t. has_variable (several_terms b) t.0) (not (same_atom a b || false)) ts
      ∙ and_flip (list_any (λ t. has_variable (several_terms b) t.0) ts) (not (same_atom a b || false))
      ∙ ap (λ x. not x && list_any (λ t. has_variable (several_terms b) t.0) ts) (or_false (same_atom a b))
      ∙ sym (or_false (not (same_atom a b) && list_any (λ t. has_variable (several_terms b) t.0) ts))

  shared_same : (n : ℕ) (a : Atom) → IsIn ns n → own_atoms (formula_at fs n) ≡ a ∷ [] → has_shared shared (several_terms a) ≡ is_shared (found_atoms fs ns) a
  shared_same n a at own =
      any_in (λ t. get_or shared t.0 false) (λ t. is_used fs ns (λ m i. nat_eq i t.0 && not (same_at fs n m))) (several_terms a) (λ t h. shared_at n t.0 (uses t h))
      ∙ any_swap (λ (t : Term) (m : ℕ). passes_some (λ k i. nat_eq i t.0 && not (same_at fs n k)) m (several_at fs m)) (several_terms a) ns
      ∙ any_in (λ m. list_any (λ t. passes_some (λ k i. nat_eq i t.0 && not (same_at fs n k)) m (several_at fs m)) (several_terms a))
      (λ m. list_any (λ b. not (same_atom a b) && list_any (λ t. has_variable (several_terms b) t.0) (several_terms a)) (own_atoms (formula_at fs m))) ns (λ m h. each m)
      ∙ sym (found_any (λ b. not (same_atom a b) && list_any (λ t. has_variable (several_terms b) t.0) (several_terms a)) fs ns)
    where
      uses : (t : Term) → IsIn (several_terms a) t → (test : UseTest) → test n t.0 ≡ true → is_used fs ns test ≡ true
      uses t h test e = in_any (λ m. passes_some test m (several_at fs m)) ns n at (in_any (λ u. test n u.0) (several_at fs n) t (subst (λ xs. IsIn (several_in xs) t) (sym own) h) e)

      each : (m : ℕ) → list_any (λ t. passes_some (λ k i. nat_eq i t.0 && not (same_at fs n k)) m (several_at fs m)) (several_terms a)
          ≡ list_any (λ b. not (same_atom a b) && list_any (λ t. has_variable (several_terms b) t.0) (several_terms a)) (own_atoms (formula_at fs m))
      each m =
          ap (λ (xs : List Atom). list_any (λ t. list_any (λ u. nat_eq u.0 t.0 && not (is_among xs (own_atoms (formula_at fs m)))) (several_at fs m)) (several_terms a)) own
          ∙ between_two a (several_terms a) (own_atoms (formula_at fs m)) (own_few (formula_at fs m))

  number_hard : (i n : ℕ) → IsIn ns n → (own : List Atom) → length own ≤ 1 → own_atoms (formula_at fs n) ≡ own
      → (is_hard_with ranges shared (several_in own) (equation_in own) && has_variable (several_in own) i) ≡ list_any (λ a. is_hard ranges (found_atoms fs ns) a && has_variable (several_terms a) i) own
  number_hard i n at [] l named = and_right (is_hard_with ranges shared [] false) false refl
  number_hard i n at (a ∷ b ∷ own) l named = absurd (omega (arith, l))
  number_hard i n at (a ∷ []) l named =
      ap (λ b. (not (is_difference ranges (several_terms a)) && (is_equation a || b)) && has_variable (several_terms a) i) (shared_same n a at named)
      ∙ sym (or_false (is_hard ranges (found_atoms fs ns) a && has_variable (several_terms a) i))

  pub hard_is : (i : ℕ) → is_hard_among ranges fs shared ns i ≡ is_hard_variable ranges (found_atoms fs ns) i
  hard_is i =
      any_in (λ n. is_hard_at ranges fs shared n && has_variable (several_at fs n) i) (λ n. list_any (λ a. is_hard ranges (found_atoms fs ns) a && has_variable (several_terms a) i) (own_atoms (formula_at fs n))) ns
      (λ n h. number_hard i n h (own_atoms (formula_at fs n)) (own_few (formula_at fs n)) refl)
      ∙ sym (found_any (λ a. is_hard ranges (found_atoms fs ns) a && has_variable (several_terms a) i) fs ns)

-- Marks.

pub none_marked : (n i : ℕ) → get_or (replicate n false) i false ≡ false
none_marked zero i = refl
none_marked (suc n) zero = refl
none_marked (suc n) (suc i) = none_marked n i

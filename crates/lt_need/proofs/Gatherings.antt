-- What is reached from a gate.
use Rattle.std.proofs.Common.{◌≡◌, ◌<◌, ◌≤◌, ◌+◌, ◌||◌, ◌⊎◌, inl, inr, ℕ, zero, suc, Bool, true, false, IsTrue, List, [], ◌∷◌, ◌++◌, length, refl, ap, sym, ◌∙◌, subst, arith, set, get_or, drop}
use Rattle.std.specs.Prelude.{nat_lt}
use Rattle.std.specs.List.{list_any}
use Rattle.std.proofs.lemmas.Bool.{cases_eq, cases_lt, false_from_ne_true, or_cases, or_left as first_true, or_right as second_true}
use Rattle.std.proofs.lemmas.List.{append-nil, append_assoc, drop_all, drop_more, get_or-set_other, get_or-set_same, get_or_append_left, get_or_default, length-append, length-set}
use Rattle.std.proofs.lemmas.List.Elements.{All-append}
use Rattle.std.proofs.lemmas.List.Folds.{list_any-append}
use Rattle.lt_linear.specs.Form.{Term}
use Rattle.lt_space.specs.Absorbed.{absorbed, and_of, and_right, choice_of, not_of, or_of, or_right, xor_of, xor_right}
use Rattle.lt_space.specs.Circuit.{formula_at, gate_fits, gate_formula}
use Rattle.lt_space.specs.Formula.{Formula, atom, choice, conjunction, disjunction, exclusive, negation, truth}
use Rattle.lt_space.specs.declared.circuit.Gate.{Gate}
use Rattle.lt_space.specs.declared.circuit.Gate.TheVariants as gate
use Rattle.lt_space.specs.declared.formula.Atom.{Atom}
use Rattle.lt_need.specs.Need.{atoms_of}
use Rattle.lt_need.specs.declared.faces.Face.{Face}
use Rattle.lt_need.specs.declared.faces.Face.TheVariants.{Known, Plain, Denied, Twice}
use Rattle.lt_need.specs.inner.Counts.{AreGates, found_atoms}
use Rattle.lt_need.specs.inner.Faces.{AreFaces, StandsFor, absorbed_at, face_at}
use Rattle.lt_need.specs.inner.Marks.{AreUnmarked, HaveSame, count_marks, own_atoms}
use Rattle.lt_need.specs.inner.Reached.{AreReached, HaveSameAtoms, IsIn, IsLonger, IsSpread, Reaches, choice_parts, gate_parts, has_atom, own_parts}
use Rattle.lt_need.proofs.Counting.{found_any}
use Rattle.lt_need.proofs.Lists.{any_at, in_any, in_at, in_left, in_right, in_split, same_from}
use Rattle.lt_need.proofs.Standings.{IsOther, and_left, and_right_test, denied_is_other, less_from, plain_other, twice_other}

or_right_false : (a : Bool) → a ≡ (a || false)
or_right_false true = refl
or_right_false false = refl

-- What joined formulas have that are no truths.

module _ (p : Atom → Bool) where
  abbrev has : Formula → Bool
  has f = list_any p (atoms_of f)

  not_has : (f : Formula) → has (not_of f) ≡ has f
  not_has (truth b) = refl
  not_has (atom a) = refl
  not_has (negation x) = refl
  not_has (conjunction x y) = refl
  not_has (disjunction x y) = refl
  not_has (exclusive x y) = refl
  not_has (choice x y z) = refl

  and_right_has : (f g : Formula) → IsOther (and_right f g) → has (and_right f g) ≡ (has f || has g)
  and_right_has f (truth true) h = or_right_false (has f)
  and_right_has f (truth false) h = absurd h
  and_right_has f (atom b) h = list_any-append p (atoms_of f) (atoms_of (atom b))
  and_right_has f (negation x) h = list_any-append p (atoms_of f) (atoms_of (negation x))
  and_right_has f (conjunction x y) h = list_any-append p (atoms_of f) (atoms_of (conjunction x y))
  and_right_has f (disjunction x y) h = list_any-append p (atoms_of f) (atoms_of (disjunction x y))
  and_right_has f (exclusive x y) h = list_any-append p (atoms_of f) (atoms_of (exclusive x y))
  and_right_has f (choice x y z) h = list_any-append p (atoms_of f) (atoms_of (choice x y z))

  and_has : (f g : Formula) → IsOther (and_of f g) → has (and_of f g) ≡ (has f || has g)
  and_has (truth true) g h = refl
  and_has (truth false) g h = absurd h
  and_has (atom a) g h = and_right_has (atom a) g h
  and_has (negation x) g h = and_right_has (negation x) g h
  and_has (conjunction x y) g h = and_right_has (conjunction x y) g h
  and_has (disjunction x y) g h = and_right_has (disjunction x y) g h
  and_has (exclusive x y) g h = and_right_has (exclusive x y) g h
  and_has (choice x y z) g h = and_right_has (choice x y z) g h

  or_right_has : (f g : Formula) → IsOther (or_right f g) → has (or_right f g) ≡ (has f || has g)
  or_right_has f (truth true) h = absurd h
  or_right_has f (truth false) h = or_right_false (has f)
  or_right_has f (atom b) h = list_any-append p (atoms_of f) (atoms_of (atom b))
  or_right_has f (negation x) h = list_any-append p (atoms_of f) (atoms_of (negation x))
  or_right_has f (conjunction x y) h = list_any-append p (atoms_of f) (atoms_of (conjunction x y))
  or_right_has f (disjunction x y) h = list_any-append p (atoms_of f) (atoms_of (disjunction x y))
  or_right_has f (exclusive x y) h = list_any-append p (atoms_of f) (atoms_of (exclusive x y))
  or_right_has f (choice x y z) h = list_any-append p (atoms_of f) (atoms_of (choice x y z))

  or_has : (f g : Formula) → IsOther (or_of f g) → has (or_of f g) ≡ (has f || has g)
  or_has (truth true) g h = absurd h
  or_has (truth false) g h = refl
  or_has (atom a) g h = or_right_has (atom a) g h
  or_has (negation x) g h = or_right_has (negation x) g h
  or_has (conjunction x y) g h = or_right_has (conjunction x y) g h
  or_has (disjunction x y) g h = or_right_has (disjunction x y) g h
  or_has (exclusive x y) g h = or_right_has (exclusive x y) g h
  or_has (choice x y z) g h = or_right_has (choice x y z) g h

  xor_right_has : (f g : Formula) → IsOther (xor_right f g) → has (xor_right f g) ≡ (has f || has g)
  xor_right_has f (truth true) h = not_has f ∙ or_right_false (has f)
  xor_right_has f (truth false) h = or_right_false (has f)
  xor_right_has f (atom b) h = list_any-append p (atoms_of f) (atoms_of (atom b))
  xor_right_has f (negation x) h = list_any-append p (atoms_of f) (atoms_of (negation x))
  xor_right_has f (conjunction x y) h = list_any-append p (atoms_of f) (atoms_of (conjunction x y))
  xor_right_has f (disjunction x y) h = list_any-append p (atoms_of f) (atoms_of (disjunction x y))
  xor_right_has f (exclusive x y) h = list_any-append p (atoms_of f) (atoms_of (exclusive x y))
  xor_right_has f (choice x y z) h = list_any-append p (atoms_of f) (atoms_of (choice x y z))

  xor_has : (f g : Formula) → IsOther (xor_of f g) → has (xor_of f g) ≡ (has f || has g)
  xor_has (truth true) g h = not_has g
  xor_has (truth false) g h = refl
  xor_has (atom a) g h = xor_right_has (atom a) g h
  xor_has (negation x) g h = xor_right_has (negation x) g h
  xor_has (conjunction x y) g h = xor_right_has (conjunction x y) g h
  xor_has (disjunction x y) g h = xor_right_has (disjunction x y) g h
  xor_has (exclusive x y) g h = xor_right_has (exclusive x y) g h
  xor_has (choice x y z) g h = xor_right_has (choice x y z) g h

  all_has : (f g k : Formula) → has (choice f g k) ≡ (has f || (has g || has k))
  all_has f g k = list_any-append p (atoms_of f) (atoms_of g ++ atoms_of k) ∙ ap (λ b. has f || b) (list_any-append p (atoms_of g) (atoms_of k))

  choice_has : (f g k : Formula) → IsOther f → has (choice_of f g k) ≡ (has f || (has g || has k))
  choice_has (truth b) g k h = absurd h
  choice_has (atom a) g k h = all_has (atom a) g k
  choice_has (negation x) g k h = all_has (negation x) g k
  choice_has (conjunction x y) g k h = all_has (conjunction x y) g k
  choice_has (disjunction x y) g k h = all_has (disjunction x y) g k
  choice_has (exclusive x y) g k h = all_has (exclusive x y) g k
  choice_has (choice x y z) g k h = all_has (choice x y z) g k

own_none : (p : Atom → Bool) (f : Formula) (b : Bool) → absorbed f ≡ truth b → list_any p (own_atoms f) ≡ false
own_none p (truth c) b e = refl
own_none p (atom a) b e = absurd (kept e)
  where
    is_truth : Formula → Type 0
    is_truth (truth c) = Unit {0}
    is_truth (atom c) = ⊥
    is_truth (negation x) = ⊥
    is_truth (conjunction x y) = ⊥
    is_truth (disjunction x y) = ⊥
    is_truth (exclusive x y) = ⊥
    is_truth (choice x y z) = ⊥

    kept : atom a ≡ truth b → ⊥
    kept e = subst (λ (x : Formula). is_truth x) (sym e) tt
own_none p (negation x) b e = refl
own_none p (conjunction x y) b e = refl
own_none p (disjunction x y) b e = refl
own_none p (exclusive x y) b e = refl
own_none p (choice x y z) b e = refl

-- What a gate has: its own atom, and what its parts have.

module _ (p : Atom → Bool) (fs : List Formula) (terms : List Term) (n count : ℕ) (faces : List Face) (known : AreFaces fs (length faces) faces) (here : n < length faces) where
  -- a gate that stands for no truth
  gate_whole : (g : Gate) → IsTrue (gate_fits count n g) → IsOther (absorbed (gate_formula terms fs g))
      → has p (absorbed (gate_formula terms fs g)) ≡ (list_any p (own_atoms (gate_formula terms fs g)) || list_any (has_atom fs p) (gate_parts faces g))
  gate_whole (gate.Truth b) fits o = absurd o
  gate_whole (gate.Flag i) fits o = or_right_false _
  gate_whole (gate.Compare relation first after constant) fits o = or_right_false _
  gate_whole (gate.Not a) fits o = not_has p (absorbed_at fs a) ∙ or_right_false (has_atom fs p a)
  gate_whole (gate.And a b) fits o = and_has p (absorbed_at fs a) (absorbed_at fs b) o ∙ ap (λ x. has_atom fs p a || x) (or_right_false (has_atom fs p b))
  gate_whole (gate.Or a b) fits o = or_has p (absorbed_at fs a) (absorbed_at fs b) o ∙ ap (λ x. has_atom fs p a || x) (or_right_false (has_atom fs p b))
  gate_whole (gate.Xor a b) fits o = xor_has p (absorbed_at fs a) (absorbed_at fs b) o ∙ ap (λ x. has_atom fs p a || x) (or_right_false (has_atom fs p b))
  gate_whole (gate.If a b c) fits o = by_face (face_at faces a) (known.stand a (omega (arith, low, here)))
    where
      low : a < n
      low = less_from fs a n (and_left fs _ _ fits)

      Goal : Face → Type 0
      Goal face = has p (choice_of (absorbed_at fs a) (absorbed_at fs b) (absorbed_at fs c)) ≡ list_any (has_atom fs p) (choice_parts face a b c)

      whole : IsOther (absorbed_at fs a) → has p (choice_of (absorbed_at fs a) (absorbed_at fs b) (absorbed_at fs c)) ≡ (has_atom fs p a || (has_atom fs p b || (has_atom fs p c || false)))
      whole other = choice_has p (absorbed_at fs a) (absorbed_at fs b) (absorbed_at fs c) other ∙ ap (λ x. has_atom fs p a || (has_atom fs p b || x)) (or_right_false (has_atom fs p c))

      by_truth : (t : Bool) → absorbed_at fs a ≡ truth t → Goal (Known t)
      by_truth true s = ap (λ x. has p (choice_of x (absorbed_at fs b) (absorbed_at fs c))) s ∙ or_right_false (has_atom fs p b)
      by_truth false s = ap (λ x. has p (choice_of x (absorbed_at fs b) (absorbed_at fs c))) s ∙ or_right_false (has_atom fs p c)

      by_face : (face : Face) → StandsFor fs (suc a) face (absorbed_at fs a) → Goal face
      by_face (Known t) s = by_truth t s
      by_face (Plain i) s = whole (plain_other fs (suc a) i (absorbed_at fs a) s)
      by_face (Denied i) s = whole (denied_is_other fs (suc a) i (absorbed_at fs a) s)
      by_face (Twice i) s = whole (twice_other fs (suc a) i (absorbed_at fs a) s)

  -- any gate
  own_whole : (g : Gate) (face : Face) → face ≡ face_at faces n → formula_at fs n ≡ gate_formula terms fs g → IsTrue (gate_fits count n g)
      → has_atom fs p n ≡ (list_any p (own_atoms (formula_at fs n)) || list_any (has_atom fs p) (own_parts face faces g))
  own_whole g face named is fits = by_face face (subst (λ (x : Face). StandsFor fs (suc n) x (absorbed_at fs n)) (sym named) (known.stand n here))
    where
      Goal : Face → Type 0
      Goal face = has_atom fs p n ≡ (list_any p (own_atoms (formula_at fs n)) || list_any (has_atom fs p) (own_parts face faces g))

      whole : IsOther (absorbed_at fs n) → has_atom fs p n ≡ (list_any p (own_atoms (formula_at fs n)) || list_any (has_atom fs p) (gate_parts faces g))
      whole other =
          subst (λ (f : Formula). has p (absorbed f) ≡ (list_any p (own_atoms f) || list_any (has_atom fs p) (gate_parts faces g))) (sym is)
          (gate_whole g fits (subst (λ (f : Formula). IsOther (absorbed f)) is other))

      by_face : (face : Face) → StandsFor fs (suc n) face (absorbed_at fs n) → Goal face
      by_face (Known b) s = ap (has p) s ∙ sym (ap (λ x. x || false) (own_none p (formula_at fs n) b s))
      by_face (Plain i) s = whole (plain_other fs (suc n) i (absorbed_at fs n) s)
      by_face (Denied i) s = whole (denied_is_other fs (suc n) i (absorbed_at fs n) s)
      by_face (Twice i) s = whole (twice_other fs (suc n) i (absorbed_at fs n) s)

-- Parts are lower.

module _ (fs : List Formula) (n count : ℕ) (faces : List Face) where
  one_below : (a m : ℕ) → a < n → IsIn (a ∷ []) m → m < n
  one_below a m l (inl e) = omega (arith, l, e)
  one_below a m l (inr h) = absurd h

  two_below : (a b m : ℕ) → a < n → b < n → IsIn (a ∷ b ∷ []) m → m < n
  two_below a b m l k (inl e) = omega (arith, l, e)
  two_below a b m l k (inr h) = one_below b m k h

  choice_below : (face : Face) (a b c m : ℕ) → a < n → b < n → c < n → IsIn (choice_parts face a b c) m → m < n
  choice_below (Known true) a b c m la lb lc h = one_below b m lb h
  choice_below (Known false) a b c m la lb lc h = one_below c m lc h
  choice_below (Plain i) a b c m la lb lc (inl e) = omega (arith, la, e)
  choice_below (Plain i) a b c m la lb lc (inr h) = two_below b c m lb lc h
  choice_below (Denied i) a b c m la lb lc (inl e) = omega (arith, la, e)
  choice_below (Denied i) a b c m la lb lc (inr h) = two_below b c m lb lc h
  choice_below (Twice i) a b c m la lb lc (inl e) = omega (arith, la, e)
  choice_below (Twice i) a b c m la lb lc (inr h) = two_below b c m lb lc h

  gate_below : (g : Gate) → IsTrue (gate_fits count n g) → (m : ℕ) → IsIn (gate_parts faces g) m → m < n
  gate_below (gate.Truth b) fits m h = absurd h
  gate_below (gate.Flag i) fits m h = absurd h
  gate_below (gate.Compare relation first after constant) fits m h = absurd h
  gate_below (gate.Not a) fits m h = one_below a m (less_from fs a n fits) h
  gate_below (gate.And a b) fits m h = two_below a b m (less_from fs a n (and_left fs _ _ fits)) (less_from fs b n (and_right_test fs (nat_lt a n) _ fits)) h
  gate_below (gate.Or a b) fits m h = two_below a b m (less_from fs a n (and_left fs _ _ fits)) (less_from fs b n (and_right_test fs (nat_lt a n) _ fits)) h
  gate_below (gate.Xor a b) fits m h = two_below a b m (less_from fs a n (and_left fs _ _ fits)) (less_from fs b n (and_right_test fs (nat_lt a n) _ fits)) h
  gate_below (gate.If a b c) fits m h =
      choice_below (face_at faces a) a b c m (less_from fs a n (and_left fs _ _ fits)) (less_from fs b n (and_left fs _ _ (and_right_test fs (nat_lt a n) _ fits)))
      (less_from fs c n (and_right_test fs (nat_lt b n) _ (and_right_test fs (nat_lt a n) _ fits))) h

  pub parts_below : (face : Face) (g : Gate) → IsTrue (gate_fits count n g) → (m : ℕ) → IsIn (own_parts face faces g) m → m < n
  parts_below (Known b) g fits m h = absurd h
  parts_below (Plain i) g fits m h = gate_below g fits m h
  parts_below (Denied i) g fits m h = gate_below g fits m h
  parts_below (Twice i) g fits m h = gate_below g fits m h

-- A visit.

module _ (fs : List Formula) (terms : List Term) (n count : ℕ) (faces : List Face) (known : AreFaces fs (length faces) faces) (here : n < length faces) (g : Gate) (face : Face) (named : face ≡ face_at faces n)
    (is : formula_at fs n ≡ gate_formula terms fs g) (fits : IsTrue (gate_fits count n g)) (before after : List ℕ) (reaches : Reaches before after (own_parts face faces g)) where
  pub visit_spread : IsSpread fs after n
  visit_spread p h =
      by_part (or_cases (list_any p (own_atoms (formula_at fs n))) (list_any (has_atom fs p) (own_parts face faces g)) (sym (own_whole p fs terms n count faces known here g face named is fits) ∙ h))
    where
      by_part : (list_any p (own_atoms (formula_at fs n)) ≡ true) ⊎ (list_any (has_atom fs p) (own_parts face faces g) ≡ true)
          → (list_any p (own_atoms (formula_at fs n)) ≡ true) ⊎ ((m : ℕ) × (m < n) × IsIn after m × (has_atom fs p m ≡ true))
      by_part (inl e) = inl e
      by_part (inr e) =
          let found = any_at (has_atom fs p) (own_parts face faces g) e in
          inr (found.0, parts_below fs n count faces face g fits found.0 found.1, reaches.all found.0 found.1, found.2)

  pub visit_same : IsIn before n → HaveSameAtoms fs before after
  visit_same own p =
      ap (list_any (has_atom fs p)) reaches.whole ∙ list_any-append (has_atom fs p) before reaches.more
      ∙ same_from (list_any (has_atom fs p) before || list_any (has_atom fs p) reaches.more) (list_any (has_atom fs p) before)
      (λ h. by_part (or_cases (list_any (has_atom fs p) before) (list_any (has_atom fs p) reaches.more) h)) (λ h. first_true (list_any (has_atom fs p) before) (list_any (has_atom fs p) reaches.more) h)
    where
      by_part : (list_any (has_atom fs p) before ≡ true) ⊎ (list_any (has_atom fs p) reaches.more ≡ true) → list_any (has_atom fs p) before ≡ true
      by_part (inl e) = e
      by_part (inr e) =
          let found = any_at (has_atom fs p) reaches.more e in
          let part : list_any (has_atom fs p) (own_parts face faces g) ≡ true = in_any (has_atom fs p) (own_parts face faces g) found.0 (reaches.only found.0 found.1) found.2 in
          in_any (has_atom fs p) before n own
          (own_whole p fs terms n count faces known here g face named is fits ∙ second_true (list_any p (own_atoms (formula_at fs n))) (list_any (has_atom fs p) (own_parts face faces g)) part)

pub reached_gates : (most : ℕ) (before after parts : List ℕ) → Reaches before after parts → AreGates most before → ((m : ℕ) → IsIn parts m → m < most) → AreGates most after
reached_gates most before after parts r gates below =
    subst (λ (ns : List ℕ). AreGates most ns) (sym r.whole) (All-append (λ n. n < most) before r.more gates (λ k d l. below (get_or r.more k d) (r.only (get_or r.more k d) (in_at r.more k d l))))

pub first_gates : (most : ℕ) (before after : List ℕ) (from : ℕ) → before ≡ [] → from < most → Reaches before after (from ∷ []) → AreGates most after
first_gates most before after from none l r = reached_gates most before after (from ∷ []) r (subst (λ (ns : List ℕ). AreGates most ns) (sym none) (λ k d m. absurd (omega (arith, m)))) (λ m h. by_part m h)
  where
    by_part : (m : ℕ) → IsIn (from ∷ []) m → m < most
    by_part m (inl e) = omega (arith, l, e)
    by_part m (inr h) = absurd h

-- Where all that is reached is spread.

spread_longer : (fs : List Formula) (before after : List ℕ) (n : ℕ) → IsLonger before after → IsSpread fs before n → IsSpread fs after n
spread_longer fs before after n more s p h = by_part (s p h)
  where
    by_part : (list_any p (own_atoms (formula_at fs n)) ≡ true) ⊎ ((m : ℕ) × (m < n) × IsIn before m × (has_atom fs p m ≡ true))
        → (list_any p (own_atoms (formula_at fs n)) ≡ true) ⊎ ((m : ℕ) × (m < n) × IsIn after m × (has_atom fs p m ≡ true))
    by_part (inl e) = inl e
    by_part (inr e) = inr (e.0, e.1, subst (λ (ns : List ℕ). IsIn ns e.0) (sym more.1) (in_left before more.0 e.0 e.2), e.3)

pub spread_more : (fs : List Formula) (before after : List ℕ) (place d : ℕ) → place < length before → IsLonger before after → ((k : ℕ) → k < place → IsSpread fs before (get_or before k 0)) → IsSpread fs after (get_or before place d)
    → (k : ℕ) → k < place + 1 → IsSpread fs after (get_or after k 0)
spread_more fs before after place d l more old new k m = by_place (cases_lt k place)
  where
    kept : (j : ℕ) → j < length before → get_or before j 0 ≡ get_or after j 0
    kept j h = sym (ap (λ (ns : List ℕ). get_or ns j 0) more.1 ∙ get_or_append_left before more.0 0 j h)

    by_place : (k < place) ⊎ (place ≤ k) → IsSpread fs after (get_or after k 0)
    by_place (inl h) = subst (λ (n : ℕ). IsSpread fs after n) (kept k (omega (arith, h, l))) (spread_longer fs before after (get_or before k 0) more (old k h))
    by_place (inr h) =
        let same : k ≡ place = omega (arith, m, h) in
        subst (λ (j : ℕ). IsSpread fs after (get_or after j 0)) (sym same) (subst (λ (n : ℕ). IsSpread fs after n) (get_or_default before place d 0 l ∙ kept place l) new)

at_in : (xs : List ℕ) (n : ℕ) → IsIn xs n → (k : ℕ) × (k < length xs) × (get_or xs k 0 ≡ n)
at_in [] n h = absurd h
at_in (x ∷ xs) n (inl e) = (0, omega arith, e)
at_in (x ∷ xs) n (inr h) = let found = at_in xs n h in (suc found.0, omega (arith, found.1), found.2)

module _ (fs : List Formula) (reached : List ℕ) (all : (k : ℕ) → k < length reached → IsSpread fs reached (get_or reached k 0)) (p : Atom → Bool) where
  closed : (most n : ℕ) → n < most → IsIn reached n → has_atom fs p n ≡ true → list_any p (found_atoms fs reached) ≡ true
  closed zero n l at h = absurd (omega (arith, l))
  closed (suc most) n l at h = by_part (closed most) (subst (λ (i : ℕ). IsSpread fs reached i) (at_in reached n at).2 (all (at_in reached n at).0 (at_in reached n at).1) p h)
    where
      by_part : ((m : ℕ) → m < most → IsIn reached m → has_atom fs p m ≡ true → list_any p (found_atoms fs reached) ≡ true)
          → (list_any p (own_atoms (formula_at fs n)) ≡ true) ⊎ ((m : ℕ) × (m < n) × IsIn reached m × (has_atom fs p m ≡ true)) → list_any p (found_atoms fs reached) ≡ true
      by_part lower (inl e) = found_any p fs reached ∙ in_any (λ i. list_any p (own_atoms (formula_at fs i))) reached n at e
      by_part lower (inr e) = lower e.0 (omega (arith, l, e.1)) e.2 e.3

own_has : (p : Atom → Bool) (f : Formula) → list_any p (own_atoms f) ≡ true → list_any p (atoms_of (absorbed f)) ≡ true
own_has p (truth b) h = absurd (cc)
own_has p (atom a) h = h
own_has p (negation x) h = absurd (cc)
own_has p (conjunction x y) h = absurd (cc)
own_has p (disjunction x y) h = absurd (cc)
own_has p (exclusive x y) h = absurd (cc)
own_has p (choice x y z) h = absurd (cc)

pub all_spread : (fs : List Formula) (reached : List ℕ) (from place : ℕ) → length reached ≤ place → ((k : ℕ) → k < place → IsSpread fs reached (get_or reached k 0))
    → ((p : Atom → Bool) → list_any (has_atom fs p) reached ≡ has_atom fs p from) → HaveSame (atoms_of (absorbed_at fs from)) (found_atoms fs reached)
all_spread fs reached from place l all whole p =
    same_from (has_atom fs p from) (list_any p (found_atoms fs reached))
    (λ h. let found = any_at (has_atom fs p) reached (whole p ∙ h) in closed fs reached (λ k m. all k (omega (arith, l, m))) p (suc found.0) found.0 (omega arith) found.1 found.2)
    (λ h. let found = any_at (λ i. list_any p (own_atoms (formula_at fs i))) reached (sym (found_any p fs reached) ∙ h) in
    sym (whole p) ∙ in_any (has_atom fs p) reached found.0 found.1 (own_has p (formula_at fs found.0) found.2))

-- where it begins
pub first_whole : (fs : List Formula) (before after : List ℕ) (from : ℕ) → before ≡ [] → Reaches before after (from ∷ []) → (p : Atom → Bool) → list_any (has_atom fs p) after ≡ has_atom fs p from
first_whole fs before after from none r p =
    same_from (list_any (has_atom fs p) after) (has_atom fs p from)
    (λ h. let found = any_at (has_atom fs p) after h in by_part found.0 (r.only found.0 (subst (λ (ns : List ℕ). IsIn ns found.0) (r.whole ∙ ap (λ (ns : List ℕ). ns ++ r.more) none) found.1)) found.2)
    (λ h. in_any (has_atom fs p) after from (r.all from (inl refl)) h)
  where
    by_part : (m : ℕ) → IsIn (from ∷ []) m → has_atom fs p m ≡ true → has_atom fs p from ≡ true
    by_part m (inl e) h = ap (has_atom fs p) e ∙ h
    by_part m (inr e) h = absurd e

-- Marks of what is reached.

count_set : (d : Bool) (marks : List Bool) (n : ℕ) → n < length marks → get_or marks n d ≡ false → count_marks (set marks n true) ≡ suc (count_marks marks)
count_set d [] n l e = absurd (omega (arith, l))
count_set d (true ∷ marks) zero l e = absurd (cc)
count_set d (false ∷ marks) zero l e = refl
count_set d (true ∷ marks) (suc n) l e = ap suc (count_set d marks n (omega (arith, l)) e)
count_set d (false ∷ marks) (suc n) l e = count_set d marks n (omega (arith, l)) e

count_few : (marks : List Bool) → count_marks marks ≤ length marks
count_few [] = omega arith
count_few (true ∷ marks) = omega (arith, count_few marks)
count_few (false ∷ marks) = omega (arith, count_few marks)

count_none : (marks : List Bool) → AreUnmarked marks → count_marks marks ≡ 0
count_none [] h = refl
count_none (true ∷ marks) h = let wrong : true ≡ false = h 0 in absurd (cc)
count_none (false ∷ marks) h = count_none marks (λ n. h (suc n))

pub reached_few : (marks : List Bool) (reached : List ℕ) → AreReached marks reached → length reached ≤ length marks
reached_few marks reached r = omega (arith, r.count, count_few marks)

-- one more has room
pub reached_room : (d : Bool) (marks : List Bool) (reached : List ℕ) (n : ℕ) → n < length marks → get_or marks n d ≡ false → AreReached marks reached → length reached < length marks
reached_room d marks reached n l e r = omega (arith, r.count, count_set d marks n l e, count_few (set marks n true), length-set marks n true)

pub reached_none : (marks : List Bool) (reached : List ℕ) → AreUnmarked marks → reached ≡ [] → AreReached marks reached
reached_none marks reached none is = record {
  marked = λ n h. let wrong : true ≡ false = sym h ∙ none n in absurd (cc);
  count = count_none marks none ∙ sym (ap length is);
}

-- one that was reached before
pub reach_old : (d : Bool) (marks : List Bool) (reached : List ℕ) (n : ℕ) → n < length marks → get_or marks n d ≡ true → AreReached marks reached → Reaches reached reached (n ∷ [])
reach_old d marks reached n l e r = record {
  more = [];
  whole = sym (append-nil reached);
  all = λ m h. by_part m h;
  only = λ m h. absurd h;
}
  where
    by_part : (m : ℕ) → IsIn (n ∷ []) m → IsIn reached m
    by_part m (inl s) = subst (λ (i : ℕ). IsIn reached i) s (r.marked n (get_or_default marks n false d l ∙ e))
    by_part m (inr s) = absurd s

pub reach_new : (reached after : List ℕ) (n : ℕ) → after ≡ reached ++ n ∷ [] → Reaches reached after (n ∷ [])
reach_new reached after n put = record {
  more = n ∷ [];
  whole = put;
  all = λ m h. subst (λ (ns : List ℕ). IsIn ns m) (sym put) (in_right reached (n ∷ []) m h);
  only = λ m h. h;
}

pub mark_new : (d : Bool) (marks : List Bool) (reached after : List ℕ) (n : ℕ) → n < length marks → get_or marks n d ≡ false → after ≡ reached ++ n ∷ [] → AreReached marks reached → AreReached (set marks n true) after
mark_new d marks reached after n l e put r = record {
  marked = λ m h. subst (λ (ns : List ℕ). IsIn ns m) (sym put) (by_place m h (cases_eq m n));
  count = count_set d marks n l e ∙ ap suc r.count ∙ sym (ap length put ∙ length-append reached (n ∷ []) ∙ omega arith);
}
  where
    by_place : (m : ℕ) → get_or (set marks n true) m false ≡ true → (m ≡ n) ⊎ (m ≡ n → ⊥) → IsIn (reached ++ n ∷ []) m
    by_place m h (inl s) = in_right reached (n ∷ []) m (inl (sym s))
    by_place m h (inr ne) = in_left reached (n ∷ []) m (r.marked m (sym (get_or-set_other marks n m true false ne) ∙ h))

pub reach_both : (first second third ps qs : List ℕ) → Reaches first second ps → Reaches second third qs → Reaches first third (ps ++ qs)
reach_both first second third ps qs r s = record {
  more = r.more ++ s.more;
  whole = s.whole ∙ ap (λ (ns : List ℕ). ns ++ s.more) r.whole ∙ append_assoc first r.more s.more;
  all = λ m h. by_part m (in_split ps qs m h);
  only = λ m h. by_more m (in_split r.more s.more m h);
}
  where
    by_part : (m : ℕ) → IsIn ps m ⊎ IsIn qs m → IsIn third m
    by_part m (inl h) = subst (λ (ns : List ℕ). IsIn ns m) (sym s.whole) (in_left second s.more m (r.all m h))
    by_part m (inr h) = s.all m h

    by_more : (m : ℕ) → IsIn r.more m ⊎ IsIn s.more m → IsIn (ps ++ qs) m
    by_more m (inl h) = in_left ps qs m (r.only m h)
    by_more m (inr h) = in_right ps qs m (s.only m h)

-- Marks that are taken away.

pub unmark_more : (marks after : List Bool) (reached : List ℕ) (place d : ℕ) → place < length reached → get_or reached place d < length marks → after ≡ set marks (get_or reached place d) false
    → ((n : ℕ) → get_or marks n false ≡ true → IsIn (drop place reached) n) → (n : ℕ) → get_or after n false ≡ true → IsIn (drop (place + 1) reached) n
unmark_more marks after reached place d l within put old n h = by_place (cases_eq n (get_or reached place d))
  where
    there : get_or (set marks (get_or reached place d) false) n false ≡ true
    there = sym (ap (λ (ms : List Bool). get_or ms n false) put) ∙ h

    by_head : (get_or reached place d ≡ n) ⊎ IsIn (drop (place + 1) reached) n → (n ≡ get_or reached place d → ⊥) → IsIn (drop (place + 1) reached) n
    by_head (inl e) ne = absurd (ne (sym e))
    by_head (inr k) ne = k

    by_place : (n ≡ get_or reached place d) ⊎ (n ≡ get_or reached place d → ⊥) → IsIn (drop (place + 1) reached) n
    by_place (inl e) =
        let gone : get_or (set marks (get_or reached place d) false) n false ≡ false =
        ap (λ (i : ℕ). get_or (set marks (get_or reached place d) false) i false) e ∙ get_or-set_same marks (get_or reached place d) false false within in
        let wrong : true ≡ false = sym there ∙ gone in
        absurd (cc)
    by_place (inr ne) =
        by_head (subst (λ (ns : List ℕ). IsIn ns n) (drop_more reached place d l) (old n (sym (get_or-set_other marks (get_or reached place d) n false false ne) ∙ there))) ne

pub unmarked_all : (marks : List Bool) (reached : List ℕ) (place : ℕ) → length reached ≤ place → ((n : ℕ) → get_or marks n false ≡ true → IsIn (drop place reached) n) → AreUnmarked marks
unmarked_all marks reached place l old n = false_from_ne_true (get_or marks n false) (λ h. subst (λ (ns : List ℕ). IsIn ns n) (drop_all place reached l) (old n h))

-- How many different atoms there are, however they are listed.
use Rattle.std.proofs.Common.{◌≡◌, ◌<◌, ◌≤◌, ◌+◌, ◌&&◌, ◌||◌, ℕ, zero, suc, Bool, true, false, not, List, [], ◌∷◌, ◌++◌, length, refl, ap, sym, ◌∙◌, subst, arith, take, drop, get_or, nat_eq}
use Rattle.std.specs.Prelude.{if◌then◌else◌}
use Rattle.std.specs.List.{list_any}
use Rattle.std.specs.Ordering.{int_eq}
use Rattle.std.proofs.lemmas.List.{take_all, take_more}
use Rattle.std.proofs.lemmas.List.Folds.{list_any-append}
use Rattle.std.proofs.lemmas.Bool.{or_parts}
use Rattle.std.proofs.lemmas.Bool.Decides.{Decides-eqb, Decides-int_eq}
use Rattle.lt_linear.specs.Form.{Term}
use Rattle.lt_space.specs.Circuit.{formula_at, gate_formula}
use Rattle.lt_space.specs.Formula.{Formula, atom, choice, conjunction, disjunction, exclusive, negation, truth}
use Rattle.lt_space.specs.declared.circuit.Gate.{Gate}
use Rattle.lt_space.specs.declared.circuit.Gate.TheVariants as gate
use Rattle.lt_space.specs.declared.formula.Atom.{Atom}
use Rattle.lt_space.specs.declared.formula.Atom.TheVariants.{Compare, Flag}
use Rattle.lt_space.specs.declared.formula.Relation.{Relation}
use Rattle.lt_space.specs.declared.formula.Relation.TheVariants.{Below, Equal, NotAbove}
use Rattle.lt_need.specs.Need.{count_different, same_atom, same_relation, same_terms}
use Rattle.lt_need.specs.inner.Counts.{found_atoms, is_among, is_atom, own_of}
use Rattle.lt_need.specs.inner.Marks.{HaveSame, own_atoms}

both : (a b : Bool) → (a && b) ≡ true → (a ≡ true) × (b ≡ true)
both true b e = (refl, e)
both false b e = absurd (cc)

-- The same as data is equal.

pub same_terms_is : (ss ts : List Term) → same_terms ss ts ≡ true → ss ≡ ts
same_terms_is [] [] e = refl
same_terms_is [] (t ∷ ts) e = absurd (cc)
same_terms_is (s ∷ ss) [] e = absurd (cc)
same_terms_is (s ∷ ss) (t ∷ ts) e =
    let whole = both _ _ e in
    let term = both _ _ whole.0 in
    let head : s ≡ t = ap (λ (i : ℕ). (i, s.1)) ((Decides-eqb s.0 t.0).0 term.0) ∙ ap (λ z. (t.0, z)) ((Decides-int_eq s.1 t.1).0 term.1) in
    ap (λ x. x ∷ ss) head ∙ ap (λ xs. t ∷ xs) (same_terms_is ss ts whole.1)

same_relation_is : (r q : Relation) → same_relation r q ≡ true → r ≡ q
same_relation_is Below Below e = refl
same_relation_is Below NotAbove e = absurd (cc)
same_relation_is Below Equal e = absurd (cc)
same_relation_is NotAbove Below e = absurd (cc)
same_relation_is NotAbove NotAbove e = refl
same_relation_is NotAbove Equal e = absurd (cc)
same_relation_is Equal Below e = absurd (cc)
same_relation_is Equal NotAbove e = absurd (cc)
same_relation_is Equal Equal e = refl

pub same_atom_is : (a b : Atom) → same_atom a b ≡ true → a ≡ b
same_atom_is (Flag i) (Flag j) e = ap Flag ((Decides-eqb i j).0 e)
same_atom_is (Flag i) (Compare form r) e = absurd (cc)
same_atom_is (Compare form r) (Flag j) e = absurd (cc)
same_atom_is (Compare form r) (Compare other q) e =
    let whole = both _ _ e in
    let forms = both _ _ whole.1 in
    ap (Compare form) (same_relation_is r q whole.0)
    ∙ ap (λ z. Compare (record { terms = form.terms; constant = z }) q) ((Decides-int_eq form.constant other.constant).0 forms.0)
    ∙ ap (λ ts. Compare (record { terms = ts; constant = other.constant }) q) (same_terms_is form.terms other.terms forms.1)

terms_same : (ts : List Term) → same_terms ts ts ≡ true
terms_same [] = refl
terms_same (t ∷ ts) =
    ap (λ b. (b && int_eq t.1 t.1) && same_terms ts ts) ((Decides-eqb t.0 t.0).1 refl) ∙ ap (λ b. b && same_terms ts ts) ((Decides-int_eq t.1 t.1).1 refl) ∙ terms_same ts

relation_same : (r : Relation) → same_relation r r ≡ true
relation_same Below = refl
relation_same NotAbove = refl
relation_same Equal = refl

pub atom_same : (a : Atom) → same_atom a a ≡ true
atom_same (Flag i) = (Decides-eqb i i).1 refl
atom_same (Compare form r) =
    ap (λ b. b && (int_eq form.constant form.constant && same_terms form.terms form.terms)) (relation_same r)
    ∙ ap (λ b. b && same_terms form.terms form.terms) ((Decides-int_eq form.constant form.constant).1 refl) ∙ terms_same form.terms

-- Atoms without one of them.

abbrev without : Atom → List Atom → List Atom
without a [] = []
without a (x ∷ xs) = if same_atom a x then without a xs else x ∷ without a xs

any_without : (p : Atom → Bool) (a : Atom) (xs : List Atom) → list_any p (without a xs) ≡ list_any (λ x. not (same_atom a x) && p x) xs
any_without p a [] = refl
any_without p a (x ∷ xs) = by_head (any_without p a xs) (same_atom a x)
  where
    by_head : list_any p (without a xs) ≡ list_any (λ x. not (same_atom a x) && p x) xs → (b : Bool) → list_any p (if b then without a xs else x ∷ without a xs) ≡ ((not b && p x) || list_any (λ x. not (same_atom a x) && p x) xs)
    by_head rest true = rest
    by_head rest false = ap (λ b. p x || b) rest

without_none : (a : Atom) (xs : List Atom) → list_any (same_atom a) xs ≡ false → without a xs ≡ xs
without_none a [] e = refl
without_none a (x ∷ xs) e =
    let parts = or_parts (same_atom a x) (list_any (same_atom a) xs) e in
    ap (λ b. if b then without a xs else x ∷ without a xs) parts.0 ∙ ap (λ ys. x ∷ ys) (without_none a xs parts.1)

length-without : (a : Atom) (xs : List Atom) → length (without a xs) ≤ length xs
length-without a [] = omega arith
length-without a (x ∷ xs) = by_head (length-without a xs) (same_atom a x)
  where
    by_head : length (without a xs) ≤ length xs → (b : Bool) → length (if b then without a xs else x ∷ without a xs) ≤ suc (length xs)
    by_head rest true = omega (arith, rest)
    by_head rest false = omega (arith, rest)

pub any_alike : (p q : Atom → Bool) (xs : List Atom) → ((x : Atom) → p x ≡ q x) → list_any p xs ≡ list_any q xs
any_alike p q [] e = refl
any_alike p q (x ∷ xs) e = ap (λ b. b || list_any p xs) (e x) ∙ ap (λ b. q x || b) (any_alike p q xs e)

kept_other : (a x : Atom) (xs : List Atom) → same_atom a x ≡ false → list_any (same_atom x) (without a xs) ≡ list_any (same_atom x) xs
kept_other a x xs e = any_without (same_atom x) a xs ∙ any_alike (λ y. not (same_atom a y) && same_atom x y) (same_atom x) xs (λ y. by_test y (same_atom x y) refl)
  where
    none : (b : Bool) → (b && false) ≡ false
    none true = refl
    none false = refl

    by_test : (y : Atom) (b : Bool) → same_atom x y ≡ b → (not (same_atom a y) && same_atom x y) ≡ same_atom x y
    by_test y true h = ap (λ b. not b && same_atom x y) (ap (same_atom a) (sym (same_atom_is x y h)) ∙ e)
    by_test y false h = ap (λ b. not (same_atom a y) && b) h ∙ none (not (same_atom a y)) ∙ sym h

-- one less
count_without : (a : Atom) (xs : List Atom) → list_any (same_atom a) xs ≡ true → count_different xs ≡ suc (count_different (without a xs))
count_without a [] h = absurd (cc)
count_without a (x ∷ xs) h = by_head (count_without a xs) (same_atom a x) refl
  where
    by_tail : (list_any (same_atom a) xs ≡ true → count_different xs ≡ suc (count_different (without a xs))) → (c : Bool) → list_any (same_atom a) xs ≡ c → (if c then count_different xs else suc (count_different xs)) ≡ suc (count_different (without a xs))
    by_tail more true e = more e
    by_tail more false e = ap (λ ys. suc (count_different ys)) (sym (without_none a xs e))

    out : (b : Bool) (n : ℕ) → (if b then suc n else suc (suc n)) ≡ suc (if b then n else suc n)
    out true n = refl
    out false n = refl

    by_head : (list_any (same_atom a) xs ≡ true → count_different xs ≡ suc (count_different (without a xs))) → (b : Bool) → same_atom a x ≡ b → count_different (x ∷ xs) ≡ suc (count_different (if b then without a xs else x ∷ without a xs))
    by_head more true e =
        ap (λ y. if list_any (same_atom y) xs then count_different xs else suc (count_different xs)) (sym (same_atom_is a x e)) ∙ by_tail more (list_any (same_atom a) xs) refl
    by_head more false e =
        let rest : list_any (same_atom a) xs ≡ true = subst (λ (b : Bool). (b || list_any (same_atom a) xs) ≡ true) e h in
        ap (λ (n : ℕ). if list_any (same_atom x) xs then n else suc n) (more rest)
        ∙ out (list_any (same_atom x) xs) (count_different (without a xs))
        ∙ ap (λ b. suc (if b then count_different (without a xs) else suc (count_different (without a xs)))) (sym (kept_other a x xs e))

same_count : (n : ℕ) (xs ys : List Atom) → length xs ≤ n → HaveSame xs ys → count_different xs ≡ count_different ys
same_count n [] [] l s = refl
same_count n [] (y ∷ ys) l s = absurd (wrong (s (λ x. true)))
  where
    wrong : false ≡ true → ⊥
    wrong e = absurd (cc)
same_count zero (x ∷ xs) ys l s = absurd (omega (arith, l))
same_count (suc n) (x ∷ xs) ys l s =
    count_without x (x ∷ xs) own ∙ ap suc (same_count n (without x (x ∷ xs)) (without x ys) (omega (arith, l, shorter, length-without x xs)) rest) ∙ sym (count_without x ys (sym (s (same_atom x)) ∙ own))
  where
    own : list_any (same_atom x) (x ∷ xs) ≡ true
    own = ap (λ b. b || list_any (same_atom x) xs) (atom_same x)

    shorter : length (without x (x ∷ xs)) ≡ length (without x xs)
    shorter = ap (λ b. length (if b then without x xs else x ∷ without x xs)) (atom_same x)

    rest : HaveSame (without x (x ∷ xs)) (without x ys)
    rest p = any_without p x (x ∷ xs) ∙ s (λ y. not (same_atom x y) && p y) ∙ sym (any_without p x ys)

-- lists with the same atoms have as many different ones
pub count_same : (xs ys : List Atom) → HaveSame xs ys → count_different xs ≡ count_different ys
count_same xs ys s = same_count (length xs) xs ys (omega arith) s

or_flip : (x y : Bool) → (x || (y || false)) ≡ (y || x)
or_flip true true = refl
or_flip true false = refl
or_flip false true = refl
or_flip false false = refl

pub count_pushed : (a : Atom) (xs : List Atom) → list_any (same_atom a) xs ≡ false → count_different (xs ++ a ∷ []) ≡ suc (count_different xs)
count_pushed a xs e = count_same (xs ++ a ∷ []) (a ∷ xs) (λ p. list_any-append p xs (a ∷ []) ∙ or_flip (list_any p xs) (p a)) ∙ ap (λ b. if b then count_different xs else suc (count_different xs)) e

-- Terms from a place on.

pub terms_apart : (ss ts : List Term) → (length ss ≡ length ts → ⊥) → same_terms ss ts ≡ false
terms_apart [] [] ne = absurd (ne refl)
terms_apart [] (t ∷ ts) ne = refl
terms_apart (s ∷ ss) [] ne = refl
terms_apart (s ∷ ss) (t ∷ ts) ne = ap (λ b. (nat_eq s.0 t.0 && int_eq s.1 t.1) && b) (terms_apart ss ts (λ e. ne (ap suc e))) ∙ none (nat_eq s.0 t.0 && int_eq s.1 t.1)
  where
    none : (b : Bool) → (b && false) ≡ false
    none true = refl
    none false = refl

pub terms_step : (ss ts : List Term) (i : ℕ) (s t : Term) → i < length ss → i < length ts → s ≡ get_or ss i s → t ≡ get_or ts i t
    → same_terms (drop i ss) (drop i ts) ≡ ((nat_eq s.0 t.0 && int_eq s.1 t.1) && same_terms (drop (suc i) ss) (drop (suc i) ts))
terms_step [] ts i s t l m e d = absurd (omega (arith, l))
terms_step (a ∷ ss) [] i s t l m e d = absurd (omega (arith, m))
terms_step (a ∷ ss) (b ∷ ts) zero s t l m e d =
    ap (λ (x : Term). (nat_eq x.0 b.0 && int_eq x.1 b.1) && same_terms ss ts) (sym e) ∙ ap (λ (x : Term). (nat_eq s.0 x.0 && int_eq s.1 x.1) && same_terms ss ts) (sym d)
terms_step (a ∷ ss) (b ∷ ts) (suc i) s t l m e d = terms_step ss ts i s t (omega (arith, l)) (omega (arith, m)) e d

-- Found ones from a place on.

pub found_step : (fs : List Formula) (ks : List ℕ) (i k : ℕ) (own : List Atom) → i < length ks → k ≡ get_or ks i k
    → is_among own (found_atoms fs (drop i ks)) ≡ (is_among own (own_atoms (formula_at fs k)) || is_among own (found_atoms fs (drop (suc i) ks)))
found_step fs [] i k own l e = absurd (omega (arith, l))
found_step fs (j ∷ ks) zero k own l e = split own ∙ ap (λ (x : ℕ). is_among own (own_atoms (formula_at fs x)) || is_among own (found_atoms fs ks)) (sym e)
  where
    split : (own : List Atom) → is_among own (own_atoms (formula_at fs j) ++ found_atoms fs ks) ≡ (is_among own (own_atoms (formula_at fs j)) || is_among own (found_atoms fs ks))
    split [] = refl
    split (a ∷ more) = list_any-append (same_atom a) (own_atoms (formula_at fs j)) (found_atoms fs ks)
found_step fs (j ∷ ks) (suc i) k own l e = found_step fs ks i k own (omega (arith, l)) e

pub found_pushed : (fs : List Formula) (ks : List ℕ) (k : ℕ) → found_atoms fs (ks ++ k ∷ []) ≡ found_atoms fs ks ++ own_atoms (formula_at fs k)
found_pushed fs [] k = none (own_atoms (formula_at fs k))
  where
    none : (xs : List Atom) → xs ++ [] ≡ xs
    none [] = refl
    none (x ∷ xs) = ap (λ ys. x ∷ ys) (none xs)
found_pushed fs (j ∷ ks) k = ap (λ xs. own_atoms (formula_at fs j) ++ xs) (found_pushed fs ks k) ∙ shift (own_atoms (formula_at fs j)) (found_atoms fs ks) (own_atoms (formula_at fs k))
  where
    shift : (xs ys zs : List Atom) → xs ++ (ys ++ zs) ≡ (xs ++ ys) ++ zs
    shift [] ys zs = refl
    shift (x ∷ xs) ys zs = ap (λ l. x ∷ l) (shift xs ys zs)

-- Gates.

pub own_gate : (terms : List Term) (fs : List Formula) (g : Gate) → own_of terms g ≡ own_atoms (gate_formula terms fs g)
own_gate terms fs (gate.Truth b) = refl
own_gate terms fs (gate.Flag i) = refl
own_gate terms fs (gate.Compare relation first after constant) = refl
own_gate terms fs (gate.Not a) = refl
own_gate terms fs (gate.And a b) = refl
own_gate terms fs (gate.Or a b) = refl
own_gate terms fs (gate.Xor a b) = refl
own_gate terms fs (gate.If a b c) = refl

-- a gate that is noted, or isn't an atom, or was noted before
module _ (fs : List Formula) (terms : List Term) (ks : List ℕ) (n : ℕ) (g : Gate) (is : formula_at fs n ≡ gate_formula terms fs g) where
  none_own : (g : Gate) → is_atom g ≡ false → own_atoms (gate_formula terms fs g) ≡ []
  none_own (gate.Truth b) e = refl
  none_own (gate.Flag i) e = absurd (cc)
  none_own (gate.Compare relation first after constant) e = absurd (cc)
  none_own (gate.Not a) e = refl
  none_own (gate.And a b) e = refl
  none_own (gate.Or a b) e = refl
  none_own (gate.Xor a b) e = refl
  none_own (gate.If a b c) e = refl

  or_none : (a : Bool) → a ≡ (a || false)
  or_none true = refl
  or_none false = refl

  pub none_noted : is_atom g ≡ false → HaveSame (found_atoms fs ks) (found_atoms fs ks ++ own_atoms (formula_at fs n))
  none_noted e p = or_none (list_any p (found_atoms fs ks)) ∙ ap (λ xs. list_any p (found_atoms fs ks) || list_any p xs) (sym (ap own_atoms is ∙ none_own g e)) ∙ sym (list_any-append p (found_atoms fs ks) (own_atoms (formula_at fs n)))

  among_kept : (p : Atom → Bool) (own xs : List Atom) → length own ≤ 1 → is_among own xs ≡ true → list_any p xs ≡ (list_any p xs || list_any p own)
  among_kept p [] xs l e = absurd (cc)
  among_kept p (a ∷ b ∷ own) xs l e = absurd (omega (arith, l))
  among_kept p (a ∷ []) [] l e = absurd (cc)
  among_kept p (a ∷ []) (x ∷ xs) l e = by_head (among_kept p (a ∷ []) xs l) (same_atom a x) refl
    where
      here : (b c : Bool) → (b || c) ≡ ((b || c) || (b || false))
      here true c = refl
      here false true = refl
      here false false = refl

      later : (b c d : Bool) → c ≡ (c || d) → (b || c) ≡ ((b || c) || d)
      later true c d e = refl
      later false c d e = e

      by_head : (list_any (same_atom a) xs ≡ true → list_any p xs ≡ (list_any p xs || (p a || false))) → (b : Bool) → same_atom a x ≡ b → (p x || list_any p xs) ≡ ((p x || list_any p xs) || (p a || false))
      by_head more true h = subst (λ (y : Atom). (p x || list_any p xs) ≡ ((p x || list_any p xs) || (p y || false))) (sym (same_atom_is a x h)) (here (p x) (list_any p xs))
      by_head more false h = later (p x) (list_any p xs) (p a || false) (more (subst (λ (b : Bool). (b || list_any (same_atom a) xs) ≡ true) h e))

  own_short : (f : Formula) → length (own_atoms f) ≤ 1
  own_short (truth b) = omega arith
  own_short (atom a) = omega arith
  own_short (negation f) = omega arith
  own_short (conjunction f h) = omega arith
  own_short (disjunction f h) = omega arith
  own_short (exclusive f h) = omega arith
  own_short (choice f h k) = omega arith

  pub old_noted : is_among (own_atoms (formula_at fs n)) (found_atoms fs ks) ≡ true → HaveSame (found_atoms fs ks) (found_atoms fs ks ++ own_atoms (formula_at fs n))
  old_noted e p = among_kept p (own_atoms (formula_at fs n)) (found_atoms fs ks) (own_short (formula_at fs n)) e ∙ sym (list_any-append p (found_atoms fs ks) (own_atoms (formula_at fs n)))

  one_more : (own xs : List Atom) (m : ℕ) → own ≡ own_of terms g → is_atom g ≡ true → is_among own xs ≡ false → count_different xs ≡ m → count_different (xs ++ own) ≡ suc m
  one_more own xs m e h none c = subst (λ (ys : List Atom). count_different (xs ++ ys) ≡ suc m) (sym e) (by_gate g h (subst (λ (ys : List Atom). is_among ys xs ≡ false) e none))
    where
      by_gate : (g : Gate) → is_atom g ≡ true → is_among (own_of terms g) xs ≡ false → count_different (xs ++ own_of terms g) ≡ suc m
      by_gate (gate.Truth b) h none = absurd (cc)
      by_gate (gate.Flag i) h none = count_pushed (Flag i) xs none ∙ ap suc c
      by_gate (gate.Compare relation first after constant) h none = count_pushed _ xs none ∙ ap suc c
      by_gate (gate.Not a) h none = absurd (cc)
      by_gate (gate.And a b) h none = absurd (cc)
      by_gate (gate.Or a b) h none = absurd (cc)
      by_gate (gate.Xor a b) h none = absurd (cc)
      by_gate (gate.If a b d) h none = absurd (cc)

  pub new_different : (after : List ℕ) → after ≡ ks ++ n ∷ [] → is_atom g ≡ true → is_among (own_atoms (formula_at fs n)) (found_atoms fs ks) ≡ false
      → count_different (found_atoms fs ks) ≡ length ks → count_different (found_atoms fs after) ≡ suc (length ks)
  new_different after e h none c =
      ap (λ js. count_different (found_atoms fs js)) e ∙ ap count_different (found_pushed fs ks n)
      ∙ one_more (own_atoms (formula_at fs n)) (found_atoms fs ks) (length ks) (ap own_atoms is ∙ sym (own_gate terms fs g)) h none c

  pub new_noted : (after : List ℕ) → after ≡ ks ++ n ∷ [] → HaveSame (found_atoms fs after) (found_atoms fs ks ++ own_atoms (formula_at fs n))
  new_noted after e p = ap (λ js. list_any p (found_atoms fs js)) e ∙ ap (list_any p) (found_pushed fs ks n)

-- what atoms of numbers pass a test
pub found_any : (p : Atom → Bool) (fs : List Formula) (ns : List ℕ) → list_any p (found_atoms fs ns) ≡ list_any (λ n. list_any p (own_atoms (formula_at fs n))) ns
found_any p fs [] = refl
found_any p fs (n ∷ ns) = list_any-append p (own_atoms (formula_at fs n)) (found_atoms fs ns) ∙ ap (λ b. list_any p (own_atoms (formula_at fs n)) || b) (found_any p fs ns)

-- Numbers up to a place.

pub noted_step : (fs : List Formula) (ns : List ℕ) (i d : ℕ) (old new : List Atom) → i < length ns → HaveSame old (found_atoms fs (take i ns))
    → HaveSame new (old ++ own_atoms (formula_at fs (get_or ns i d))) → HaveSame new (found_atoms fs (take (i + 1) ns))
noted_step fs ns i d old new l s e p =
    e p ∙ list_any-append p old (own_atoms (formula_at fs (get_or ns i d))) ∙ ap (λ b. b || list_any p (own_atoms (formula_at fs (get_or ns i d)))) (s p)
    ∙ sym (list_any-append p (found_atoms fs (take i ns)) (own_atoms (formula_at fs (get_or ns i d))))
    ∙ ap (list_any p) (sym (ap (found_atoms fs) (take_more ns i d l) ∙ found_pushed fs (take i ns) (get_or ns i d)))

pub noted_whole : (fs : List Formula) (ns : List ℕ) (n : ℕ) (found : List Atom) → length ns ≤ n → HaveSame found (found_atoms fs (take n ns)) → count_different found ≡ count_different (found_atoms fs ns)
noted_whole fs ns n found l s = count_same found (found_atoms fs (take n ns)) s ∙ ap (λ (ks : List ℕ). count_different (found_atoms fs ks)) (take_all n ns l)

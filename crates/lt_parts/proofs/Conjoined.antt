-- Conjuncts of formulas that are joined by `and`, with truths absorbed.
use Rattle.std.proofs.Common.{◌≡◌, Bool, true, false, List, [], ◌∷◌, ◌++◌, Option, None, Some, fold, refl, ap, sym, ◌∙◌, append_assoc}
use Rattle.lt_space.specs.Absorbed.{absorbed, and_of, and_right, conjuncts}
use Rattle.lt_space.specs.Formula.{Formula, atom, choice, conjunction, disjunction, exclusive, negation, truth}
use Rattle.lt_space.specs.Meaning.{joined}

-- the truth that a formula is
abbrev pub truth_in : Formula → Option Bool
truth_in (truth b) = Some b
truth_in f = None

-- the truth that conjuncts are
abbrev pub side : List Formula → Option Bool
side [] = None
side (f ∷ []) = truth_in f
side (f ∷ g ∷ fs) = None

-- the conjuncts of two formulas that are joined, by the truths that they are
abbrev pub both_by : Option Bool → Option Bool → List Formula → List Formula → List Formula
both_by (Some true) s xs ys = ys
both_by (Some false) s xs ys = truth false ∷ []
both_by None (Some true) xs ys = xs
both_by None (Some false) xs ys = truth false ∷ []
both_by None None xs ys = xs ++ ys

abbrev pub both : List Formula → List Formula → List Formula
both xs ys = both_by (side xs) (side ys) xs ys

both_is : (xs ys : List Formula) (s r : Option Bool) → side xs ≡ s → side ys ≡ r → both xs ys ≡ both_by s r xs ys
both_is xs ys s r e d = λ i. both_by (e i) (d i) xs ys

some_of : (f : Formula) (b : Bool) → truth_in f ≡ Some b → f ≡ truth b
some_of (truth c) b h = let e : c ≡ b = cc in ap truth e
some_of (atom a) b h = absurd (cc)
some_of (negation f) b h = absurd (cc)
some_of (conjunction f g) b h = absurd (cc)
some_of (disjunction f g) b h = absurd (cc)
some_of (exclusive f g) b h = absurd (cc)
some_of (choice f g k) b h = absurd (cc)

side_is : (xs : List Formula) (b : Bool) → side xs ≡ Some b → xs ≡ truth b ∷ []
side_is [] b h = absurd (cc)
side_is (f ∷ []) b h = ap (λ x. x ∷ []) (some_of f b h)
side_is (f ∷ g ∷ fs) b h = absurd (cc)

side_append : (xs ys : List Formula) → side xs ≡ None → side ys ≡ None → side (xs ++ ys) ≡ None
side_append [] ys h k = k
side_append (x ∷ []) [] h k = h
side_append (x ∷ []) (y ∷ ys) h k = refl
side_append (x ∷ z ∷ xs) ys h k = refl

-- joined with what is true
pub both_true : (xs : List Formula) → both xs (truth true ∷ []) ≡ xs
both_true xs = by (side xs) refl
  where
    by : (s : Option Bool) → side xs ≡ s → both xs (truth true ∷ []) ≡ xs
    by (Some true) e = both_is xs (truth true ∷ []) (Some true) (Some true) e refl ∙ sym (side_is xs true e)
    by (Some false) e = both_is xs (truth true ∷ []) (Some false) (Some true) e refl ∙ sym (side_is xs false e)
    by None e = both_is xs (truth true ∷ []) None (Some true) e refl

pub both_assoc : (xs ys zs : List Formula) → both (both xs ys) zs ≡ both xs (both ys zs)
both_assoc xs ys zs = by (side xs) (side ys) (side zs) refl refl refl
  where
    with_left : (s r : Option Bool) → side xs ≡ s → side ys ≡ r → both (both xs ys) zs ≡ both (both_by s r xs ys) zs
    with_left s r a b = ap (λ l. both l zs) (both_is xs ys s r a b)

    with_right : (r q : Option Bool) → side ys ≡ r → side zs ≡ q → both xs (both ys zs) ≡ both xs (both_by r q ys zs)
    with_right r q b c = ap (both xs) (both_is ys zs r q b c)

    by : (s r q : Option Bool) → side xs ≡ s → side ys ≡ r → side zs ≡ q → both (both xs ys) zs ≡ both xs (both ys zs)
    by (Some true) r q a b c = with_left (Some true) r a b ∙ sym (both_is xs (both ys zs) (Some true) (side (both ys zs)) a refl)
    by (Some false) r q a b c = with_left (Some false) r a b ∙ sym (both_is xs (both ys zs) (Some false) (side (both ys zs)) a refl)
    by None (Some true) q a b c = with_left None (Some true) a b ∙ sym (with_right (Some true) q b c)
    by None (Some false) q a b c = with_left None (Some false) a b ∙ sym (with_right (Some false) q b c ∙ both_is xs (truth false ∷ []) None (Some false) a refl)
    by None None (Some true) a b c =
        with_left None None a b ∙ both_is (xs ++ ys) zs None (Some true) (side_append xs ys a b) c ∙ sym (with_right None (Some true) b c ∙ both_is xs ys None None a b)
    by None None (Some false) a b c =
        with_left None None a b ∙ both_is (xs ++ ys) zs None (Some false) (side_append xs ys a b) c
        ∙ sym (with_right None (Some false) b c ∙ both_is xs (truth false ∷ []) None (Some false) a refl)
    by None None None a b c =
        with_left None None a b ∙ both_is (xs ++ ys) zs None None (side_append xs ys a b) c ∙ append_assoc xs ys zs
        ∙ sym (with_right None None b c ∙ both_is xs (ys ++ zs) None None a (side_append ys zs b c))

-- a formula has a conjunct
some_conjunct : (f : Formula) → (x : Formula) × (xs : List Formula) × (conjuncts f ≡ x ∷ xs)
some_conjunct (truth b) = (truth b, [], refl)
some_conjunct (atom a) = (atom a, [], refl)
some_conjunct (negation f) = (negation f, [], refl)
some_conjunct (conjunction f g) = let one = some_conjunct f in (one.0, one.1 ++ conjuncts g, ap (λ xs. xs ++ conjuncts g) one.2)
some_conjunct (disjunction f g) = (disjunction f g, [], refl)
some_conjunct (exclusive f g) = (exclusive f g, [], refl)
some_conjunct (choice f g h) = (choice f g h, [], refl)

two_sides : (x y : Formula) (xs ys zs ws : List Formula) → zs ≡ x ∷ xs → ws ≡ y ∷ ys → side (zs ++ ws) ≡ None
two_sides x y [] ys zs ws e d = λ i. side (e i ++ d i)
two_sides x y (z ∷ xs) ys zs ws e d = ap (λ l. side (l ++ ws)) e

side_of : (f : Formula) → side (conjuncts f) ≡ truth_in f
side_of (truth b) = refl
side_of (atom a) = refl
side_of (negation f) = refl
side_of (conjunction f g) = let a = some_conjunct f in let b = some_conjunct g in two_sides a.0 b.0 a.1 b.1 (conjuncts f) (conjuncts g) a.2 b.2
side_of (disjunction f g) = refl
side_of (exclusive f g) = refl
side_of (choice f g h) = refl

-- the conjuncts of an `and`, where its left part is no truth, ..
right_conjuncts : (f g : Formula) → truth_in f ≡ None → conjuncts (and_right f g) ≡ both_by None (truth_in g) (conjuncts f) (conjuncts g)
right_conjuncts f (truth true) h = refl
right_conjuncts f (truth false) h = refl
right_conjuncts f (atom a) h = refl
right_conjuncts f (negation g) h = refl
right_conjuncts f (conjunction g k) h = refl
right_conjuncts f (disjunction g k) h = refl
right_conjuncts f (exclusive g k) h = refl
right_conjuncts f (choice g k l) h = refl

-- .. and where it may be one
by_truths : (f g : Formula) → conjuncts (and_of f g) ≡ both_by (truth_in f) (truth_in g) (conjuncts f) (conjuncts g)
by_truths (truth true) g = refl
by_truths (truth false) g = refl
by_truths (atom a) g = right_conjuncts (atom a) g refl
by_truths (negation f) g = right_conjuncts (negation f) g refl
by_truths (conjunction f k) g = right_conjuncts (conjunction f k) g refl
by_truths (disjunction f k) g = right_conjuncts (disjunction f k) g refl
by_truths (exclusive f k) g = right_conjuncts (exclusive f k) g refl
by_truths (choice f k l) g = right_conjuncts (choice f k l) g refl

pub and_conjuncts : (f g : Formula) → conjuncts (and_of f g) ≡ both (conjuncts f) (conjuncts g)
and_conjuncts f g = by_truths f g ∙ sym (both_is (conjuncts f) (conjuncts g) (truth_in f) (truth_in g) (side_of f) (side_of g))

-- the conjuncts of formulas that are joined
abbrev pub flat : List Formula → List Formula
flat [] = truth true ∷ []
flat (f ∷ fs) = both (conjuncts (absorbed f)) (flat fs)

pub flat_append : (fs gs : List Formula) → flat (fs ++ gs) ≡ both (flat fs) (flat gs)
flat_append [] gs = refl
flat_append (f ∷ fs) gs = ap (both (conjuncts (absorbed f))) (flat_append fs gs) ∙ sym (both_assoc (conjuncts (absorbed f)) (flat fs) (flat gs))

folded : (fs : List Formula) (f : Formula) → conjuncts (absorbed (fold conjunction f fs)) ≡ both (conjuncts (absorbed f)) (flat fs)
folded [] f = sym (both_true (conjuncts (absorbed f)))
folded (g ∷ gs) f =
    folded gs (conjunction f g)
    ∙ ap (λ l. both l (flat gs)) (and_conjuncts (absorbed f) (absorbed g))
    ∙ both_assoc (conjuncts (absorbed f)) (conjuncts (absorbed g)) (flat gs)

pub joined_flat : (fs : List Formula) → conjuncts (absorbed (joined fs)) ≡ flat fs
joined_flat [] = refl
joined_flat (f ∷ fs) = folded fs f

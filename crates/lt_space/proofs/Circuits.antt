-- The formulas of a circuit, and their numbers.
use Rattle.std.proofs.Common.{◌≡◌, ℕ, zero, suc, ◌+◌, ◌-◌, ◌<◌, ◌≤◌, Bool, true, false, ◌&&◌, nat_le, nat_lt, IsTrue, List, [], ◌∷◌, ◌++◌, length, ℤ, get_or, take, drop, refl, ap, sym, ◌∙◌, arith, length-append, length-drop, subst, unsigned_abs}
use Rattle.std.specs.Prelude.{slice_range}
use Rattle.std.proofs.lemmas.List.{get_or_append_left, take_all, take-append-le, drop-append-le}
use Rattle.std.proofs.lemmas.Bool.{leb-true, ltb-true}
use Rattle.std.proofs.lemmas.Bool.Decides.{nat_tests}
use Rattle.std.proofs.Math.Seq.{drop-append_seam, get_or-append_seam}
use Rattle.lt_linear.specs.Form.{Term}
use Rattle.lt_space.specs.Circuit.{are_sound, are_terms, formula_at, is_exact_form, gate_fits, gate_formula, is_term, most_constant, with_gates}
use Rattle.lt_space.specs.Size.{is_small_form, most_terms}
use Rattle.lt_space.specs.declared.formula.Relation.{Relation}
use Rattle.lt_linear.specs.declared.form.Form.{Form}
use Rattle.lt_space.specs.Formula.{Formula, atom, choice, conjunction, disjunction, exclusive, negation, truth}
use Rattle.lt_space.specs.declared.circuit.Gate.{Gate}
use Rattle.lt_space.specs.declared.circuit.Gate.TheVariants as gate
use Rattle.lt_space.specs.declared.formula.Atom.TheVariants.{Compare}

pub both : (a b : Bool) → IsTrue a → IsTrue b → IsTrue (a && b)
both true b h k = k
both false b h k = h

pub left_of : (a b : Bool) → IsTrue (a && b) → IsTrue a
left_of true b h = refl
left_of false b h = h

pub right_of : (a b : Bool) → IsTrue (a && b) → IsTrue b
right_of true b h = h
right_of false b h = absurd (cc)

pub le_true : (a b : ℕ) → a ≤ b → IsTrue (nat_le a b)
le_true a b h = grind (arith, nat_tests)

-- a gate's formula depends on its parts alone
pub gate-same : (ts : List Term) (fs gs : List Formula) (n before : ℕ) (g : Gate) → ((k : ℕ) → k < before → formula_at fs k ≡ formula_at gs k) → IsTrue (gate_fits n before g) → gate_formula ts fs g ≡ gate_formula ts gs g
gate-same ts fs gs n before (gate.Truth b) same h = refl
gate-same ts fs gs n before (gate.Flag i) same h = refl
gate-same ts fs gs n before (gate.Compare r i j c) same h = refl
gate-same ts fs gs n before (gate.Not a) same h = ap negation (same a (ltb-true _ _ h))
gate-same ts fs gs n before (gate.And a b) same h = λ i. conjunction (same a (ltb-true _ _ (left_of _ _ h)) i) (same b (ltb-true _ _ (right_of (nat_lt a before) _ h)) i)
gate-same ts fs gs n before (gate.Or a b) same h = λ i. disjunction (same a (ltb-true _ _ (left_of _ _ h)) i) (same b (ltb-true _ _ (right_of (nat_lt a before) _ h)) i)
gate-same ts fs gs n before (gate.Xor a b) same h = λ i. exclusive (same a (ltb-true _ _ (left_of _ _ h)) i) (same b (ltb-true _ _ (right_of (nat_lt a before) _ h)) i)
gate-same ts fs gs n before (gate.If a b c) same h =
    let rest = right_of (nat_lt a before) _ h in
    λ i. choice (same a (ltb-true _ _ (left_of _ _ h)) i) (same b (ltb-true _ _ (left_of _ _ rest)) i) (same c (ltb-true _ _ (right_of (nat_lt b before) _ rest)) i)

-- one more gate
pub gates-append : (ts : List Term) (fs : List Formula) (gs : List Gate) (g : Gate) → with_gates ts fs (gs ++ g ∷ []) ≡ with_gates ts fs gs ++ gate_formula ts (with_gates ts fs gs) g ∷ []
gates-append ts fs [] g = refl
gates-append ts fs (h ∷ gs) g = gates-append ts (fs ++ gate_formula ts fs h ∷ []) gs g

pub sound-append : (n before : ℕ) (gs : List Gate) (g : Gate) (all : ℕ) → length gs + before ≡ all → IsTrue (are_sound n before gs) → IsTrue (gate_fits n all g) → IsTrue (are_sound n before (gs ++ g ∷ []))
sound-append n before [] g all e h f = let is : all ≡ before = omega arith in both _ true (rw (← is) f) refl
sound-append n before (m ∷ gs) g all e h f = both _ _ (left_of _ _ h) (sound-append n (before + 1) gs g all (omega arith) (right_of (gate_fits n before m) _ h) f)

length_gates : (ts : List Term) (fs : List Formula) (gs : List Gate) → length (with_gates ts fs gs) ≡ length fs + length gs
length_gates ts fs [] = omega arith
length_gates ts fs (g ∷ gs) = length_gates ts (fs ++ gate_formula ts fs g ∷ []) gs ∙ simp length-append (omega arith)

-- as many formulas as gates
pub length-formulas : (ts : List Term) (gs : List Gate) → length (with_gates ts [] gs) ≡ length gs
length-formulas ts gs = length_gates ts [] gs ∙ omega arith

-- a formula that is there stays
gates-keep : (ts : List Term) (fs : List Formula) (gs : List Gate) (k : ℕ) → k < length fs → formula_at (with_gates ts fs gs) k ≡ formula_at fs k
gates-keep ts fs [] k h = refl
gates-keep ts fs (g ∷ gs) k h =
    gates-keep ts (fs ++ gate_formula ts fs g ∷ []) gs k (simp length-append (omega arith))
    ∙ get_or_append_left fs (gate_formula ts fs g ∷ []) (truth true) k h

length_more : (fs : List Formula) (f : Formula) → length (fs ++ f ∷ []) ≡ length fs + 1
length_more fs f = simp length-append (omega arith)

-- the first of some more gates
seam : (ts : List Term) (n : ℕ) (fs : List Formula) (gs : List Gate) (m : Gate) → IsTrue (gate_fits n (length fs) m)
    → formula_at (with_gates ts fs (m ∷ gs)) (length fs) ≡ gate_formula ts (with_gates ts fs (m ∷ gs)) m
seam ts n fs gs m h =
    gates-keep ts (fs ++ gate_formula ts fs m ∷ []) gs (length fs) (simp length-append (omega arith))
    ∙ get_or-append_seam fs (gate_formula ts fs m) [] (truth true)
    ∙ sym (gate-same ts (with_gates ts fs (m ∷ gs)) fs n (length fs) m (gates-keep ts fs (m ∷ gs)) h)

-- each number has its gate's formula, whose parts have smaller numbers
abbrev pub IsGate : List Term → ℕ → List Formula → ℕ → Gate → Type 0
IsGate ts n fs c g = (formula_at fs c ≡ gate_formula ts fs g) × IsTrue (gate_fits n c g)

gates-read : (ts : List Term) (n : ℕ) (fs : List Formula) (gs : List Gate) (d : Gate) (j c : ℕ) → length fs + j ≡ c → IsTrue (are_sound n (length fs) gs) → j < length gs → IsGate ts n (with_gates ts fs gs) c (get_or gs j d)
gates-read ts n fs [] d j c at h l = absurd (omega arith)
gates-read ts n fs (m ∷ gs) d zero c at h l =
    let here : length fs ≡ c = omega arith in
    subst (λ k. IsGate ts n (with_gates ts fs (m ∷ gs)) k m) here (seam ts n fs gs m (left_of _ _ h), left_of _ _ h)
gates-read ts n fs (m ∷ gs) d (suc j) c at h l =
    let more : length fs + 1 ≡ length (fs ++ gate_formula ts fs m ∷ []) = sym (length_more fs _) in
    gates-read ts n (fs ++ gate_formula ts fs m ∷ []) gs d j c (omega (arith, more, at))
    (subst (λ k. IsTrue (are_sound n k gs)) more (right_of (gate_fits n (length fs) m) _ h)) (omega arith)

-- the gate of a number
pub gate_read : (ts : List Term) (n : ℕ) (gs : List Gate) (d : Gate) (c : ℕ) → IsTrue (are_sound n 0 gs) → c < length gs → IsGate ts n (with_gates ts [] gs) c (get_or gs c d)
gate_read ts n gs d c h l = gates-read ts n [] gs d c c (omega arith) h l

-- a range of terms is the same with others behind them
pub range-append : (ts us : List Term) (i j : ℕ) → i ≤ j → j ≤ length ts → slice_range (ts ++ us) i j ≡ slice_range ts i j
range-append ts us i j h k =
    ap (take (j - i)) (drop-append-le i ts us (omega arith))
    ∙ take-append-le (j - i) (drop i ts) us (simp length-drop (omega arith))

-- the terms that were put behind others
pub range-last : (ts us : List Term) (i j : ℕ) → i ≡ length ts → j ≡ length ts + length us → slice_range (ts ++ us) i j ≡ us
range-last ts us i j h k =
    (λ n. take (k n - h n) (drop (h n) (ts ++ us)))
    ∙ ap (take (length ts + length us - length ts)) (drop-append_seam ts us)
    ∙ (let all : length ts + length us - length ts ≡ length us = omega arith in ap (λ n. take n us) all)
    ∙ take_all (length us) us (omega arith)

-- a gate's formula doesn't change with terms behind those that are there
gate-terms : (ts us : List Term) (fs : List Formula) (before : ℕ) (g : Gate) → IsTrue (gate_fits (length ts) before g) → gate_formula (ts ++ us) fs g ≡ gate_formula ts fs g
gate-terms ts us fs before (gate.Truth b) h = refl
gate-terms ts us fs before (gate.Flag i) h = refl
gate-terms ts us fs before (gate.Compare r i j c) h =
    let least = leb-true _ _ (left_of _ _ h) in
    let most = leb-true _ _ (left_of _ _ (right_of (nat_le i j) _ h)) in
    ap (λ terms. atom (Compare (record { terms = terms; constant = c }) r)) (range-append ts us i j least most)
gate-terms ts us fs before (gate.Not a) h = refl
gate-terms ts us fs before (gate.And a b) h = refl
gate-terms ts us fs before (gate.Or a b) h = refl
gate-terms ts us fs before (gate.Xor a b) h = refl
gate-terms ts us fs before (gate.If a b c) h = refl

-- nor do those of a circuit
pub gates-terms : (ts us : List Term) (fs : List Formula) (before : ℕ) (gs : List Gate) → IsTrue (are_sound (length ts) before gs) → with_gates (ts ++ us) fs gs ≡ with_gates ts fs gs
gates-terms ts us fs before [] h = refl
gates-terms ts us fs before (g ∷ gs) h =
    ap (λ f. with_gates (ts ++ us) (fs ++ f ∷ []) gs) (gate-terms ts us fs before g (left_of _ _ h))
    ∙ gates-terms ts us (fs ++ gate_formula ts fs g ∷ []) (before + 1) gs (right_of (gate_fits (length ts) before g) _ h)

-- what fits over some terms does so over more
fits-more : (n m before : ℕ) (g : Gate) → n ≤ m → IsTrue (gate_fits n before g) → IsTrue (gate_fits m before g)
fits-more n m before (gate.Truth b) l h = h
fits-more n m before (gate.Flag i) l h = h
fits-more n m before (gate.Compare r i j c) l h =
    let few = nat_le j (i + most_terms) && nat_le (unsigned_abs c) most_constant in
    let rest = right_of (nat_le i j) (nat_le j n && few) h in
    let within : j ≤ m = omega (arith, leb-true j n (left_of (nat_le j n) few rest)) in
    both (nat_le i j) (nat_le j m && few) (left_of (nat_le i j) (nat_le j n && few) h) (both (nat_le j m) few (le_true j m within) (right_of (nat_le j n) few rest))
fits-more n m before (gate.Not a) l h = h
fits-more n m before (gate.And a b) l h = h
fits-more n m before (gate.Or a b) l h = h
fits-more n m before (gate.Xor a b) l h = h
fits-more n m before (gate.If a b c) l h = h

pub sound-more : (n m before : ℕ) (gs : List Gate) → n ≤ m → IsTrue (are_sound n before gs) → IsTrue (are_sound m before gs)
sound-more n m before [] l h = refl
sound-more n m before (g ∷ gs) l h = both _ _ (fits-more n m before g l (left_of _ _ h)) (sound-more n m (before + 1) gs l (right_of (gate_fits n before g) _ h))

-- terms of comparisons, one list behind another
pub terms-append : (ts us : List Term) → IsTrue (are_terms ts) → IsTrue (are_terms us) → IsTrue (are_terms (ts ++ us))
terms-append [] us h k = k
terms-append (t ∷ ts) us h k = both _ _ (left_of _ _ h) (terms-append ts us (right_of (is_term t) _ h) k)

-- one more gate
pub one_gate : (gs : List Gate) (g : Gate) → length (gs ++ g ∷ []) ≡ length gs + 1
one_gate gs g = simp length-append (omega arith)

-- as many terms as in both lists
pub length_both : (ts us : List Term) → length (ts ++ us) ≡ length ts + length us
length_both ts us = length-append ts us

-- a comparison of a form fits over its terms
pub comparison_fits : (relation : Relation) (first len all before : ℕ) (z : ℤ) (form : Form) → IsTrue (is_exact_form form) → len ≡ length form.terms → first + len ≤ all → z ≡ form.constant
    → IsTrue (gate_fits all before (gate.Compare relation first (first + len) z))
comparison_fits relation first len all before z form h l m is =
    let small : IsTrue (is_small_form form) = left_of (is_small_form form) _ h in
    let few : len ≤ most_terms = omega (arith, l, leb-true (length form.terms) most_terms small) in
    let constant : IsTrue (nat_le (unsigned_abs z) most_constant) =
    subst (λ k. IsTrue (nat_le (unsigned_abs k) most_constant)) (sym is) (right_of (are_terms form.terms) _ (right_of (is_small_form form) _ h)) in
    both _ _ (le_true first (first + len) (omega arith)) (both _ _ (le_true (first + len) all m) (both _ _ (le_true (first + len) (first + most_terms) (omega arith)) constant))

-- and it is that form
pub comparison_formula : (relation : Relation) (ts us all : List Term) (first len : ℕ) (z : ℤ) (form : Form) → all ≡ ts ++ us → us ≡ form.terms → first ≡ length ts → len ≡ length us → z ≡ form.constant
    → atom (Compare (record { terms = slice_range all first (first + len); constant = z }) relation) ≡ atom (Compare form relation)
comparison_formula relation ts us all first len z form is terms at more constant =
    let range : slice_range all first (first + len) ≡ form.terms =
    ap (λ xs. slice_range xs first (first + len)) is ∙ range-last ts us first (first + len) at (omega arith) ∙ terms in
    λ i. atom (Compare (record { terms = range i; constant = constant i }) relation)

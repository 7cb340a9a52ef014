-- Choices of all conjuncts.
use Rattle.std.proofs.Common.{◌≡◌, ◌<◌, ◌+◌, ℕ, zero, suc, Bool, true, false, IsTrue, ◌⊎◌, inl, inr, List, [], ◌∷◌, ◌++◌, refl, ap, ◌∙◌, subst, arith}
use Rattle.std.specs.Prelude.{nat_lt}
use Rattle.lt_space.specs.Absorbed.{absorbed, and_of, and_right, conjuncts}
use Rattle.lt_linear.specs.Form.{Term}
use Rattle.lt_space.specs.Circuit.{formula_at, gate_fits, gate_formula}
use Rattle.lt_space.specs.Formula.{Formula, atom, choice, conjunction, disjunction, exclusive, negation, truth}
use Rattle.lt_space.specs.declared.circuit.Gate.{Gate}
use Rattle.lt_space.specs.declared.circuit.Gate.TheVariants as gate
use Rattle.lt_need.specs.declared.faces.Face.{Face}
use Rattle.lt_need.specs.declared.faces.Face.TheVariants.{Known, Denied, Twice}
use Rattle.lt_need.specs.Need.{choices_in, choices_of}
use Rattle.lt_need.specs.inner.Conjuncts.{choices_at}
use Rattle.lt_need.proofs.Standings.{and_left, and_right_test, less_from}
use Rattle.lt_need.specs.inner.Faces.{IsBase, IsConjunction, IsCore, StandsFor, absorbed_at, denied_more}

pub choices_append : (fs gs : List Formula) → choices_of (fs ++ gs) ≡ choices_of fs + choices_of gs
choices_append [] gs = omega arith
choices_append (f ∷ fs) gs = omega (arith, choices_append fs gs)

-- a formula that is no conjunction
pub one_conjunct : (f : Formula) → (IsConjunction f → ⊥) → choices_of (conjuncts f) ≡ choices_in f
one_conjunct (truth b) h = omega arith
one_conjunct (atom a) h = omega arith
one_conjunct (negation x) h = omega arith
one_conjunct (conjunction x y) h = absurd (h tt)
one_conjunct (disjunction x y) h = omega arith
one_conjunct (exclusive x y) h = omega arith
one_conjunct (choice x y z) h = omega arith

-- a conjunction
right_conjuncts : (f g : Formula) → IsCore (and_right f g) → choices_of (conjuncts (and_right f g)) ≡ choices_of (conjuncts f) + choices_of (conjuncts g)
right_conjuncts f (truth true) h = omega arith
right_conjuncts f (truth false) h = absurd h
right_conjuncts f (atom b) h = choices_append (conjuncts f) (conjuncts (atom b))
right_conjuncts f (negation x) h = choices_append (conjuncts f) (conjuncts (negation x))
right_conjuncts f (conjunction x y) h = choices_append (conjuncts f) (conjuncts (conjunction x y))
right_conjuncts f (disjunction x y) h = choices_append (conjuncts f) (conjuncts (disjunction x y))
right_conjuncts f (exclusive x y) h = choices_append (conjuncts f) (conjuncts (exclusive x y))
right_conjuncts f (choice x y z) h = choices_append (conjuncts f) (conjuncts (choice x y z))

pub and_conjuncts : (f g : Formula) → IsCore (and_of f g) → choices_of (conjuncts (and_of f g)) ≡ choices_of (conjuncts f) + choices_of (conjuncts g)
and_conjuncts (truth true) g h = omega arith
and_conjuncts (truth false) g h = absurd h
and_conjuncts (atom a) g h = right_conjuncts (atom a) g h
and_conjuncts (negation x) g h = right_conjuncts (negation x) g h
and_conjuncts (conjunction x y) g h = right_conjuncts (conjunction x y) g h
and_conjuncts (disjunction x y) g h = right_conjuncts (disjunction x y) g h
and_conjuncts (exclusive x y) g h = right_conjuncts (exclusive x y) g h
and_conjuncts (choice x y z) g h = right_conjuncts (choice x y z) g h

-- the parts of a gate that is a conjunction
pub left_below : (fs : List Formula) (count n a b : ℕ) → IsTrue (gate_fits count n (gate.And a b)) → a < n
left_below fs count n a b fits = less_from fs a n (and_left fs _ _ fits)

pub right_below : (fs : List Formula) (count n a b : ℕ) → IsTrue (gate_fits count n (gate.And a b)) → b < n
right_below fs count n a b fits = less_from fs b n (and_right_test fs (nat_lt a n) _ fits)

pub both_split : (fs : List Formula) (terms : List Term) (n a b : ℕ) (g : Gate) → formula_at fs n ≡ gate_formula terms fs g → g ≡ gate.And a b → IsCore (absorbed_at fs n)
    → choices_at fs n ≡ choices_at fs a + choices_at fs b
both_split fs terms n a b g is named core =
    let whole : absorbed_at fs n ≡ and_of (absorbed_at fs a) (absorbed_at fs b) = ap absorbed (is ∙ ap (gate_formula terms fs) named) in
    ap (λ x. choices_of (conjuncts x)) whole ∙ and_conjuncts (absorbed_at fs a) (absorbed_at fs b) (subst (λ (x : Formula). IsCore x) whole core)

-- a formula that a face stands for which isn't plain
pub other_conjunct : (fs : List Formula) (n : ℕ) (face : Face) (f : Formula) → StandsFor fs n face f → ((b : Bool) × (face ≡ Known b)) ⊎ (((g : ℕ) × (face ≡ Denied g)) ⊎ ((g : ℕ) × (face ≡ Twice g))) → choices_of (conjuncts f) ≡ choices_in f
other_conjunct fs n face f s (inl known) =
    let e = subst (λ (x : Face). StandsFor fs n x f) known.1 s in
    one_conjunct f (λ k. subst (λ (x : Formula). IsConjunction x) e k)
other_conjunct fs n face f s (inr (inl denied)) =
    let e = subst (λ (x : Face). StandsFor fs n x f) denied.1 s in
    one_conjunct f (λ k. subst (λ (x : Formula). IsConjunction x) e.2 k)
other_conjunct fs n face f s (inr (inr twice)) =
    let e = subst (λ (x : Face). StandsFor fs n x f) twice.1 s in
    one_conjunct f (λ k. more e.2.0 (subst (λ (x : Formula). IsConjunction x) e.2.1 k))
  where
    more : (i : ℕ) → IsConjunction (denied_more i (absorbed_at fs twice.0)) → ⊥
    more zero k = k
    more (suc i) k = k

gate_conjunction : (terms : List Term) (fs : List Formula) (g : Gate) → ((a b : ℕ) → g ≡ gate.And a b → ⊥) → IsConjunction (gate_formula terms fs g) → ⊥
gate_conjunction terms fs (gate.Truth b) h k = k
gate_conjunction terms fs (gate.Flag i) h k = k
gate_conjunction terms fs (gate.Compare relation first after constant) h k = k
gate_conjunction terms fs (gate.Not a) h k = k
gate_conjunction terms fs (gate.And a b) h k = h a b refl
gate_conjunction terms fs (gate.Or a b) h k = k
gate_conjunction terms fs (gate.Xor a b) h k = k
gate_conjunction terms fs (gate.If a b c) h k = k

pub own_conjunct : (terms : List Term) (fs : List Formula) (g : Gate) (n base : ℕ) → base ≡ n → formula_at fs n ≡ gate_formula terms fs g → ((a b : ℕ) → g ≡ gate.And a b → ⊥) → IsBase (formula_at fs base)
    → choices_of (conjuncts (absorbed_at fs n)) ≡ choices_in (absorbed_at fs n)
own_conjunct terms fs g n base same is h k =
    let own = subst (λ (i : ℕ). IsBase (formula_at fs i)) same k in
    one_conjunct (absorbed_at fs n) (λ c. gate_conjunction terms fs g h (subst (λ (x : Formula). IsConjunction x) is (own.2 c)))

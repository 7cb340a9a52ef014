-- How loaded constraints and comparisons hold.
use Rattle.std.proofs.Common.{◌≡◌, ℕ, zero, suc, ◌*◌, ◌^◌, ◌<◌, Bool, true, false, not, cond, nat_lt, int_lt, ◌&&◌, List, [], ◌∷◌, ℤ, pos, negsuc, neg_ℤ, ◌+ℤ◌, ◌*ℤ◌, fold, Result, Ok, Err, refl, ap, sym, ◌∙◌, arith}
use Rattle.std.specs.List.{list_all}
use Rattle.std.specs.Ordering.{is_eq}
use Rattle.std.specs.declared.cmp.Ordering.TheVariants.{Less, Greater}
use Rattle.std.specs.declared.cmp.Ordering.TheVariants as order
use Rattle.std.proofs.Math.Nat.{mul-pos}
use Rattle.std.proofs.lemmas.Bool.Decides.{nat_tests}
use Rattle.lt_num.proofs.Public.{ten-not_zero}
use Rattle.lt_num.specs.declared.fault.Arith.{Arith}
use Rattle.lt_formula.specs.Expression.{Expression}
use Rattle.lt_formula.specs.Kinds.{Kinds}
use Rattle.lt_formula.specs.Valuation.{Valuation}
use Rattle.lt_linear.specs.Form.{Term}
use Rattle.lt_linear.specs.FormValue.{IntsCompareExactly, RealsCompareExactly, terms_at}
use Rattle.lt_linear.specs.FormValue as linear
use Rattle.lt_linear.specs.declared.form.Form.{Form}
use Rattle.lt_parts.specs.Holding.{IntsHoldExactly, LoadedHolds, RealsHoldExactly, answer_holds, value_at}
use Rattle.lt_space.specs.Formula.{Formula, conjunction, form_at, holds, stands, sum_at}
use Rattle.lt_space.specs.Meaning.{after, formula_of, formulas_of, joined}
use Rattle.lt_space.specs.declared.formula.Relation.{Relation}
use Rattle.lt_space.specs.declared.formula.Relation.TheVariants.{Below, NotAbove, Equal}

and_unit : (a : Bool) → (a && true) ≡ a
and_unit true = refl
and_unit false = refl

and_assoc : (a b c : Bool) → ((a && b) && c) ≡ (a && (b && c))
and_assoc true b c = refl
and_assoc false b c = refl

folded : (decimals : ℕ) (values : List ℤ) (fs : List Formula) (f : Formula) → holds decimals values (fold conjunction f fs) ≡ (holds decimals values f && list_all (holds decimals values) fs)
folded decimals values [] f = sym (and_unit (holds decimals values f))
folded decimals values (g ∷ gs) f =
    folded decimals values gs (conjunction f g) ∙ and_assoc (holds decimals values f) (holds decimals values g) (list_all (holds decimals values) gs)

joined_holds : (decimals : ℕ) (values : List ℤ) (fs : List Formula) → holds decimals values (joined fs) ≡ list_all (holds decimals values) fs
joined_holds decimals values [] = refl
joined_holds decimals values (f ∷ fs) = folded decimals values fs f

after_is : {A B : Type 0} (a : Result A Arith) (f : A → Result B Arith) (y : B) → Ok y ≡ after a f → (x : A) × (Ok x ≡ a) × (Ok y ≡ f x)
after_is (Ok x) f y h = (x, refl, h)
after_is {A} {B} (Err fault) f y h = absurd (clash y fault h)
  where
    clash : (y : B) (fault : Arith) → ◌≡◌ {A = Result B Arith} (Ok y) (Err fault) → ⊥
    clash y fault h = cc

same_ok : {A : Type 0} (x y : A) → ◌≡◌ {A = Result A Arith} (Ok x) (Ok y) → x ≡ y
same_ok x y h = cc

each_holds : (v : Valuation) (kinds : Kinds) (decimals : ℕ) (values : List ℤ) (es : List Expression) (fs : List Formula) → Ok fs ≡ formulas_of v kinds es
    → list_all (holds decimals values) fs ≡ list_all (λ e. answer_holds decimals values (formula_of v kinds e)) es
each_holds v kinds decimals values [] fs is = ap (list_all (holds decimals values)) (same_ok fs [] is)
each_holds v kinds decimals values (e ∷ es) fs is =
    let first = after_is (formula_of v kinds e) (λ f. after (formulas_of v kinds es) (λ gs. Ok (f ∷ gs))) fs is in
    let more = after_is (formulas_of v kinds es) (λ gs. Ok (first.0 ∷ gs)) fs first.2 in
    ap (list_all (holds decimals values)) (same_ok fs (first.0 ∷ more.0) more.2)
    ∙ (λ i. answer_holds decimals values (first.1 i) && each_holds v kinds decimals values es more.0 more.1 i)

pub loaded_holds : LoadedHolds
loaded_holds v kinds es f decimals values is =
    let fs = after_is (formulas_of v kinds es) (λ gs. Ok (joined gs)) f is in
    ap (holds decimals values) (same_ok f (joined fs.0) fs.2) ∙ joined_holds decimals values fs.0 ∙ each_holds v kinds decimals values es fs.0 fs.1

-- Comparisons.

sum_is : (values : List ℤ) (ts : List Term) → sum_at ts values ≡ terms_at (value_at values) ts
sum_is values [] = refl
sum_is values (t ∷ ts) = ap (λ z. t.1 *ℤ value_at values t.0 +ℤ z) (sum_is values ts)

form_is : (decimals : ℕ) (values : List ℤ) (form : Form) → form_at decimals values form ≡ linear.form_at (pos (10 ^ decimals)) (value_at values) form
form_is decimals values form = ap (λ z. z +ℤ form.constant *ℤ pos (10 ^ decimals)) (sum_is values form.terms)

pub reals_hold : RealsCompareExactly → RealsHoldExactly
reals_hold exact decimals values a b relation =
    ap (stands relation) (form_is decimals values _ ∙ exact (pos (10 ^ decimals)) (value_at values) a b)

some_suc : (m : ℕ) → 0 < m → (k : ℕ) × (m ≡ suc k)
some_suc zero h = absurd (omega arith)
some_suc (suc k) h = (k, refl)

-- numbers on the same side of 0 stand to it alike
alike : (relation : Relation) (z w : ℤ) → int_lt z (pos 0) ≡ int_lt w (pos 0) → int_lt (pos 0) z ≡ int_lt (pos 0) w → stands relation z ≡ stands relation w
alike Below z w below above = below
alike NotAbove z w below above = ap not above
alike Equal z w below above = λ i. is_eq (cond (below i) Less (cond (above i) Greater order.Equal))

above_zero : (relation : Relation) (p n : ℕ) → stands relation (pos (suc p)) ≡ stands relation (pos (suc n))
above_zero relation p n = alike relation (pos (suc p)) (pos (suc n)) (least p n) (first p n)
  where
    least : (p n : ℕ) → nat_lt (suc p) 0 ≡ nat_lt (suc n) 0
    least p n = grind (arith, nat_tests)

    first : (p n : ℕ) → nat_lt 0 (suc p) ≡ nat_lt 0 (suc n)
    first p n = grind (arith, nat_tests)

below_zero : (relation : Relation) (p n : ℕ) → stands relation (negsuc p) ≡ stands relation (negsuc n)
below_zero relation p n = alike relation (negsuc p) (negsuc n) refl refl

-- a number stands to 0 as its product with a scale does
scaled : (relation : Relation) (z : ℤ) (scale : ℕ) → 0 < scale → stands relation (z *ℤ pos scale) ≡ stands relation z
scaled relation (pos zero) scale h = let none : 0 * scale ≡ 0 = omega arith in ap (λ n. stands relation (pos n)) none
scaled relation (pos (suc n)) scale h =
    let product = some_suc (suc n * scale) (mul-pos {m = suc n} {n = scale} (omega arith) h) in
    ap (λ p. stands relation (pos p)) product.1 ∙ above_zero relation product.0 n
scaled relation (negsuc n) scale h =
    let product = some_suc (suc n * scale) (mul-pos {m = suc n} {n = scale} (omega arith) h) in
    ap (λ p. stands relation (neg_ℤ (pos p))) product.1 ∙ below_zero relation product.0 n

scale_positive : (decimals : ℕ) → 0 < 10 ^ decimals
scale_positive decimals = by (10 ^ decimals) refl
  where
    by : (n : ℕ) → 10 ^ decimals ≡ n → 0 < n
    by zero e = absurd (ten-not_zero decimals (ap pos e))
    by (suc n) e = omega arith

pub ints_hold : IntsCompareExactly → IntsHoldExactly
ints_hold exact decimals values a b relation =
    ap (stands relation) (form_is decimals values _ ∙ exact (pos (10 ^ decimals)) (value_at values) a b)
    ∙ scaled relation _ (10 ^ decimals) (scale_positive decimals)

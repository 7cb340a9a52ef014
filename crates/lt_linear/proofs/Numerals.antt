-- Digits, and numbers that are cut at a bound.
use Rattle.std.proofs.Common.{◌≡◌, ◌≢◌, ◌⊎◌, inl, inr, ℕ, zero, suc, ◌+◌, ◌-◌, ◌*◌, ◌<◌, ◌≤◌, ◌&&◌, Bool, true, false, IsTrue, List, [], ◌∷◌, length, get_or, drop, map, ℤ, pos, negsuc, refl, ap, sym, ◌∙◌, arith, add-one, drop-cons}
use Rattle.std.specs.Char.{digit_value, is_ascii_digit}
use Rattle.std.specs.List.{list_all}
use Rattle.std.specs.Ordering.{int_eq}
use Rattle.std.specs.Prelude.{neg_ℤ, nat_le, unsigned_abs}
use Rattle.std.specs.Str.Parse.{digits_value_after}
use Rattle.std.proofs.lemmas.Bool.{cases_lt, leb-true}
use Rattle.std.proofs.lemmas.Bool.Decides.{nat_tests, Decides-int_eq}
use Rattle.std.proofs.lemmas.Int.{ints}
use Rattle.lt_num.specs.Bounds.{most_raw}
use Rattle.lt_num.specs.Rounding.{with_sign}
use Rattle.lt_linear.specs.Form.{Term, all_pass, is_bounded, is_raw}
use Rattle.lt_linear.specs.FormText.{are_digits}
use Rattle.lt_linear.specs.declared.form.Form.{Form}
use Rattle.lt_linear.specs.inner.Parsing.{capped, capped_form, capped_term, cut, least_past}
use Rattle.lt_linear.proofs.Ordered.{left_of, right_of}

-- digits are digits, one by one
pub digits_all : (ds : List ℕ) → IsTrue (are_digits ds) → IsTrue (list_all is_ascii_digit ds)
digits_all [] h = absurd (cc)
digits_all (d ∷ ds) h = h

digit_within : (d : ℕ) → IsTrue (is_ascii_digit d) → (48 ≤ d) × (d ≤ 57) × (digit_value d ≡ d - 48)
digit_within d h = (grind (arith, nat_tests), grind (arith, nat_tests), grind (arith, nat_tests))

all_within : (ds : List ℕ) (i : ℕ) → IsTrue (list_all is_ascii_digit ds) → i < length ds → (48 ≤ get_or ds i 0) × (get_or ds i 0 ≤ 57) × (digit_value (get_or ds i 0) ≡ get_or ds i 0 - 48)
all_within [] i h l = absurd (omega arith)
all_within (d ∷ ds) zero h l = digit_within d (left_of (is_ascii_digit d) _ h)
all_within (d ∷ ds) (suc i) h l = all_within ds i (right_of (is_ascii_digit d) _ h) (omega arith)

pub is_digit_at : (ds : List ℕ) (i : ℕ) → IsTrue (are_digits ds) → i < length ds → (48 ≤ get_or ds i 0) × (get_or ds i 0 ≤ 57) × (digit_value (get_or ds i 0) ≡ get_or ds i 0 - 48)
is_digit_at ds i h l = all_within ds i (digits_all ds h) l

-- digits that follow those of a number write no less
value_from : (v : ℕ) (ds : List ℕ) → v ≤ digits_value_after 10 v ds
value_from v [] = omega arith
value_from v (d ∷ ds) = let e = value_from (v * 10 + digit_value d) ds in omega arith

past_is : (n : ℕ) → least_past ≤ n → cut n ≡ least_past
past_is n h = omega (arith, h)

within_is : (n : ℕ) → n < least_past → cut n ≡ n
within_is n h = omega (arith, h)

-- and may be cut before
cut_after : (v : ℕ) (ds : List ℕ) → (v < least_past) ⊎ (least_past ≤ v) → cut (digits_value_after 10 (cut v) ds) ≡ cut (digits_value_after 10 v ds)
cut_after v ds (inl h) = ap (λ w. cut (digits_value_after 10 w ds)) (within_is v h)
cut_after v ds (inr h) =
    let a = value_from (cut v) ds in
    let b = value_from v ds in
    let e = past_is v h in
    past_is _ (omega (arith, a, e)) ∙ sym (past_is _ (omega (arith, b, h)))

-- one digit more is read
pub cut_step : (ds : List ℕ) (v i whole : ℕ) → IsTrue (are_digits ds) → i < length ds → cut (digits_value_after 10 v (drop i ds)) ≡ whole → cut (digits_value_after 10 (cut (v * 10 + (get_or ds i 0 - 48))) (drop (i + 1) ds)) ≡ whole
cut_step ds v i whole h l e =
    let d = (is_digit_at ds i h l).2 in
    let n = v * 10 + (get_or ds i 0 - 48) in
    let same : digits_value_after 10 n (drop (i + 1) ds) ≡ digits_value_after 10 v (drop i ds) =
    rw (add-one, drop-cons ds i 0 l) (ap (λ (w : ℕ). digits_value_after 10 (v * 10 + w) (drop (suc i) ds)) (sym d)) in
    cut_after n (drop (i + 1) ds) (cases_lt n least_past) ∙ ap cut same ∙ e

-- a cut number keeps its sign, and is 0, or past the bound, where the number is
pub capped_sign : (minus : Bool) (n : ℕ) → capped (with_sign minus n) ≡ with_sign minus (cut n)
capped_sign false n = refl
capped_sign true zero = refl
capped_sign true (suc n) = refl

pub isnt_zero : (z : ℤ) → z ≢ pos 0 → int_eq z (pos 0) ≡ false
isnt_zero z h = by (int_eq z (pos 0)) refl
  where
    by : (zero : Bool) → int_eq z (pos 0) ≡ zero → int_eq z (pos 0) ≡ false
    by false e = e
    by true e = absurd (h ((Decides-int_eq z (pos 0)).0 e))

some_size : (n : ℕ) → 0 < n → int_eq (pos n) (pos 0) ≡ false
some_size zero h = absurd (omega arith)
some_size (suc n) h = isnt_zero (pos (suc n)) (λ e. omega (arith, ints, e))

some_size_below : (n : ℕ) → 0 < n → int_eq (neg_ℤ (pos n)) (pos 0) ≡ false
some_size_below zero h = absurd (omega arith)
some_size_below (suc n) h = refl

size_below : (n : ℕ) → unsigned_abs (neg_ℤ (pos n)) ≡ n
size_below zero = refl
size_below (suc n) = refl

pub capped_zero : (z : ℤ) → int_eq (capped z) (pos 0) ≡ int_eq z (pos 0)
capped_zero (pos zero) = refl
capped_zero (pos (suc n)) = some_size (cut (suc n)) (omega arith) ∙ sym (some_size (suc n) (omega arith))
capped_zero (negsuc n) = some_size_below (cut (suc n)) (omega arith)

cut_is_within : (n : ℕ) → (n < least_past) ⊎ (least_past ≤ n) → nat_le (cut n) most_raw ≡ nat_le n most_raw
cut_is_within n (inl h) = ap (λ m. nat_le m most_raw) (within_is n h)
cut_is_within n (inr h) = ap (λ m. nat_le m most_raw) (past_is n h) ∙ sym (isnt_within n h)
  where
    isnt_within : (m : ℕ) → least_past ≤ m → nat_le m most_raw ≡ false
    isnt_within m l = grind (arith, nat_tests)

capped_is_raw : (z : ℤ) → is_raw (capped z) ≡ is_raw z
capped_is_raw (pos n) = cut_is_within n (cases_lt n least_past)
capped_is_raw (negsuc n) = ap (λ m. nat_le m most_raw) (size_below (cut (suc n))) ∙ cut_is_within (suc n) (cases_lt (suc n) least_past)

capped_same : (z : ℤ) → IsTrue (is_raw z) → capped z ≡ z
capped_same (pos n) h = let few = leb-true n most_raw h in ap (λ m. pos m) (within_is n (omega (arith, few)))
capped_same (negsuc n) h = let few = leb-true (suc n) most_raw h in ap (λ m. neg_ℤ (pos m)) (within_is (suc n) (omega (arith, few)))

terms_are_raw : (ts : List Term) → all_pass is_raw (map capped_term ts) ≡ all_pass is_raw ts
terms_are_raw [] = refl
terms_are_raw (t ∷ ts) = λ i. capped_is_raw t.1 i && terms_are_raw ts i

terms_same : (ts : List Term) → IsTrue (all_pass is_raw ts) → map capped_term ts ≡ ts
terms_same [] h = refl
terms_same (t ∷ ts) h = λ i. (t.0, capped_same t.1 (left_of (is_raw t.1) _ h) i) ∷ terms_same ts (right_of (is_raw t.1) _ h) i

pub form_is_bounded : (form : Form) → is_bounded (capped_form form) ≡ is_bounded form
form_is_bounded form = λ i. capped_is_raw form.constant i && terms_are_raw form.terms i

pub form_same : (form : Form) → IsTrue (is_bounded form) → capped_form form ≡ form
form_same form h = λ i. record { terms = terms_same form.terms (right_of (is_raw form.constant) _ h) i; constant = capped_same form.constant (left_of (is_raw form.constant) _ h) i }

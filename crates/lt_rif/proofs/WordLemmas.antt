-- What is found in the words of numbers.
use Rattle.std.proofs.Common.{◌≡◌, ℕ, zero, suc, ◌+◌, ◌*◌, ◌/◌, ◌%◌, ◌^◌, ◌<◌, ◌≤◌, Bool, true, false, ◌||◌, ◌&&◌, ◌==◌, IsTrue, List, [], ◌∷◌, ◌++◌, length, get_or, position, None, decimal, refl, ap, sym, ◌∙◌, arith, append-nil, length-append}
use Rattle.std.specs.Char.{digit_value, is_ascii_digit}
use Rattle.std.specs.Int.{IsInRange}
use Rattle.std.specs.List.{before_first, after_first, list_any, position_or_len}
use Rattle.std.specs.Str.{all_ascii_digits}
use Rattle.std.specs.Str.Parse.{digits_value, digits_value_after}
use Rattle.std.proofs.lemmas.Bool.{le-ltb}
use Rattle.std.proofs.lemmas.Bool.Decides.{nat_tests}
use Rattle.std.proofs.lemmas.Fmt.{digits_decimal, decimal_nonempty}
use Rattle.std.proofs.lemmas.Grind.{common_steps}
use Rattle.std.proofs.lemmas.List.{drop_all}
use Rattle.std.proofs.lemmas.List.Folds.{list_any-append}
use Rattle.std.proofs.lemmas.Nat.{div-add-mod', mod_below, mod-mul-add}
use Rattle.std.proofs.lemmas.Str.Parse.{digit_at, numerals_by_value, tells_all_ascii_digits, IsNumeralModel}
use Rattle.std.proofs.Math.Seq.{take-length}
use Rattle.std.proofs.Math.Nat.{one-le-pow, pow-suc, div-le_self}
use Rattle.lt_num.specs.Text.{last_digits, decimals_text, size_text}
use Rattle.lt_rif.specs.Number.{is_mark, is_point, number_of}
use Rattle.lt_rif.specs.Word.{is_blank}

-- ---- digits

pub own : IsNumeralModel (λ ds. all_ascii_digits ds ≡ true) (digits_value 10)
own = numerals_by_value _ tells_all_ascii_digits

-- the first of some digits
first-digit : (x : ℕ) (xs : List ℕ) → IsTrue (all_ascii_digits (x ∷ xs)) → (48 ≤ x) × (x ≤ 57)
first-digit x xs h = let r : IsInRange 48 57 x = digit_at (x ∷ xs) 0 (own.to (x ∷ xs) h) (omega arith) in (omega arith, omega arith)

rest-digits : (x : ℕ) (xs : List ℕ) → IsTrue (all_ascii_digits (x ∷ xs)) → IsTrue (all_ascii_digits xs)
rest-digits x xs h = elim (is_ascii_digit x) as (λ t. IsTrue (t && all_ascii_digits xs) → IsTrue (all_ascii_digits xs)) [ true ↦ λ g. g | false ↦ λ g. absurd (cc) ] h

digits-append : (xs ys : List ℕ) → IsTrue (all_ascii_digits xs) → IsTrue (all_ascii_digits ys) → IsTrue (all_ascii_digits (xs ++ ys))
digits-append [] ys h k = k
digits-append (x ∷ xs) ys h k = elim (is_ascii_digit x) as (λ t. IsTrue (t && all_ascii_digits xs) → IsTrue (t && all_ascii_digits (xs ++ ys))) [ true ↦ λ g. digits-append xs ys g k | false ↦ λ g. g ] h

-- what holds of no digit holds of none of them
pub no-digit : (p : ℕ → Bool) → ((c : ℕ) → 48 ≤ c → c ≤ 57 → p c ≡ false) → (ds : List ℕ) → IsTrue (all_ascii_digits ds) → list_any p ds ≡ false
no-digit p fails [] h = refl
no-digit p fails (d ∷ ds) h = let range = first-digit d ds h in rw (fails d range.0 range.1) (no-digit p fails ds (rest-digits d ds h))

pub mark-digit : (c : ℕ) → 48 ≤ c → c ≤ 57 → is_mark c ≡ false
mark-digit c low high = grind (arith, nat_tests)

pub point-digit : (c : ℕ) → 48 ≤ c → c ≤ 57 → is_point c ≡ false
point-digit c low high = grind (arith, nat_tests)

pub blank-digit : (c : ℕ) → 48 ≤ c → c ≤ 57 → is_blank c ≡ false
blank-digit c low high = grind (arith, nat_tests)

pub feed-digit : (c : ℕ) → 48 ≤ c → c ≤ 57 → c == 10 ≡ false
feed-digit c low high = grind (arith, nat_tests)

-- ---- the last digits of a number

value-append : (v : ℕ) (xs ys : List ℕ) → digits_value_after 10 (digits_value_after 10 v xs) ys ≡ digits_value_after 10 v (xs ++ ys)
value-append v [] ys = refl
value-append v (x ∷ xs) ys = value-append (v * 10 + digit_value x) xs ys

value-last : (n : ℕ) → digit_value (48 + n % 10) ≡ n % 10
value-last n = let small = mod_below n 10 (omega arith) in grind (arith, nat_tests)

digit-last : (n : ℕ) → IsTrue (all_ascii_digits ((48 + n % 10) ∷ []))
digit-last n = let e = value-last n in let small = mod_below n 10 (omega arith) in own.from ((48 + n % 10) ∷ []) (omega arith, tt)

pub digits-last_digits : (k n : ℕ) → IsTrue (all_ascii_digits (last_digits k n))
digits-last_digits zero n = refl
digits-last_digits (suc k) n = digits-append (last_digits k (n / 10)) ((48 + n % 10) ∷ []) (digits-last_digits k (n / 10)) (digit-last n)

split-last : (p n : ℕ) → 0 < p → (n % (p * 10) / 10 ≡ n / 10 % p) × (n % (p * 10) % 10 ≡ n % 10)
split-last p n some =
    let r = n % (p * 10) in
    let q = n / (p * 10) in
    let small = mod_below n (p * 10) (omega arith) in
    let whole = div-add-mod' n (p * 10) in
    let prefix : n / 10 ≡ q * p + r / 10 = omega arith in
    (sym (ap (λ (m : ℕ). m % p) prefix ∙ mod-mul-add q p (r / 10) (omega arith)), omega arith)

value-last_digits : (v k n : ℕ) → digits_value_after 10 v (last_digits k n) ≡ v * 10 ^ k + n % 10 ^ k
value-last_digits v zero n = omega arith
value-last_digits v (suc k) n =
    let p = 10 ^ k in
    let some = one-le-pow k 10 (omega arith) in
    let power = pow-suc 10 k in
    let split = split-last p n (omega arith) in
    let prefix = split.0 in
    let last = split.1 in
    let before = value-last_digits v k (n / 10) in
    let digit = value-last n in
    sym (value-append v (last_digits k (n / 10)) ((48 + n % 10) ∷ [])) ∙ rw (power) (omega arith)

pub number-last_digits : (k n : ℕ) → number_of (last_digits k n) ≡ n % 10 ^ k
number-last_digits k n = value-last_digits 0 k n ∙ omega arith

-- ---- where a byte is

-- one byte more in prefix
part-step : (p : ℕ → Bool) (x : ℕ) (ys : List ℕ) → p x ≡ false → (before_first p (x ∷ ys) ≡ x ∷ before_first p ys) × (after_first p (x ∷ ys) ≡ after_first p ys)
part-step p x ys e = grind (arith, common_steps)

split-or : (a b : Bool) → a || b ≡ false → (a ≡ false) × (b ≡ false)
split-or true b h = absurd (cc)
split-or false b h = (refl, h)

-- the first byte that passes
pub part-at : (p : ℕ → Bool) (xs : List ℕ) (c : ℕ) (ys : List ℕ) → list_any p xs ≡ false → p c ≡ true → (before_first p (xs ++ c ∷ ys) ≡ xs) × (after_first p (xs ++ c ∷ ys) ≡ ys)
part-at p [] c ys none e = (rw e refl, rw e refl)
part-at p (x ∷ xs) c ys none e =
    let h = split-or (p x) (list_any p xs) none in
    let step = part-step p x (xs ++ c ∷ ys) h.0 in
    let rest = part-at p xs c ys h.1 e in
    (step.0 ∙ ap (λ (zs : List ℕ). x ∷ zs) rest.0, step.1 ∙ rest.1)

-- none that passes
length-none : (p : ℕ → Bool) (xs : List ℕ) → list_any p xs ≡ false → position_or_len p xs ≡ length xs
length-none p [] none = refl
length-none p (x ∷ xs) none =
    let h = split-or (p x) (list_any p xs) none in
    let rest = length-none p xs h.1 in
    rw h.0 (omega arith)

pub part-none : (p : ℕ → Bool) (xs : List ℕ) → list_any p xs ≡ false → (before_first p xs ≡ xs) × (after_first p xs ≡ []) × (position p xs ≡ None)
part-none p xs none =
    let all = length-none p xs none in
    (rw all (take-length xs), drop_all _ xs (omega arith), rw (all, le-ltb (length xs) (length xs) (omega arith)) refl)

-- ---- the text of a size

-- what stands before the point and after it, and that no other byte is in it
pub record IsText (k size : ℕ) (text : List ℕ) : Type 0 where
  pub before : before_first is_point text ≡ decimal (size / 10 ^ k)
  pub after : after_first is_point text ≡ last_digits k size
  pub mark : list_any is_mark text ≡ false
  pub blank : list_any is_blank text ≡ false
  pub begins : (48 ≤ get_or text 0 0) × (get_or text 0 0 ≤ 57)
  pub some : 0 < length text

-- a byte that is neither a digit nor a point isn't in it
without : (p : ℕ → Bool) → ((c : ℕ) → 48 ≤ c → c ≤ 57 → p c ≡ false) → p 46 ≡ false → (ds : List ℕ) (k n : ℕ) → IsTrue (all_ascii_digits ds) → list_any p (ds ++ decimals_text k n) ≡ false
without p fails point ds zero n h = rw (append-nil ds) (no-digit p fails ds h)
without p fails point ds (suc k) n h =
    rw (list_any-append p ds (46 ∷ last_digits (suc k) n), no-digit p fails ds h, point) (no-digit p fails (last_digits (suc k) n) (digits-last_digits (suc k) n))

begins-prefix : (xs ys : List ℕ) → 0 < length xs → get_or (xs ++ ys) 0 0 ≡ get_or xs 0 0
begins-prefix [] ys some = absurd (omega arith)
begins-prefix (x ∷ xs) ys some = refl

begins-digit : (xs : List ℕ) → IsTrue (all_ascii_digits xs) → 0 < length xs → (48 ≤ get_or xs 0 0) × (get_or xs 0 0 ≤ 57)
begins-digit [] h some = absurd (omega arith)
begins-digit (x ∷ xs) h some = first-digit x xs h

parts : (ds : List ℕ) (k n : ℕ) → IsTrue (all_ascii_digits ds) → (before_first is_point (ds ++ decimals_text k n) ≡ ds) × (after_first is_point (ds ++ decimals_text k n) ≡ last_digits k n)
parts ds zero n h = let none = part-none is_point ds (no-digit is_point point-digit ds h) in rw (append-nil ds) (none.0, none.1)
parts ds (suc k) n h = part-at is_point ds 46 (last_digits (suc k) n) (no-digit is_point point-digit ds h) refl

pub size-is : (k size : ℕ) → size < 2 ^ 64 → IsText k size (size_text k size)
size-is k size small =
    let whole = size / 10 ^ k in
    let least = div-le_self size (10 ^ k) in
    let fits : whole < 2 ^ 64 = omega arith in
    let digits = digits_decimal own whole fits in
    let nonempty = decimal_nonempty whole fits in
    let part = parts (decimal whole) k size digits in
    let begins = begins-digit (decimal whole) digits nonempty in
    record {
      before = part.0;
      after = part.1;
      mark = without is_mark mark-digit refl (decimal whole) k size digits;
      blank = without is_blank blank-digit refl (decimal whole) k size digits;
      begins = rw (begins-prefix (decimal whole) (decimals_text k size) nonempty) begins;
      some = omega (arith, length-append (decimal whole) (decimals_text k size));
    }

-- The words of values are read as these values.
use Rattle.std.proofs.Common.{◌≡◌, ℕ, suc, ◌+◌, ◌-◌, ◌*◌, ◌/◌, ◌^◌, ◌<◌, ◌≤◌, Bool, true, false, ◌==◌, List, [], ◌∷◌, length, get_or, None, Some, Ok, decimal, ℤ, pos, negsuc, unsigned_abs, refl, ap, sym, ◌∙◌, arith, append-nil, if◌then◌else◌}
use Rattle.std.specs.List.{after_first, before_first, list_any}
use Rattle.std.specs.Option.{option_map}
use Rattle.std.specs.Str.{all_ascii_digits}
use Rattle.std.specs.Str.Parse.{starts_with_minus, without_leading_sign}
use Rattle.std.proofs.lemmas.Bool.{le-leb}
use Rattle.std.proofs.lemmas.Bool.Decides.{nat_tests}
use Rattle.std.proofs.lemmas.Fmt.{digits_decimal, digits_value-decimal, decimal_nonempty, length-decimal-le}
use Rattle.std.proofs.lemmas.Nat.{div-add-mod'}
use Rattle.std.proofs.lemmas.Str.Parse.{digits_value_short}
use Rattle.std.proofs.Math.Nat.{div-le_self, div-one}
use Rattle.lt_num.specs.Bounds.{most_raw}
use Rattle.lt_num.specs.Rounding.{with_sign}
use Rattle.lt_num.specs.Text.{last_digits, size_text, text_of}
use Rattle.lt_num.specs.Value.{raw_of, value_of}
use Rattle.lt_num.specs.declared.kind.Kind.{Kind}
use Rattle.lt_num.specs.declared.kind.Kind.TheVariants as kind
use Rattle.lt_num.specs.declared.value.Value.{Value}
use Rattle.lt_num.specs.declared.value.Value.TheVariants as value
use Rattle.lt_rif.specs.Judgement.{judged}
use Rattle.lt_rif.specs.Number.{decimal_part, int_written, is_digits, is_mark, is_point, number_of, raw_written, real_written, whole_part}
use Rattle.lt_rif.specs.ReadBack.{Holds, ValueReadsBack}
use Rattle.lt_rif.specs.Trace.{value_text}
use Rattle.lt_rif.specs.Word.{is_blank, class_of}
use Rattle.lt_rif.specs.declared.number.Scaled.{Scaled}
use Rattle.lt_rif.specs.declared.slot.Slot.{Slot}
use Rattle.lt_rif.specs.declared.word.WordClass.TheVariants as class
use Rattle.lt_rif.specs.inner.Decimal.{after_mark, rounded_quotient, IsScaled}
use Rattle.lt_rif.proofs.EnoughLemmas.{length-last_digits}
use Rattle.lt_rif.proofs.NumberLemmas.{quotient-whole}
use Rattle.lt_rif.proofs.RealLemmas.{scaled-parts, real-is}
use Rattle.lt_rif.proofs.WordLemmas.{own, digits-last_digits, number-last_digits, part-none, size-is}

-- ---- signs

plain-sign : (text : List ℕ) → (48 ≤ get_or text 0 0) × (get_or text 0 0 ≤ 57) → (starts_with_minus text ≡ false) × (without_leading_sign text ≡ text)
plain-sign text begins =
    let low = begins.0 in
    let no_minus : get_or text 0 0 == 45 ≡ false = grind (arith, nat_tests) in
    let no_plus : get_or text 0 0 == 43 ≡ false = grind (arith, nat_tests) in
    (no_minus, rw (no_minus, no_plus) refl)

-- ---- numbers

-- so many digits, and nothing else
digits-are : (least most_of : ℕ) (ds : List ℕ) → all_ascii_digits ds ≡ true → least ≤ length ds → length ds ≤ most_of → is_digits least most_of ds ≡ true
digits-are least most_of ds all few many = rw (all, le-leb least (length ds) few, le-leb (length ds) most_of many) refl

-- an int
int-back : (size : ℕ) (word : List ℕ) (negative : Bool) → size ≤ most_raw → starts_with_minus word ≡ negative → without_leading_sign word ≡ size_text 0 size → int_written word ≡ Some (with_sign negative size)
int-back size word negative small minus after =
    let one : size / 10 ^ 0 ≡ size = div-one size in
    let digits_is : without_leading_sign word ≡ decimal size = after ∙ append-nil (decimal (size / 10 ^ 0)) ∙ ap decimal one in
    let digits = digits_decimal own size (omega arith) in
    let some = decimal_nonempty size (omega arith) in
    let few = length-decimal-le 13 size (omega arith) (omega arith) (omega arith) in
    rw (digits_is, minus, digits-are 1 18 (decimal size) digits (omega arith) (omega arith), digits_value-decimal own size (omega arith)) refl

-- a real
real-back : (k size : ℕ) (word : List ℕ) (negative : Bool) → k ≤ 6 → size ≤ most_raw → starts_with_minus word ≡ negative → without_leading_sign word ≡ size_text k size → real_written k word ≡ Some (with_sign negative size)
real-back k size word negative few small minus after =
    let number = size_text k size in
    let whole = size / 10 ^ k in
    let least = div-le_self size (10 ^ k) in
    let fits : whole < 2 ^ 64 = omega arith in
    let text = size-is k size (omega arith) in
    let mark = part-none is_mark number text.mark in
    let digits = digits_decimal own whole fits in
    let some = decimal_nonempty whole fits in
    let short = length-decimal-le 13 whole (omega arith) (omega arith) fits in
    let count = length-last_digits k size in
    let after_digits = digits-last_digits k size in
    let before_is : decimal whole ≡ whole_part number = sym (ap (before_first is_point) mark.0 ∙ text.before) in
    let behind_is : last_digits k size ≡ decimal_part number = sym (ap (after_first is_point) mark.0 ∙ text.after) in
    let no_exponent : None ≡ after_mark number = sym (ap (option_map (λ _. after_first is_mark number)) mark.2) in
    let before_digits : Some (number_of (decimal whole)) ≡ (if is_digits 0 18 (decimal whole) then Some (number_of (decimal whole)) else None) = rw (digits-are 0 18 (decimal whole) digits (omega arith) (omega arith)) refl in
    let decimals_digits : Some (number_of (last_digits k size)) ≡ (if is_digits 0 18 (last_digits k size) then Some (number_of (last_digits k size)) else None) = rw (digits-are 0 18 (last_digits k size) after_digits (omega arith) (omega arith)) refl in
    let scaled : Scaled = record { size = number_of (decimal whole) * 10 ^ length (last_digits k size) + number_of (last_digits k size); right = 0; left = length (last_digits k size) + 0 } in
    let is : IsScaled number (Some scaled) =
    scaled-parts number (decimal whole) (last_digits k size) None (number_of (decimal whole)) (number_of (last_digits k size)) 0 0 before_is behind_is no_exponent before_digits decimals_digits (omega arith)
    (digits_value_short own (decimal whole) (length (decimal whole)) digits (omega arith)) (digits_value_short own (last_digits k size) (length (last_digits k size)) after_digits (omega arith)) refl in
    let value = digits_value-decimal own whole fits in
    let last = number-last_digits k size in
    let size_is : scaled.size ≡ size = rw (count, value, last) (div-add-mod' size (10 ^ k)) in
    let left_is : scaled.left ≡ 0 + k = omega arith in
    let quotient : rounded_quotient (scaled.size * 10 ^ (scaled.right + k)) (10 ^ scaled.left) ≡ size =
    ap (λ (n : ℕ). rounded_quotient (n * 10 ^ (0 + k)) (10 ^ scaled.left)) size_is
    ∙ ap (λ (n : ℕ). rounded_quotient (size * 10 ^ (0 + k)) (10 ^ n)) left_is
    ∙ quotient-whole size (0 + k) (0 + k) (omega arith)
    ∙ (let none : 0 + k - (0 + k) ≡ 0 = omega arith in rw none (omega arith)) in
    real-is k word number negative scaled (sym minus) (sym after) is ∙ ap (λ (n : ℕ). Some (with_sign negative n)) quotient

-- ---- values

-- the word of a value writes its raw number
raw-back : (decimals : ℕ) (k : Kind) (v : Value) → decimals ≤ 6 → value_of k (raw_of v) ≡ v → unsigned_abs (raw_of v) ≤ most_raw → raw_written decimals k (value_text decimals k v) ≡ Some (raw_of v)
unfolding raw_written
raw-back decimals kind.Bool (value.Bool true) few is small = refl
raw-back decimals kind.Bool (value.Bool false) few is small = refl
raw-back decimals kind.Bool (value.Num raw) few is small = absurd (cc)
raw-back decimals kind.Int (value.Bool b) few is small = absurd (cc)
raw-back decimals kind.Int (value.Num (pos n)) few is small =
    let sign = plain-sign (size_text 0 n) (size-is 0 n (omega arith)).begins in
    int-back n (size_text 0 n) false small sign.0 sign.1
raw-back decimals kind.Int (value.Num (negsuc n)) few is small = int-back (suc n) (45 ∷ size_text 0 (suc n)) true small refl refl
raw-back decimals kind.Real (value.Bool b) few is small = absurd (cc)
raw-back decimals kind.Real (value.Num (pos n)) few is small =
    let sign = plain-sign (size_text decimals n) (size-is decimals n (omega arith)).begins in
    real-back decimals n (size_text decimals n) false few small sign.0 sign.1
raw-back decimals kind.Real (value.Num (negsuc n)) few is small = real-back decimals (suc n) (45 ∷ size_text decimals (suc n)) true few small refl refl

pub judged-back : (decimals : ℕ) (slot : Slot) (v : Value) → decimals ≤ 6 → Holds slot v → judged decimals slot (value_text decimals slot.kind v) ≡ Ok v
unfolding judged
judged-back decimals slot v few holds =
    rw (raw-back decimals slot.kind v few holds.kind holds.bound, le-leb (unsigned_abs (raw_of v)) most_raw holds.bound, holds.range) (ap (λ (w : Value). Ok w) holds.kind)

-- ---- words

-- a word that begins with a digit, or with a minus and a digit, is a value's
class-digit : (text : List ℕ) → 0 < length text → (48 ≤ get_or text 0 0) × (get_or text 0 0 ≤ 57) → class_of text ≡ class.Value
unfolding class_of
class-digit [] some begins = absurd (omega arith)
class-digit (x ∷ xs) some begins =
    let low = begins.0 in
    let first : x == 35 ≡ false = grind (arith, nat_tests) in
    let second : 45 == x ≡ false = grind (arith, nat_tests) in
    let third : 35 == x ≡ false = grind (arith, nat_tests) in
    rw (first, second, third) refl

class-minus : (text : List ℕ) → 0 < length text → (48 ≤ get_or text 0 0) × (get_or text 0 0 ≤ 57) → class_of (45 ∷ text) ≡ class.Value
unfolding class_of
class-minus [] some begins = absurd (omega arith)
class-minus (x ∷ xs) some begins =
    let low = begins.0 in
    let second : 45 == x ≡ false = grind (arith, nat_tests) in
    rw second refl

pub record IsWord (text : List ℕ) : Type 0 where
  pub blank : list_any is_blank text ≡ false
  pub class : class_of text ≡ class.Value

number-word : (k : ℕ) (raw : ℤ) → unsigned_abs raw ≤ most_raw → IsWord (text_of k raw)
number-word k (pos n) small = let text = size-is k n (omega arith) in record { blank = text.blank; class = class-digit (size_text k n) text.some text.begins }
number-word k (negsuc n) small = let text = size-is k (suc n) (omega arith) in record { blank = text.blank; class = class-minus (size_text k (suc n)) text.some text.begins }

pub value-word : (decimals : ℕ) (k : Kind) (v : Value) → unsigned_abs (raw_of v) ≤ most_raw → IsWord (value_text decimals k v)
unfolding class_of
value-word decimals k (value.Bool true) small = record { blank = refl; class = refl }
value-word decimals k (value.Bool false) small = record { blank = refl; class = refl }
value-word decimals k (value.Num raw) small = number-word _ raw small

-- ---- values read back

pub value_reads_back : ValueReadsBack
value_reads_back decimals slot v few holds = (judged-back decimals slot v few holds, (value-word decimals slot.kind v holds.bound).blank)

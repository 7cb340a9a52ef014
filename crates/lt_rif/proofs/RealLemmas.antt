-- Reals, by the parts of their words.
use Rattle.std.proofs.Common.{◌≡◌, ℕ, zero, suc, ◌+◌, ◌*◌, ◌^◌, ◌<◌, ◌≤◌, nat_le, Bool, true, false, ◌||◌, ◌&&◌, List, [], length, position, is_none, ℤ, pos, neg_ℤ, unsigned_abs, None, Some, Err, Option, refl, ap, sym, subst, ◌∙◌, arith, if◌then◌else◌}
use Rattle.std.specs.Option.{option_map}
use Rattle.std.specs.Str.{all_ascii_digits}
use Rattle.std.specs.Str.Parse.{starts_with_minus, without_leading_sign}
use Rattle.std.proofs.lemmas.Bool.{le-leb, lt-leb, leb-true}
use Rattle.std.proofs.lemmas.List.{drop_all}
use Rattle.std.proofs.lemmas.Nat.{pow-add}
use Rattle.std.proofs.Math.Nat.{div-eq_of_lt, mul-le-mul_right}
use Rattle.lt_num.specs.Bounds.{most_raw}
use Rattle.lt_num.specs.Rounding.{with_sign, nearest}
use Rattle.lt_rif.specs.Judgement.{bounded_raw}
use Rattle.lt_rif.specs.Number.{is_digits, is_exponent, is_mark, number_of, whole_part, decimal_part, exponent_part, places_right, places_left, real_numerator, real_written}
use Rattle.lt_rif.specs.declared.fault.ValueFault.TheVariants as fault
use Rattle.lt_rif.specs.declared.number.Scaled.{Scaled}
use Rattle.lt_rif.specs.inner.Decimal.{after_mark, digits_written, rounded_quotient, IsMove, IsScaled}
use Rattle.lt_rif.proofs.NumberLemmas.{position-none, ten-positive, ten-rising}

-- ---- digits

-- what digits write
some-if : (b : Bool) (n m : ℕ) → Some m ≡ (if b then Some n else None) → (b ≡ true) × (m ≡ n)
some-if true n m e = (refl, cc)
some-if false n m e = absurd (cc)

digits-some : (least most_of : ℕ) (text : List ℕ) (n : ℕ) → Some n ≡ digits_written least most_of text → (is_digits least most_of text ≡ true) × (n ≡ number_of text)
digits-some least most_of text n e = some-if (is_digits least most_of text) (number_of text) n e

both-true : (a b : Bool) → a && b ≡ true → (a ≡ true) × (b ≡ true)
both-true true b h = (refl, h)
both-true false b h = absurd (cc)

-- no more of them than may be
digits-few : (least most_of : ℕ) (text : List ℕ) → is_digits least most_of text ≡ true → length text ≤ most_of
digits-few least most_of text h = leb-true _ _ (both-true (all_ascii_digits text && nat_le least (length text)) (nat_le (length text) most_of) h).1

-- ---- exponents

pub record Moves (number : List ℕ) (right left : ℕ) : Type 0 where
  pub is_written : is_exponent number ≡ true
  pub right_is : right ≡ places_right number
  pub left_is : left ≡ places_left number
  pub right_few : right ≤ 999
  pub left_few : left ≤ 999

moves-none : (number : List ℕ) (right left : ℕ) → None ≡ position is_mark number → right ≡ 0 → left ≡ 0 → Moves number right left
moves-none number right left e first second =
    let none : exponent_part number ≡ [] = drop_all _ number (let h = position-none is_mark number e in omega arith) in
    record {
      is_written = ap (λ (p : Option ℕ). is_none p || is_digits 1 3 (without_leading_sign (exponent_part number))) (sym e);
      right_is = first ∙ sym (ap (λ (bs : List ℕ). if starts_with_minus bs then 0 else number_of (without_leading_sign bs)) none);
      left_is = second ∙ sym (ap (λ (bs : List ℕ). if starts_with_minus bs then number_of (without_leading_sign bs) else 0) none);
      right_few = omega arith;
      left_few = omega arith;
    }

-- the parts of a pair, if there is one
abbrev first_of : Option (ℕ × ℕ) → ℕ
first_of None = 0
first_of (Some p) = p.0

abbrev second_of : Option (ℕ × ℕ) → ℕ
second_of None = 0
second_of (Some p) = p.1

pub moves-of : (number : List ℕ) (p : Option ℕ) (right left : ℕ) → p ≡ position is_mark number → IsMove (option_map (λ _. exponent_part number) p) (Some (right, left)) → Moves number right left
moves-of number None right left e h = moves-none number right left e (ap first_of h) (ap second_of h)
moves-of number (Some i) right left e h = record {
  is_written = ap (λ (p : Option ℕ). is_none p || is_digits 1 3 (without_leading_sign (exponent_part number))) (sym e) ∙ h.0;
  right_is = h.1;
  left_is = h.2;
  right_few = h.3;
  left_few = h.4;
}

pub moves-after : (number : List ℕ) (exponent : Option (List ℕ)) (right left : ℕ) → exponent ≡ after_mark number → IsMove exponent (Some (right, left)) → Moves number right left
moves-after number exponent right left e h = moves-of number (position is_mark number) right left refl (subst (λ (x : Option (List ℕ)). IsMove x (Some (right, left))) e h)

-- ---- the parts

pub scaled-parts : (number whole decimals : List ℕ) (exponent : Option (List ℕ)) (before after right left : ℕ)
    → whole ≡ whole_part number → decimals ≡ decimal_part number → exponent ≡ after_mark number
    → Some before ≡ digits_written 0 18 whole → Some after ≡ digits_written 0 18 decimals → 1 ≤ length whole + length decimals
    → before < 10 ^ length whole → after < 10 ^ length decimals
    → IsMove exponent (Some (right, left))
    → IsScaled number (Some (record { size = before * 10 ^ length decimals + after; right = right; left = length decimals + left }))
scaled-parts number whole decimals exponent before after right left w d e b h some small tiny moves =
    let first = digits-some 0 18 whole before b in
    let second = digits-some 0 18 decimals after h in
    let move = moves-after number exponent right left e moves in
    let few = digits-few 0 18 whole first.0 in
    let less = digits-few 0 18 decimals second.0 in
    let whole_most = ten-rising (length whole) 18 few in
    let decimals_most = ten-rising (length decimals) 18 less in
    let first_is = first.1 in
    let second_is = second.1 in
    let right_is = move.right_is in
    let left_is = move.left_is in (
      rw (← w, ← d, first.0, second.0, le-leb 1 (length whole + length decimals) some, move.is_written) refl,
      rw (← w, ← d, ← first_is, ← second_is, ← right_is) refl,
      rw (← d, ← left_is) refl,
      omega (arith, mul-le-mul_right (10 ^ length decimals) small, mul-le-mul_right (10 ^ length decimals) whole_most),
      move.right_few,
      let left_few = move.left_few in omega arith,
    )

-- ---- rounding

-- the nearest number on either side of 0
pub nearest-signed : (negative : Bool) (n d : ℕ) → 0 < d → nearest (with_sign negative n) (pos d) ≡ with_sign negative (rounded_quotient n d)
nearest-signed false n d some = refl
nearest-signed true zero d some =
    let none : rounded_quotient 0 d ≡ 0 = div-eq_of_lt (omega arith) in
    ap (λ (k : ℕ). pos k) none ∙ sym (ap (λ (k : ℕ). neg_ℤ (pos k)) none)
nearest-signed true (suc n) d some = refl

-- what a real's word writes
pub real-is : (decimals : ℕ) (word number : List ℕ) (negative : Bool) (scaled : Scaled) → negative ≡ starts_with_minus word → number ≡ without_leading_sign word → IsScaled number (Some scaled)
    → real_written decimals word ≡ Some (with_sign negative (rounded_quotient (scaled.size * 10 ^ (scaled.right + decimals)) (10 ^ scaled.left)))
real-is decimals word number negative scaled minus after is =
    let power = pow-add 10 scaled.right decimals in
    let numerator : real_numerator number * 10 ^ decimals ≡ scaled.size * 10 ^ (scaled.right + decimals) = rw (is.1, power) (omega arith) in
    let denominator = is.2 in
    rw (← after, ← minus, is.0, numerator, denominator) (ap (λ (z : ℤ). Some z) (nearest-signed negative (scaled.size * 10 ^ (scaled.right + decimals)) (10 ^ scaled.left) (ten-positive scaled.left)))

size-signed : (negative : Bool) (n : ℕ) → unsigned_abs (with_sign negative n) ≡ n
size-signed false n = refl
size-signed true zero = refl
size-signed true (suc n) = refl

-- a raw number past the bound is out of range
pub past-bound : (negative : Bool) (n : ℕ) → most_raw < n → Err fault.OutOfRange ≡ bounded_raw (Some (with_sign negative n))
past-bound negative n large = rw (size-signed negative n, lt-leb n most_raw large) refl

-- What literals are read as.
use Rattle.std.proofs.Common.{◌≡◌, ◌≢◌, ℕ, zero, ◌+◌, ◌*◌, ◌/◌, ◌^◌, ◌<◌, ◌≤◌, IsTrue, List, [], ◌∷◌, Result, Ok, Err, Bool, true, false, nat_le, ℤ, pos, neg_ℤ, ◌*ℤ◌, ◌≤ℤ◌, unsigned_abs, suc, if◌then◌else◌, refl, ap, sym, subst, ◌∙◌, arith}
use Rattle.std.proofs.lemmas.Bool.Decides.{nat_tests}
use Rattle.std.proofs.lemmas.Int.{clamps, ints}
use Rattle.std.proofs.lemmas.Nat.{div-mul-add}
use Rattle.std.specs.Str.Parse.{starts_with_minus}
use Rattle.lt_ast.specs.Syntax.{Figure}
use Rattle.lt_ast.specs.Literals.{figure_text}
use Rattle.lt_num.specs.Answer.{bounded}
use Rattle.lt_num.specs.Bounds.{most_raw}
use Rattle.lt_num.specs.Literal.{IsNumber, IsRead, is_number, literal_numerator, literal_denominator, signed_text, value_without_point, without_minus}
use Rattle.lt_num.specs.Rounding.{nearest, with_sign}
use Rattle.lt_num.specs.declared.fault.Arith.{Arith}
use Rattle.lt_num.specs.declared.fault.Arith.TheVariants.{Overflow}
use Rattle.lt_num.specs.declared.fixed.Fixed.{Fixed}
use Rattle.lt_num.proofs.Public.{rounded_is, ten-not_zero}
use Rattle.lt_types.specs.Literal.{raw_of}
use Rattle.lt_macros.specs.Literals.{capped, limited}

-- what the text of a literal is read as
read_as : (bytes : List ℕ) (f : Figure) (decimals : ℕ) (r s : Result Fixed Arith) → bytes ≡ figure_text f → r ≡ s → IsRead bytes decimals r → s ≡ bounded (raw_of decimals f)
read_as bytes f decimals r s e is h =
    let n = literal_numerator (figure_text f) *ℤ pos (10 ^ decimals) in
    let d = pos (literal_denominator (figure_text f)) in
    sym is ∙ rounded_is n d r (ten-not_zero _) (subst (λ b. IsRead b decimals r) e h)

-- a number that is there
abbrev as_read : Fixed → Result Fixed Arith
as_read x = Ok x

-- and one that is not
abbrev refused : Arith → Result Fixed Arith
refused e = Err e

within : (raw : ℤ) (b : Bool) (x : Fixed) → as_read x ≡ (if b then Ok (record { raw = raw }) else Err Overflow) → (b ≡ true) × (x.raw ≡ raw)
within raw true x e = let same : x ≡ record { raw = raw } = cc in (refl, ap (λ f. f.raw) same)
within raw false x e = absurd (cc)

past : (raw : ℤ) (b : Bool) (e : Arith) → refused e ≡ (if b then Ok (record { raw = raw }) else Err Overflow) → b ≡ false
past raw true e h = absurd (cc)
past raw false e h = refl

-- a number within the bound is read as it is
pub capped_read : (bytes : List ℕ) (f : Figure) (decimals : ℕ) (r : Result Fixed Arith) (x : Fixed) → bytes ≡ figure_text f → r ≡ Ok x → IsRead bytes decimals r → x.raw ≡ capped (raw_of decimals f)
capped_read bytes f decimals r x e is h =
    let read = within (raw_of decimals f) (nat_le (unsigned_abs (raw_of decimals f)) most_raw) x (read_as bytes f decimals r (Ok x) e is h) in
    read.1 ∙ sym (ap (λ b. if b then raw_of decimals f else pos (suc most_raw)) read.0)

-- and one past it is an overflow
pub past_read : (bytes : List ℕ) (f : Figure) (decimals : ℕ) (r : Result Fixed Arith) (a : Arith) → bytes ≡ figure_text f → r ≡ Err a → IsRead bytes decimals r → pos (suc most_raw) ≡ capped (raw_of decimals f)
past_read bytes f decimals r a e is h =
    sym (ap (λ b. if b then raw_of decimals f else pos (suc most_raw)) (past (raw_of decimals f) (nat_le (unsigned_abs (raw_of decimals f)) most_raw) a (read_as bytes f decimals r (Err a) e is h)))

-- The ends of ranges.

-- a number within the bound stays
limited_within : (raw : ℤ) → unsigned_abs raw ≤ most_raw → raw ≡ limited raw
limited_within raw h = omega (arith, ints, clamps)

limited_above : (raw : ℤ) → pos 0 ≤ℤ raw → most_raw < unsigned_abs raw → pos most_raw ≡ limited raw
limited_above raw s h = omega (arith, ints, clamps)

limited_below : (raw : ℤ) → raw ≤ℤ pos 0 → most_raw < unsigned_abs raw → neg_ℤ (pos most_raw) ≡ limited raw
limited_below raw s h = omega (arith, ints, clamps)

at_least_zero : (q : ℕ) → pos 0 ≤ℤ pos q
at_least_zero q = omega (arith, ints)

at_most_zero : (q : ℕ) → neg_ℤ (pos q) ≤ℤ pos 0
at_most_zero q = omega (arith, ints)

-- a number on one side of 0 is rounded to one on that side
rounded_above : (v p d : ℕ) → pos 0 ≤ℤ nearest (pos v *ℤ pos p) (pos d)
rounded_above v p d = at_least_zero ((2 * unsigned_abs (pos v *ℤ pos p) + d) / (2 * d))

negative : (v p : ℕ) → neg_ℤ (pos v) *ℤ pos p ≡ neg_ℤ (pos (v * p))
negative zero p = let none : 0 * p ≡ 0 = omega arith in (λ i. pos (none i)) ∙ sym (λ i. neg_ℤ (pos (none i)))
negative (suc v) p = refl

rounded_negative : (w d : ℕ) → 0 < d → nearest (neg_ℤ (pos w)) (pos d) ≤ℤ pos 0
rounded_negative zero d h =
    let none : (2 * 0 + d) / (2 * d) ≡ 0 = ap (λ m. m / (2 * d)) (omega arith) ∙ div-mul-add 0 (2 * d) d (omega (arith, h)) in
    subst (λ q. pos q ≤ℤ pos 0) (sym none) (at_most_zero 0)
rounded_negative (suc w) d h = at_most_zero ((2 * suc w + d) / (2 * d))

rounded_below : (v p d : ℕ) → 0 < d → nearest (neg_ℤ (pos v) *ℤ pos p) (pos d) ≤ℤ pos 0
rounded_below v p d h = subst (λ n. nearest n (pos d) ≤ℤ pos 0) (sym (negative v p)) (rounded_negative (v * p) d h)

limited_beyond : (b : Bool) (v p d : ℕ) → 0 < d → most_raw < unsigned_abs (nearest (with_sign b v *ℤ pos p) (pos d)) → (if b then neg_ℤ (pos most_raw) else pos most_raw) ≡ limited (nearest (with_sign b v *ℤ pos p) (pos d))
limited_beyond true v p d h far = limited_below _ (rounded_below v p d h) far
limited_beyond false v p d h far = limited_above _ (rounded_above v p d) far

-- a number begins with a digit, and so with no minus
digit_first : (b : ℕ) (bs : List ℕ) → IsTrue (is_number (b ∷ bs)) → starts_with_minus (b ∷ bs) ≡ false
digit_first b bs h = grind (arith, nat_tests)

sign_is : (minus : Bool) (text : List ℕ) → IsTrue (is_number text) → starts_with_minus (signed_text minus text) ≡ minus
sign_is true text h = refl
sign_is false [] h = refl
sign_is false (b ∷ bs) h = digit_first b bs h

some : (n : ℕ) → pos n ≢ pos 0 → 0 < n
some zero p = absurd (p refl)
some (suc n) p = omega arith

beyond : (raw : ℤ) → nat_le (unsigned_abs raw) most_raw ≡ false → most_raw < unsigned_abs raw
beyond raw h = grind (arith, nat_tests)

not_beyond : (raw : ℤ) → nat_le (unsigned_abs raw) most_raw ≡ true → unsigned_abs raw ≤ most_raw
not_beyond raw h = grind (arith, nat_tests)

pub limited_read : (bytes : List ℕ) (f : Figure) (decimals : ℕ) (r : Result Fixed Arith) (x : Fixed) → bytes ≡ figure_text f → r ≡ Ok x → IsRead bytes decimals r → x.raw ≡ limited (raw_of decimals f)
limited_read bytes f decimals r x e is h =
    let read = within (raw_of decimals f) (nat_le (unsigned_abs (raw_of decimals f)) most_raw) x (read_as bytes f decimals r (Ok x) e is h) in
    read.1 ∙ limited_within (raw_of decimals f) (not_beyond (raw_of decimals f) read.0)

pub limited_past : (bytes : List ℕ) (f : Figure) (decimals : ℕ) (r : Result Fixed Arith) (a : Arith) → bytes ≡ figure_text f → r ≡ Err a → IsRead bytes decimals r → IsNumber f.text → (if f.minus then neg_ℤ (pos most_raw) else pos most_raw) ≡ limited (raw_of decimals f)
limited_past bytes f decimals r a e is h number =
    let far : most_raw < unsigned_abs (raw_of decimals f) = beyond (raw_of decimals f) (past (raw_of decimals f) (nat_le (unsigned_abs (raw_of decimals f)) most_raw) a (read_as bytes f decimals r (Err a) e is h)) in
    let text : List ℕ = figure_text f in
    ap (λ b. if b then neg_ℤ (pos most_raw) else pos most_raw) (sym (sign_is f.minus f.text number.form))
    ∙ limited_beyond (starts_with_minus text) (value_without_point (without_minus text)) (10 ^ decimals) (literal_denominator text) (some (literal_denominator text) (ten-not_zero _)) far

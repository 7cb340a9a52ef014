-- The digits of a number, by its form.
use Rattle.std.proofs.Common.{◌≡◌, ℕ, suc, ◌+◌, ◌≤◌, ◌<◌, ◌==◌, Bool, true, false, not, cond, ◌&&◌, ◌||◌, IsTrue, if◌then◌else◌, List, [], ◌∷◌, ◌++◌, length, take, drop, count_by, refl, ap, sym, ◌∙◌, arith, subst}
use Rattle.std.specs.Char.{is_ascii_digit}
use Rattle.std.specs.List.{list_all, position_or_len, before_first, after_first}
use Rattle.std.specs.Str.{all_ascii_digits}
use Rattle.std.proofs.lemmas.Bool.{cond-true, cond-false, eqb-true}
use Rattle.std.proofs.lemmas.List.Sums.{sum_by-cons}
use Rattle.lt_num.specs.Literal.{IsNumber, IsLiteral, is_point, is_number, continues_number, whole_digits, decimal_digits, signed_text}

-- the parts of tests
both : (a b : Bool) → a ≡ true → b ≡ true → (a && b) ≡ true
both true b h k = k
both false b h k = h

left_of : (a b : Bool) → (a && b) ≡ true → a ≡ true
left_of true b h = refl
left_of false b h = h

right_of : (a b : Bool) → (a && b) ≡ true → b ≡ true
right_of true b h = h
right_of false b h = absurd (cc)

left_or : (a b : Bool) → a ≡ true → (a || b) ≡ true
left_or true b h = refl
left_or false b h = absurd (cc)

other_or : (a b : Bool) → (a || b) ≡ true → a ≡ false → b ≡ true
other_or true b h k = absurd (cc)
other_or false b h k = h

first_or : (a b : Bool) → (a || b) ≡ true → b ≡ false → a ≡ true
first_or true b h k = refl
first_or false b h k = absurd (cc)

left_false : (a b : Bool) → a ≡ false → (a && b) ≡ false
left_false true b h = absurd (cc)
left_false false b h = refl

is_false : (b : Bool) → (b ≡ true → ⊥) → b ≡ false
is_false true h = absurd (h refl)
is_false false h = refl

-- a point is no digit, a digit no point, and no minus
digit-point : (b : ℕ) → is_point b ≡ true → is_ascii_digit b ≡ false
digit-point b h = let e : b ≡ 46 = eqb-true b 46 h in let P : ℕ → Type 0 = λ n. is_ascii_digit n ≡ false in subst P (sym e) refl

digit_no_point : (b : ℕ) → is_ascii_digit b ≡ true → is_point b ≡ false
digit_no_point b h = is_false (is_point b) (λ p. let f = digit-point b p in cc (h, f))

digit_no_minus : (b : ℕ) → is_ascii_digit b ≡ true → (b == 45) ≡ false
digit_no_minus b h = is_false (b == 45) (λ e. let minus : b ≡ 45 = eqb-true b 45 e in let P : ℕ → Type 0 = λ n. is_ascii_digit n ≡ true in let f : false ≡ true = subst P minus h in cc f)

-- digits, asked in two ways
digits_are : (bs : List ℕ) → list_all is_ascii_digit bs ≡ true → all_ascii_digits bs ≡ true
digits_are [] h = refl
digits_are (b ∷ bs) h = ap (λ v. v && all_ascii_digits bs) (left_of (is_ascii_digit b) _ h) ∙ digits_are bs (right_of (is_ascii_digit b) _ h)

all_digits : (bs : List ℕ) → all_ascii_digits bs ≡ true → list_all is_ascii_digit bs ≡ true
all_digits [] h = refl
all_digits (b ∷ bs) h = ap (λ v. v && list_all is_ascii_digit bs) (left_of (is_ascii_digit b) _ h) ∙ all_digits bs (right_of (is_ascii_digit b) _ h)

-- one for a digit
abbrev one : ℕ → ℕ
one b = cond (is_ascii_digit b) 1 0

count_by-digits : (bs : List ℕ) → list_all is_ascii_digit bs ≡ true → count_by is_ascii_digit bs ≡ length bs
count_by-digits [] h = refl
count_by-digits (b ∷ bs) h =
    let here : one b ≡ 1 = cond-true (is_ascii_digit b) 1 0 (left_of (is_ascii_digit b) (list_all is_ascii_digit bs) h) in
    let rest : count_by is_ascii_digit bs ≡ length bs = count_by-digits bs (right_of (is_ascii_digit b) _ h) in
    omega (arith, sum_by-cons one b bs)

-- ---- from the form to the parts

-- the parts before and after the point
pub record HasParts (bs : List ℕ) : Type 0 where
  pub whole : all_ascii_digits (before_first is_point bs) ≡ true
  pub decimals : all_ascii_digits (after_first is_point bs) ≡ true
  pub digits : length (before_first is_point bs) + length (after_first is_point bs) ≡ count_by is_ascii_digit bs

-- where the point is
place_here : (b : ℕ) (bs : List ℕ) → is_point b ≡ true → position_or_len is_point (b ∷ bs) ≡ 0
place_here b bs h = cond-false (not (is_point b)) (1 + position_or_len is_point bs) 0 (ap not h)

place_later : (b : ℕ) (bs : List ℕ) → is_point b ≡ false → position_or_len is_point (b ∷ bs) ≡ suc (position_or_len is_point bs)
place_later b bs h =
    let one_more : 1 + position_or_len is_point bs ≡ suc (position_or_len is_point bs) = omega arith in
    cond-true (not (is_point b)) (1 + position_or_len is_point bs) 0 (ap not h) ∙ one_more

-- the point is the first byte
parts_here : (b : ℕ) (bs : List ℕ) → is_point b ≡ true → list_all is_ascii_digit bs ≡ true → HasParts (b ∷ bs)
parts_here b bs p h =
    let e = place_here b bs p in
    let none : one b ≡ 0 = ap (λ v. cond v 1 0) (digit-point b p) in
    record {
      whole = ap (λ n. all_ascii_digits (take n (b ∷ bs))) e;
      decimals = ap (λ n. all_ascii_digits (drop (n + 1) (b ∷ bs))) e ∙ digits_are bs h;
      digits =
          let sizes : length (before_first is_point (b ∷ bs)) + length (after_first is_point (b ∷ bs)) ≡ 0 + length bs = ap (λ n. length (take n (b ∷ bs)) + length (drop (n + 1) (b ∷ bs))) e in
          omega (arith, sizes, none, sum_by-cons one b bs, count_by-digits bs h);
    }

-- or it is none of the first byte
parts_later : (b : ℕ) (bs : List ℕ) → is_point b ≡ false → is_ascii_digit b ≡ true → HasParts bs → HasParts (b ∷ bs)
parts_later b bs p d r =
    let e = place_later b bs p in
    let m = position_or_len is_point bs in
    let step : suc m + 1 ≡ suc (m + 1) = omega arith in
    let some : one b ≡ 1 = ap (λ v. cond v 1 0) d in
    record {
      whole = ap (λ n. all_ascii_digits (take n (b ∷ bs))) e ∙ ap (λ v. v && all_ascii_digits (take m bs)) d ∙ r.whole;
      decimals = ap (λ n. all_ascii_digits (drop (n + 1) (b ∷ bs))) e ∙ ap (λ n. all_ascii_digits (drop n (b ∷ bs))) step ∙ r.decimals;
      digits =
          let sizes : length (before_first is_point (b ∷ bs)) + length (after_first is_point (b ∷ bs)) ≡ suc (length (take m bs)) + length (drop (m + 1) bs)
          = ap (λ n. length (take n (b ∷ bs)) + length (drop (n + 1) (b ∷ bs))) e ∙ ap (λ n. suc (length (take m bs)) + length (drop n (b ∷ bs))) step in
          omega (arith, sizes, some, r.digits, sum_by-cons one b bs);
    }

parts_by : (v : Bool) (b : ℕ) (bs : List ℕ) → is_point b ≡ v → continues_number (b ∷ bs) ≡ true → (continues_number bs ≡ true → HasParts bs) → HasParts (b ∷ bs)
parts_by true b bs p h rest =
    parts_here b bs p (right_of (is_point b) _ (other_or (is_ascii_digit b && continues_number bs) _ h (left_false (is_ascii_digit b) _ (digit-point b p))))
parts_by false b bs p h rest =
    let both = first_or (is_ascii_digit b && continues_number bs) (is_point b && list_all is_ascii_digit bs) h (left_false (is_point b) _ p) in
    parts_later b bs p (left_of (is_ascii_digit b) _ both) (rest (right_of (is_ascii_digit b) _ both))

parts_of : (bs : List ℕ) → continues_number bs ≡ true → HasParts bs
parts_of [] h = record { whole = refl; decimals = refl; digits = refl }
parts_of (b ∷ bs) h = parts_by (is_point b) b bs refl h (parts_of bs)

-- of a number
pub form_parts : (text : List ℕ) → IsTrue (is_number text) → HasParts text
form_parts [] h = absurd (cc h)
form_parts (b ∷ bs) h = parts_of (b ∷ bs) (left_or (is_ascii_digit b && continues_number bs) _ h)

pub number_whole : (text : List ℕ) → IsNumber text → IsTrue (all_ascii_digits (whole_digits text))
number_whole text h = (form_parts text h.form).whole

pub number_decimals : (text : List ℕ) → IsNumber text → IsTrue (all_ascii_digits (decimal_digits text))
number_decimals text h = (form_parts text h.form).decimals

pub number_begun : (text : List ℕ) → IsNumber text → 0 < length (whole_digits text)
number_begun [] h = let e = h.form in absurd (cc e)
number_begun (b ∷ bs) h =
    let e = place_later b bs (digit_no_point b (left_of (is_ascii_digit b) _ h.form)) in
    let some : length (before_first is_point (b ∷ bs)) ≡ suc (length (take (position_or_len is_point bs) bs)) = ap (λ n. length (take n (b ∷ bs))) e in
    omega (arith, some)

pub number_short : (text : List ℕ) → IsNumber text → length (whole_digits text) + length (decimal_digits text) ≤ 18
number_short text h = let e = (form_parts text h.form).digits in let k = h.short in omega (arith, e, k)

pub ruleset number_parts = (number_begun, number_whole, number_decimals, number_short)

-- with a minus or without one it is a literal
pub number_literal : (minus : Bool) (number : List ℕ) → IsNumber number → IsLiteral (signed_text minus number)
number_literal true bytes h = h
number_literal false [] h = let e = h.form in absurd (cc e)
number_literal false (b ∷ bs) h =
    subst (λ v. IsNumber (if v then drop 1 (b ∷ bs) else b ∷ bs)) (sym (digit_no_minus b (left_of (is_ascii_digit b) _ h.form))) h

-- ---- from the parts to the form

-- digits, and what may follow them
digits_continue : (xs ys : List ℕ) → all_ascii_digits xs ≡ true → continues_number ys ≡ true → continues_number (xs ++ ys) ≡ true
digits_continue [] ys h k = k
digits_continue (x ∷ xs) ys h k =
    left_or _ _ (both (is_ascii_digit x) (continues_number (xs ++ ys)) (left_of (is_ascii_digit x) _ h) (digits_continue xs ys (right_of (is_ascii_digit x) _ h) k))

pub digits_number : (xs ys : List ℕ) → IsTrue (all_ascii_digits xs) → 0 < length xs → continues_number ys ≡ true → IsTrue (is_number (xs ++ ys))
digits_number [] ys h some k = absurd (omega arith)
digits_number (x ∷ xs) ys h some k =
    both (is_ascii_digit x) (continues_number (xs ++ ys)) (left_of (is_ascii_digit x) _ h) (digits_continue xs ys (right_of (is_ascii_digit x) _ h) k)

-- a point, and digits
pub point_continues : (ds : List ℕ) → IsTrue (all_ascii_digits ds) → continues_number (46 ∷ ds) ≡ true
point_continues ds h = all_digits ds h

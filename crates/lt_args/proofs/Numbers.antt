-- Words that are numbers.
use Rattle.std.proofs.Common.{◌≡◌, ◌≢◌, ◌&&◌, ◌<◌, ◌^◌, ℕ, Bool, true, false, not, List, [], ◌∷◌, length, get_or, leb-true, nat_le, drop, Result, Ok, Err, sym, refl, ap, subst, ◌∙◌, arith, decimal, if◌then◌else◌}
use Rattle.std.proofs.lemmas.Bool.{and_parts, ne_eqb}
use Rattle.std.proofs.lemmas.Fmt.{decimal_is_IsNumeral}
use Rattle.std.proofs.lemmas.Str.Parse.{IsNumeralModel, digit_from_value, numerals_by_value, parse_plain, tells_all_ascii_digits}
use Rattle.std.specs.Str.{all_ascii_digits}
use Rattle.std.specs.Str.Parse.{IsNumeral, ParsesUnsigned, digits_value, without_leading_plus}
use Rattle.clap.proofs.ValueTestLemmas.{Accepts-accepts, accepts-Accepts}
use Rattle.clap.specs.declared.builder.value_parser.ValueParser.TheVariants.{Unsigned}
use Rattle.lt_args.specs.Laws.{NumbersAreWithin, PrintedNumbersAreTaken}
use Rattle.lt_args.specs.Settings.{most_number}
use Rattle.lt_args.specs.Words.{is_digits, large_run, stress_of}
use Rattle.lt_args.specs.declared.usage.UsageKind.TheVariants as usage
use Rattle.lt_args.specs.declared.words.Mode.TheVariants.{Stress}

pub numbers_are_within : NumbersAreWithin
numbers_are_within least most word taken = let in_bounds = accepts-Accepts false (Unsigned least most) word taken in (in_bounds.2, in_bounds.3)

-- no plus stands before digits
no_plus : (ds : List ℕ) → IsNumeral 10 ds → without_leading_plus ds ≡ ds
no_plus [] h = refl
no_plus (d ∷ ds) h = ap (λ (b : Bool). drop (if b then 1 else 0) (d ∷ ds)) (ne_eqb d 43 (λ e. omega (arith, digit_from_value d h.1.0)))

pub printed_numbers_are_taken : PrintedNumbersAreTaken
printed_numbers_are_taken least most n some few up =
    let digits = decimal_is_IsNumeral n (omega arith) in
    let plain = no_plus (decimal n) digits.0 in
    let value : digits_value 10 (without_leading_plus (decimal n)) ≡ n = ap (digits_value 10) plain ∙ digits.1 in
    (Accepts-accepts false (Unsigned least most) (decimal n) (subst (IsNumeral 10) (sym plain) digits.0, omega arith, omega arith, omega arith), value)

-- The number of a large run.

digits : IsNumeralModel (λ ds. all_ascii_digits ds ≡ true) (digits_value 10)
digits = numerals_by_value _ tells_all_ascii_digits

-- a word of digits alone
are_digits : (word : List ℕ) → all_ascii_digits word ≡ true → 0 < length word → is_digits word ≡ true
are_digits word all some = ap (λ b. not b && all_ascii_digits word) (ne_eqb (length word) 0 (λ z. omega arith)) ∙ all

-- no plus stands before a word
pub no_plus_before : (word : List ℕ) → ((rest : List ℕ) → word ≡ 43 ∷ rest → ⊥) → get_or word 0 0 ≢ 43
no_plus_before [] none e = absurd (cc)
no_plus_before (b ∷ bs) none e = none bs (ap (λ x. x ∷ bs) e)

-- what `parse` reads of it is the number of the run
pub read_whole : {E : Type 0} (word : List ℕ) (r : Result ℕ E) (n : ℕ) → get_or word 0 0 ≢ 43 → ParsesUnsigned 64 10 word r → r ≡ Ok n → large_run word ≡ stress_of n
read_whole {E} word (Ok m) n plain is e =
    let parsed = parse_plain digits {E = E} 64 word (Ok m) is plain in
    let same : m ≡ n = cc in
    ap (λ b. if b then stress_of (digits_value 10 word) else Err usage.Number) (are_digits word parsed.0.0 parsed.0.1) ∙ ap stress_of (sym parsed.1 ∙ same)
read_whole {E} word (Err why) n plain is e = absurd (cc)

-- a number that no word of the machine holds is too great
too_great : (n : ℕ) (few : Bool) → nat_le n most_number ≡ few → (n < 2 ^ 64 → ⊥) → (if few then Ok (Stress n) else Err usage.Number) ≡ Err usage.Number
too_great n true e none = absurd (none (let few = leb-true n most_number e in omega arith))
too_great n false e none = refl

unread : (word : List ℕ) (all : Bool) → is_digits word ≡ all → ((all_ascii_digits word ≡ true) × (0 < length word) × (digits_value 10 word < 2 ^ 64) → ⊥) → (if all then stress_of (digits_value 10 word) else Err usage.Number) ≡ Err usage.Number
unread [] true e none = absurd (cc)
unread (b ∷ bs) true e none = too_great (digits_value 10 (b ∷ bs)) (nat_le (digits_value 10 (b ∷ bs)) most_number) refl (λ few. none ((and_parts _ _ e).1, omega arith, few))
unread word false e none = refl

-- where it reads none, there is none
pub read_no : {E : Type 0} (word : List ℕ) (r : Result ℕ E) (why : E) → get_or word 0 0 ≢ 43 → ParsesUnsigned 64 10 word r → r ≡ Err why → Err usage.Number ≡ large_run word
read_no {E} word (Ok m) why plain is e = absurd (cc)
read_no {E} word (Err other) why plain is e = sym (unread word (is_digits word) refl (parse_plain digits {E = E} 64 word (Err other) is plain))

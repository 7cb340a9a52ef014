-- Reals that are printed as a text.
use Rattle.std.proofs.Common.{◌≡◌, ℕ, ◌≤◌, List, Ok, Err, ℤ, unsigned_abs, subst, sym, arith, refl, ◌<◌, ◌+◌, Bool, true, false, ◌&&◌, if◌then◌else◌, nat_le, length, get_or, drop, drop-cons, add-one, take, ◌++◌, ◌∙◌}
use Rattle.std.specs.Char.{is_ascii_digit}
use Rattle.std.specs.List.{list_all}
use Rattle.std.specs.declared.result.Result.{Result}
use borrow.Author.Tests.{leb-true}
use Rattle.std.proofs.lemmas.Slice.Eq.{bytes_eq-Decides}
use Rattle.std.specs.Bool.{Decides}
use Rattle.std.specs.Str.{bytes_eq}
use Rattle.std.proofs.Math.Seq.{take-append_seam}
use Rattle.lt_num.specs.Answer.{IsRounded}
use Rattle.lt_num.specs.Bounds.{most_raw}
use Rattle.lt_num.specs.Literal.{IsLiteral, IsRead, continues_number, is_point}
use Rattle.lt_num.specs.RoundTrip.{TextReadsBack}
use Rattle.lt_num.specs.Text.{text_of}
use Rattle.lt_num.specs.declared.fault.Arith.{Arith}
use Rattle.lt_num.specs.declared.fault.Arith.TheVariants.{Overflow}
use Rattle.lt_num.specs.declared.fixed.Fixed.{Fixed}
use Rattle.lt_plants.specs.Replies.{decimals}

-- a printed real is a literal
pub printed_is_literal : TextReadsBack → (text : List ℕ) (raw : ℤ) → unsigned_abs raw ≤ most_raw → text ≡ text_of decimals raw → IsLiteral text
printed_is_literal law text raw within e = rw e ((law raw 2 within (omega arith)).0)

-- it is read as its raw number
pub printed_is_read : TextReadsBack → (text : List ℕ) (answer : Result Fixed Arith) (raw : ℤ) → IsRead text decimals answer → unsigned_abs raw ≤ most_raw → text ≡ text_of decimals raw → answer ≡ Ok (record { raw = raw })
printed_is_read law text answer raw read within e = (law raw 2 within (omega arith)).1 answer (rw e at read)

bounded_within : (raw : ℤ) (real : Fixed) (b : Bool) → b ≡ nat_le (unsigned_abs raw) most_raw → Ok real ≡ (if b then Ok (record { raw = raw }) else Err Overflow) → unsigned_abs real.raw ≤ most_raw
bounded_within raw real true same h =
    let is_it : real ≡ record { raw = raw } = cc in
    let within : unsigned_abs raw ≤ most_raw = leb-true (unsigned_abs raw) most_raw (sym same) in
    let P : Fixed → Type 0 = λ (r : Fixed). unsigned_abs r.raw ≤ most_raw in
    subst P (sym is_it) within
bounded_within raw real false same h = (cc)

-- what is read is within bounds
pub read_within : (n d : ℤ) (real : Fixed) → IsRounded n d (Ok real) → unsigned_abs real.raw ≤ most_raw
read_within n d real h = bounded_within h.raw real (nat_le (unsigned_abs h.raw) most_raw) refl h.is_bounded

-- what may follow the first digit of a number, at its first byte that is no digit
pub after_digits : (text : List ℕ) (i b : ℕ) → i < length text → b ≡ get_or text i 0 → is_ascii_digit b ≡ false → continues_number (drop i text) ≡ (is_point b && list_all is_ascii_digit (drop (i + 1) text))
after_digits text i b h e other = rw (drop-cons text i 0, ← e, other, add-one) refl

-- a text is one that was printed exactly where a test says so
pub tells_printed : (text printed into old : List ℕ) (n : ℕ) (is_same : Bool) → n ≡ length printed → into ≡ printed ++ old → is_same ≡ bytes_eq (take n into) text → Decides is_same (text ≡ printed)
tells_printed text printed into old n is_same count written same =
    let prefix : take n into ≡ printed = rw (count, written) (take-append_seam printed old) in
    let decides = bytes_eq-Decides (take n into) text in
    (λ is_true. sym (decides.0 (sym same ∙ is_true)) ∙ prefix, λ e. same ∙ decides.1 (prefix ∙ sym e))

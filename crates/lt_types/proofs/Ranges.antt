-- Ranges: what their literals are read as.
use Rattle.std.proofs.Common.{◌≡◌, ℕ, ◌^◌, List, [], ◌++◌, Option, Some, None, Result, Ok, Err, Bool, true, false, not, nat_le, ℤ, pos, ◌*ℤ◌, ◌≤ℤ◌, int_lt, unsigned_abs, if◌then◌else◌, refl, ap, sym, subst, arith}
use Rattle.std.proofs.lemmas.Int.{ints}
use Rattle.lt_ast.specs.declared.group.TypeName.{TypeName}
use Rattle.lt_ast.specs.declared.group.TypeName.TheVariants as t
use Rattle.lt_ast.specs.Syntax.{Figure, WrittenRange}
use Rattle.lt_num.specs.Answer.{bounded}
use Rattle.lt_num.specs.Bounds.{most_raw}
use Rattle.lt_num.specs.Literal.{IsRead, literal_numerator, literal_denominator}
use Rattle.lt_num.specs.declared.fault.Arith.{Arith}
use Rattle.lt_num.specs.declared.fault.Arith.TheVariants.{Overflow}
use Rattle.lt_num.specs.declared.fixed.Fixed.{Fixed}
use Rattle.lt_num.proofs.Public.{is_rounded, rounded_is, ten-not_zero}
use Rattle.lt_ast.specs.Literals.{figure_type, figure_text}
use Rattle.lt_types.specs.Literal.{raw_of}
use Rattle.lt_types.specs.Typing.{IsRange, IsGroupRange, IsStep}
use Rattle.lt_types.specs.Refusals.{unless, end_type, end_size, step_type, step_size, step_on, in_order, range_of, range_refusals}
use Rattle.lt_types.specs.declared.refusal.TypeRefusal.TheVariants.{Mismatch, RangeTooLarge}
use Rattle.lt_types.specs.Answer.{Leads, first}
use Rattle.lt_types.proofs.Agreeing.{Agrees, none, same, nil_both, nil_left, nil_right, nil_first_nonempty, first_nonempty_left, first_nonempty_right, unless_clean, unless_back}

-- a number that is there
abbrev as_read : Fixed → Result Fixed Arith
as_read x = Ok x

-- and one that is not
abbrev refused : Arith → Result Fixed Arith
refused e = Err e

bounded_ok : (raw : ℤ) (b : Bool) (low : Fixed) → as_read low ≡ (if b then Ok (record { raw = raw }) else Err Overflow) → (b ≡ true) × (low.raw ≡ raw)
bounded_ok raw true low e = let same : low ≡ record { raw = raw } = cc in (refl, ap (λ f. f.raw) same)
bounded_ok raw false low e = absurd (cc)

-- what a literal is read as
read_is : (f : Figure) (decimals : ℕ) (x : Fixed) → IsRead (figure_text f) decimals (Ok x) → (nat_le (unsigned_abs (raw_of decimals f)) most_raw ≡ true) × (x.raw ≡ raw_of decimals f)
read_is f decimals x h =
    let n = literal_numerator (figure_text f) *ℤ pos (10 ^ decimals) in
    let d = pos (literal_denominator (figure_text f)) in
    bounded_ok (raw_of decimals f) (nat_le (unsigned_abs (raw_of decimals f)) most_raw) x (rounded_is n d (Ok x) (ten-not_zero _) h)

is_read : (f : Figure) (decimals : ℕ) → nat_le (unsigned_abs (raw_of decimals f)) most_raw ≡ true → IsRead (figure_text f) decimals (Ok (record { raw = raw_of decimals f }))
is_read f decimals h =
    let n = literal_numerator (figure_text f) *ℤ pos (10 ^ decimals) in
    let d = pos (literal_denominator (figure_text f)) in
    let ok : as_read (record { raw = raw_of decimals f }) ≡ bounded (raw_of decimals f) = sym (ap (λ b. if b then as_read (record { raw = raw_of decimals f }) else Err Overflow) h) in
    is_rounded n d n d (Ok (record { raw = raw_of decimals f })) ok refl refl (ten-not_zero _)

-- where it is read as too large
bounded_err : (raw : ℤ) (b : Bool) (e : Arith) → refused e ≡ (if b then Ok (record { raw = raw }) else Err Overflow) → b ≡ false
bounded_err raw true e h = absurd (cc)
bounded_err raw false e h = refl

read_is_too_large : (f : Figure) (decimals : ℕ) (e : Arith) → IsRead (figure_text f) decimals (Err e) → nat_le (unsigned_abs (raw_of decimals f)) most_raw ≡ false
read_is_too_large f decimals e h =
    let n = literal_numerator (figure_text f) *ℤ pos (10 ^ decimals) in
    let d = pos (literal_denominator (figure_text f)) in
    bounded_err (raw_of decimals f) (nat_le (unsigned_abs (raw_of decimals f)) most_raw) e (rounded_is n d (Err e) (ten-not_zero _) h)

-- what the code is answered of the text of a literal
answered : (bytes : List ℕ) (f : Figure) (decimals : ℕ) (r s : Result Fixed Arith) → bytes ≡ figure_text f → r ≡ s → IsRead bytes decimals r → IsRead (figure_text f) decimals s
answered bytes f decimals r s e is h = subst (λ a. IsRead (figure_text f) decimals a) is (subst (λ b. IsRead b decimals r) e h)

pub end_fits : (bytes : List ℕ) (f : Figure) (decimals : ℕ) (r : Result Fixed Arith) (x : Fixed) → bytes ≡ figure_text f → r ≡ Ok x → IsRead bytes decimals r → end_size decimals f ≡ []
end_fits bytes f decimals r x e is h = unless_clean _ (read_is f decimals x (answered bytes f decimals r (Ok x) e is h)).0

pub end_raw : (bytes : List ℕ) (f : Figure) (decimals : ℕ) (r : Result Fixed Arith) (x : Fixed) → bytes ≡ figure_text f → r ≡ Ok x → IsRead bytes decimals r → x.raw ≡ raw_of decimals f
end_raw bytes f decimals r x e is h = (read_is f decimals x (answered bytes f decimals r (Ok x) e is h)).1

pub end_too_large : (bytes : List ℕ) (f : Figure) (decimals : ℕ) (r : Result Fixed Arith) (a : Arith) → bytes ≡ figure_text f → r ≡ Err a → IsRead bytes decimals r
    → Leads (RangeTooLarge f.span) (end_size decimals f)
end_too_large bytes f decimals r a e is h =
    let large = read_is_too_large f decimals a (answered bytes f decimals r (Err a) e is h) in
    subst (λ rs. Leads (RangeTooLarge f.span) rs) (sym (ap (λ b. unless b (RangeTooLarge f.span)) large)) (first (RangeTooLarge f.span) [])

-- an order that is tested
not_below : (x y : ℤ) → x ≤ℤ y → not (int_lt y x) ≡ true
not_below x y h = grind (arith, ints)

below_or_same : (x y : ℤ) → not (int_lt y x) ≡ true → x ≤ℤ y
below_or_same x y h = grind (arith, ints)

-- the step of a range
record Step (decimals : ℕ) (kind : TypeName) (f : Option Figure) : Type 0 where
  kinds : step_type kind f ≡ []
  sizes : step_size decimals f ≡ []
  leads : step_on decimals f ≡ []

step_clean : (decimals : ℕ) (kind : TypeName) (f : Option Figure) → IsStep decimals kind f → Step decimals kind f
step_clean decimals kind None h = record { kinds = refl; sizes = refl; leads = refl }
step_clean decimals kind (Some f) h =
    let number = read_is f decimals h.1 h.2 in
    record {
      kinds = (same (figure_type f) kind _).clean h.0;
      sizes = unless_clean _ number.0;
      leads = unless_clean _ (not_below (pos 1) (raw_of decimals f) (subst (λ x. pos 1 ≤ℤ x) number.1 h.3));
    }

step_back : (decimals : ℕ) (kind : TypeName) (f : Option Figure) → Step decimals kind f → IsStep decimals kind f
step_back decimals kind None h = tt
step_back decimals kind (Some f) h = (
  (same (figure_type f) kind (Mismatch f.span)).back h.kinds,
  record { raw = raw_of decimals f },
  is_read f decimals (unless_back (nat_le (unsigned_abs (raw_of decimals f)) most_raw) _ h.sizes),
  below_or_same (pos 1) (raw_of decimals f) (unless_back (not (int_lt (raw_of decimals f) (pos 1))) _ h.leads),
)

-- a range of numbers
range_clean : (decimals : ℕ) (kind : TypeName) (range : WrittenRange) → IsRange decimals kind range → range_of decimals kind range ≡ []
range_clean decimals kind range h =
    let low = read_is range.low decimals h.low h.low_read in
    let high = read_is range.high decimals h.high h.high_read in
    let ordered : raw_of decimals range.low ≤ℤ raw_of decimals range.high = subst (λ x. x ≤ℤ raw_of decimals range.high) low.1 (subst (λ y. h.low.raw ≤ℤ y) high.1 h.ordered) in
    let step = step_clean decimals kind range.step h.step in
    nil_first_nonempty (nil_both ((same (figure_type range.low) kind _).clean h.low_type) (nil_both ((same (figure_type range.high) kind _).clean h.high_type) step.kinds))
    (nil_first_nonempty (nil_both (unless_clean _ low.0) (nil_both (unless_clean _ high.0) step.sizes))
    (nil_first_nonempty (unless_clean _ (not_below (raw_of decimals range.low) (raw_of decimals range.high) ordered)) step.leads))

range_back : (decimals : ℕ) (kind : TypeName) (range : WrittenRange) → range_of decimals kind range ≡ [] → IsRange decimals kind range
range_back decimals kind range e =
    let all_types = end_type kind range.low ++ (end_type kind range.high ++ step_type kind range.step) in
    let all_sizes = end_size decimals range.low ++ (end_size decimals range.high ++ step_size decimals range.step) in
    let types : all_types ≡ [] = first_nonempty_left all_types _ e in
    let rest = first_nonempty_right all_types _ e in
    let sizes : all_sizes ≡ [] = first_nonempty_left all_sizes _ rest in
    let last = first_nonempty_right all_sizes _ rest in
    let order : in_order decimals range ≡ [] = first_nonempty_left (in_order decimals range) _ last in
    let types_on : end_type kind range.high ++ step_type kind range.step ≡ [] = nil_right (end_type kind range.low) _ types in
    let sizes_on : end_size decimals range.high ++ step_size decimals range.step ≡ [] = nil_right (end_size decimals range.low) _ sizes in
    record {
      low_type = (same (figure_type range.low) kind (Mismatch range.low.span)).back (nil_left (end_type kind range.low) _ types);
      high_type = (same (figure_type range.high) kind (Mismatch range.high.span)).back (nil_left (end_type kind range.high) _ types_on);
      low = record { raw = raw_of decimals range.low };
      high = record { raw = raw_of decimals range.high };
      low_read = is_read range.low decimals (unless_back (nat_le (unsigned_abs (raw_of decimals range.low)) most_raw) _ (nil_left (end_size decimals range.low) _ sizes));
      high_read = is_read range.high decimals (unless_back (nat_le (unsigned_abs (raw_of decimals range.high)) most_raw) _ (nil_left (end_size decimals range.high) _ sizes_on));
      ordered = below_or_same (raw_of decimals range.low) (raw_of decimals range.high) (unless_back (not (int_lt (raw_of decimals range.high) (raw_of decimals range.low))) _ order);
      step = step_back decimals kind range.step (record {
        kinds = nil_right (end_type kind range.high) _ types_on;
        sizes = nil_right (end_size decimals range.high) _ sizes_on;
        leads = first_nonempty_right (in_order decimals range) _ last;
      });
    }

range_agrees : (decimals : ℕ) (kind : TypeName) (range : WrittenRange) → Agrees (IsRange decimals kind range) (range_of decimals kind range)
range_agrees decimals kind range = record { clean = range_clean decimals kind range; back = range_back decimals kind range }

-- the range of a group
pub group_range_agrees : (decimals : ℕ) (kind : TypeName) (range : Option WrittenRange) → Agrees (IsGroupRange decimals kind range) (range_refusals decimals kind range)
group_range_agrees decimals kind None = none
group_range_agrees decimals t.Bool (Some range) = none
group_range_agrees decimals t.Int (Some range) = range_agrees 0 t.Int range
group_range_agrees decimals t.Real (Some range) = range_agrees decimals t.Real range
group_range_agrees decimals t.Trace (Some range) = none

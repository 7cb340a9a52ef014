-- The text of a legal run is told by its lines.
use Rattle.std.proofs.Common.{◌≡◌, ◌<◌, ◌≤◌, ◌⊎◌, inl, inr, ◌+◌, ◌^◌, ◌||◌, ℕ, zero, suc, Bool, true, false, IsTrue, List, [], ◌∷◌, ◌++◌, codes, decimal, drop, length, None, Some, Option, refl, ap, subst, sym, ◌∙◌, arith, append-nil}
use Rattle.std.specs.Prelude.{slice_index_or, unsigned_abs}
use Rattle.std.specs.List.{flat_map, list_any}
use Rattle.std.specs.Str.{all_ascii_digits}
use Rattle.std.proofs.lemmas.Bool.{cases_lt}
use Rattle.std.proofs.lemmas.Bool.Decides.{nat_tests}
use Rattle.std.proofs.lemmas.List.{append_cancel_right}
use Rattle.std.proofs.lemmas.List.Folds.{list_any-append}
use Rattle.std.proofs.lemmas.Str.Parse.{digit_at}
use Rattle.std.specs.Int.{IsInRange}
use Rattle.lt_num.specs.Bounds.{most_decimals, most_raw}
use Rattle.lt_num.specs.Value.{raw_of}
use Rattle.lt_num.specs.declared.fault.Arith.{Arith}
use Rattle.lt_num.specs.declared.fault.Arith.TheVariants as arith_fault
use Rattle.lt_num.specs.declared.kind.Kind.{Kind}
use Rattle.lt_num.specs.declared.kind.Kind.TheVariants as kind
use Rattle.lt_num.specs.declared.value.Value.{Value}
use Rattle.lt_num.specs.declared.value.Value.TheVariants as value
use Rattle.lt_rif.specs.ReadBack.{AreOnLines, HoldAll, ValueReadsBack}
use Rattle.lt_rif.specs.Trace.{DeclaredVariable, declared_text, end_number, end_words, kind_text, local_words, spaced, step_words, value_text, value_words}
use Rattle.lt_rif.specs.Word.{is_blank}
use Rattle.lt_rif.specs.declared.end.End.{End}
use Rattle.lt_rif.specs.declared.end.End.TheVariants as end
use Rattle.lt_rif.specs.declared.end.Who.TheVariants as who
use Rattle.lt_rif.specs.declared.fault.ValueFault.TheVariants as fault
use Rattle.lt_rif.specs.declared.slot.Slot.{Slot}
use Rattle.lt_trace.proofs.Fronts.{same_back, same_on}
use Rattle.lt_trace.proofs.Numbers.{decimal-back}
use Rattle.lt_trace.proofs.Spaces.{end-line-is, end-words-back}
use Rattle.lt_trace.proofs.Words.{either}
use Rattle.lt_trace.specs.End.{MayTell, end_line}
use Rattle.lt_trace.specs.Lines.{IsOnLine, is_feed}
use Rattle.lt_trace.specs.Shape.{HoldLocals}
use Rattle.lt_trace.specs.inner.Ends.{after_space, end_word_text}
use Rattle.lt_trace.specs.inner.Front.{is_same}
use Rattle.lt_trace_laws.proofs.Headers.{either_none, own, rest_digits}
use Rattle.lt_check_laws.specs.Traces.{AreNamesOnLines}

-- ---- texts without a line feed

pub on-append : (xs ys : List ℕ) → IsOnLine xs → IsOnLine ys → IsOnLine (xs ++ ys)
on-append xs ys h k = rw (list_any-append is_feed xs ys) (either_none _ _ h k)

no-feed : (c : ℕ) → 48 ≤ c → is_feed c ≡ false
no-feed c low = grind (arith, nat_tests)

first-digit : (x : ℕ) (xs : List ℕ) → IsTrue (all_ascii_digits (x ∷ xs)) → is_feed x ≡ false
first-digit x xs h =
    let r : IsInRange 48 57 x = digit_at (x ∷ xs) 0 (own.to (x ∷ xs) h) (omega arith) in
    let low : 48 ≤ x = omega arith in
    no-feed x low

on-digits : (ds : List ℕ) → IsTrue (all_ascii_digits ds) → IsOnLine ds
on-digits [] h = refl
on-digits (d ∷ ds) h = rw (first-digit d ds h) (on-digits ds (rest_digits d ds h))

pub on-decimal : (n : ℕ) → n < 2 ^ 128 → IsOnLine (decimal n)
on-decimal n small = on-digits (decimal n) (decimal-back n small).0

on-kind : (k : Kind) → IsOnLine (kind_text k)
on-kind kind.Bool = refl
on-kind kind.Int = refl
on-kind kind.Real = refl

pub on-declared : (ds : List DeclaredVariable) → AreOnLines ds → IsOnLine (flat_map declared_text ds)
on-declared [] are = refl
on-declared (d ∷ ds) are =
    on-append (declared_text d) (flat_map declared_text ds)
    (on-append (codes " \"" ++ d.name ++ codes "\":") (kind_text d.kind)
    (on-append (codes " \"" ++ d.name) (codes "\":") (on-append (codes " \"") d.name refl are.0) refl)
    (on-kind d.kind))
    (on-declared ds are.1)

-- a line feed is a blank
feed-blank : (b : ℕ) → is_blank b ≡ false → is_feed b ≡ false
feed-blank b h = grind (h, arith, nat_tests)

neither : (a b : Bool) → a || b ≡ false → (a ≡ false) × (b ≡ false)
neither true b h = absurd (cc)
neither false b h = (refl, h)

on-unblank : (text : List ℕ) → list_any is_blank text ≡ false → IsOnLine text
on-unblank [] h = refl
on-unblank (b ∷ text) h = let two = neither (is_blank b) (list_any is_blank text) h in rw (feed-blank b two.0) (on-unblank text two.1)

-- ---- words on a line

abbrev pub AreWordsOn : List (List ℕ) → Type 0
AreWordsOn [] = Unit {0}
AreWordsOn (w ∷ ws) = IsOnLine w × AreWordsOn ws

words-append : (xs ys : List (List ℕ)) → AreWordsOn xs → AreWordsOn ys → AreWordsOn (xs ++ ys)
words-append [] ys h k = k
words-append (x ∷ xs) ys h k = (h.0, words-append xs ys h.1 k)

on-after : (ws : List (List ℕ)) → AreWordsOn ws → IsOnLine (after_space ws)
on-after [] h = refl
on-after (w ∷ ws) h = on-append (32 ∷ w) (after_space ws) h.0 (on-after ws h.1)

on-spaced : (ws : List (List ℕ)) → AreWordsOn ws → IsOnLine (spaced ws)
on-spaced [] h = refl
on-spaced (w ∷ ws) h = on-append w (after_space ws) h.0 (on-after ws h.1)

-- ---- the words of a step

module _ (back : ValueReadsBack) (decimals : ℕ) (fine : decimals ≤ most_decimals) where
  on-value : (k : Kind) (v : Value) → unsigned_abs (raw_of v) ≤ most_raw → IsOnLine (value_text decimals k v)
  on-value k (value.Bool true) small = refl
  on-value k (value.Bool false) small = refl
  on-value kind.Real (value.Num raw) small = on-unblank (value_text decimals kind.Real (value.Num raw)) (back decimals (record { kind = kind.Real; range = None; keep = true }) (value.Num raw) fine (record { kind = refl; bound = small; range = refl })).1
  on-value kind.Int (value.Num raw) small = on-unblank (value_text decimals kind.Int (value.Num raw)) (back decimals (record { kind = kind.Int; range = None; keep = true }) (value.Num raw) fine (record { kind = refl; bound = small; range = refl })).1
  on-value kind.Bool (value.Num raw) small = on-unblank (value_text decimals kind.Int (value.Num raw)) (back decimals (record { kind = kind.Int; range = None; keep = true }) (value.Num raw) fine (record { kind = refl; bound = small; range = refl })).1

  on-values : (kinds : List Kind) (slots : List Slot) (values : List Value) → HoldAll slots values → AreWordsOn (value_words decimals kinds values)
  on-values [] slots values h = tt
  on-values (k ∷ kinds) slots [] h = tt
  on-values (k ∷ kinds) [] (v ∷ values) h = absurd h
  on-values (k ∷ kinds) (slot ∷ slots) (v ∷ values) h = let here = h.0 in (on-value k v here.bound, on-values kinds slots values h.1)

  on-locals : (kinds : List Kind) (slots : List Slot) (values : List (Option Value)) → HoldLocals slots values → AreWordsOn (local_words decimals kinds values)
  on-locals [] slots values h = tt
  on-locals (k ∷ kinds) slots [] h = tt
  on-locals (k ∷ kinds) [] (v ∷ values) h = absurd h
  on-locals (k ∷ kinds) (slot ∷ slots) (None ∷ values) h = (refl, on-locals kinds slots values h.1)
  on-locals (k ∷ kinds) (slot ∷ slots) (Some v ∷ values) h = let here = h.0 in (on-value k v here.bound, on-locals kinds slots values h.1)

  pub on-step : (kinds : List Kind) (outs ins locs : List Slot) (x y : List Value) (z : List (Option Value)) → HoldAll outs x → HoldAll ins y → HoldLocals locs z → IsOnLine (spaced (step_words decimals kinds x y (Some z)))
  on-step kinds outs ins locs x y z one two three =
      on-spaced (step_words decimals kinds x y (Some z))
      (words-append (value_words decimals kinds x) _ (on-values kinds outs x one)
      (refl, words-append (value_words decimals (drop (length x) kinds) y) _ (on-values (drop (length x) kinds) ins y two) (refl, on-locals (drop (length x + length y) kinds) locs z three)))

-- ---- the words of an end

on-name : (names : List (List ℕ)) (z : ℕ) → AreNamesOnLines names → IsOnLine (slice_index_or names z [])
on-name [] z h = refl
on-name (n ∷ names) zero h = h.0
on-name (n ∷ names) (suc z) h = on-name names z h.1

on-fault : (f : Arith) → AreWordsOn (end_words (end.Fault f) [])
on-fault arith_fault.NoPrevious = (refl, (refl, tt))
on-fault arith_fault.DivisionByZero = (refl, (refl, tt))
on-fault arith_fault.Overflow = (refl, (refl, tt))
on-fault arith_fault.NegativeWeight = (refl, (refl, tt))

on-words : (e : End) (names : List (List ℕ)) (steps : ℕ) → AreNamesOnLines names → MayTell e names steps → AreWordsOn (end_words e names)
on-words end.Normal names steps lined may = (refl, tt)
on-words end.Limit names steps lined may = (refl, tt)
on-words end.Oracle names steps lined may = (refl, tt)
on-words end.Deadlock names steps lined may = (refl, tt)
on-words (end.Raise z) names steps lined may = (refl, (on-name names z lined, tt))
on-words (end.Fault f) names steps lined may = on-fault f
on-words end.TooLarge names steps lined may = (refl, tt)
on-words (end.Malformed who.Controller fault.NotAValue place) names steps lined may = (refl, (refl, (refl, tt)))
on-words (end.Malformed who.Controller fault.OutOfRange place) names steps lined may = (refl, (refl, (refl, tt)))
on-words (end.Malformed who.Controller fault.TooLong place) names steps lined may = (refl, (refl, (refl, tt)))
on-words (end.Malformed who.Oracle fault.NotAValue place) names steps lined may = (refl, (refl, (refl, tt)))
on-words (end.Malformed who.Oracle fault.OutOfRange place) names steps lined may = (refl, (refl, (refl, tt)))
on-words (end.Malformed who.Oracle fault.TooLong place) names steps lined may = (refl, (refl, (refl, tt)))
on-words (end.Ended who.Controller taken) names steps lined may = (refl, (refl, tt))
on-words (end.Ended who.Oracle taken) names steps lined may = (refl, (refl, tt))
on-words (end.Device who.Controller) names steps lined may = (refl, (refl, tt))
on-words (end.Device who.Oracle) names steps lined may = (refl, (refl, tt))
on-words (end.Budget need) names steps lined may = (refl, (on-decimal need may, tt))

number-small : (e : End) (steps : ℕ) → steps < 2 ^ 64 → end_number e steps < 2 ^ 128
number-small end.Normal steps h = omega (arith, h)
number-small end.Limit steps h = omega (arith, h)
number-small end.Oracle steps h = omega (arith, h)
number-small end.Deadlock steps h = omega (arith, h)
number-small (end.Raise z) steps h = omega (arith, h)
number-small (end.Fault f) steps h = omega (arith, h)
number-small end.TooLarge steps h = omega (arith, h)
number-small (end.Malformed w f place) steps h = omega (arith, h)
number-small (end.Ended w taken) steps h = omega (arith, h)
number-small (end.Device w) steps h = omega (arith, h)
number-small (end.Budget need) steps h = omega (arith, h)

pub on-end : (e : End) (names : List (List ℕ)) (steps : ℕ) → steps < 2 ^ 64 → AreNamesOnLines names → MayTell e names steps → IsOnLine (end_word_text e names steps)
on-end e names steps small lined may =
    on-append (codes "#end") (after_space (end_words e names) ++ 32 ∷ decimal (end_number e steps)) refl
    (on-append (after_space (end_words e names)) (32 ∷ decimal (end_number e steps)) (on-after (end_words e names) (on-words e names steps lined may))
    (on-decimal (end_number e steps) (number-small e steps small)))

-- ---- the first exception of a name

-- the first of so many with this name
abbrev FirstName : List (List ℕ) → List ℕ → ℕ → Option ℕ → Type 0
FirstName names name count None = (x : ℕ) → x < count → slice_index_or names x [] ≡ name → ⊥
FirstName names name count (Some y) = (y < count) × (slice_index_or names y [] ≡ name) × ((x : ℕ) → x < y → slice_index_or names x [] ≡ name → ⊥)

is-name : (a b : List ℕ) → (a ≡ b) ⊎ (a ≡ b → ⊥)
is-name a b = either (is_same a b) (λ t. inl (same_back a b t)) (λ t. inr (λ h. let u = same_on a b h in absurd (cc)))

find-name : (names : List (List ℕ)) (name : List ℕ) (count : ℕ) → (o : Option ℕ) × FirstName names name count o
find-name names name zero = (None, λ x l h. absurd (omega (arith, l)))
find-name names name (suc count) = by_rest (find-name names name count)
  where
    last : FirstName names name count None → (slice_index_or names count [] ≡ name → ⊥) → (x : ℕ) → x < suc count → slice_index_or names x [] ≡ name → ⊥
    last nowhere not_so x l h = by_order (cases_lt x count)
      where
        by_order : (x < count) ⊎ (count ≤ x) → ⊥
        by_order (inl less) = nowhere x less h
        by_order (inr most) =
            let same : x ≡ count = omega (arith, l, most) in
            not_so (subst (λ (n : ℕ). slice_index_or names n [] ≡ name) same h)

    by_last : FirstName names name count None → (slice_index_or names count [] ≡ name) ⊎ (slice_index_or names count [] ≡ name → ⊥) → (o : Option ℕ) × FirstName names name (suc count) o
    by_last nowhere (inl h) = (Some count, (omega arith, h, nowhere))
    by_last nowhere (inr not_so) = (None, last nowhere not_so)

    by_rest : (o : Option ℕ) × FirstName names name count o → (o : Option ℕ) × FirstName names name (suc count) o
    by_rest (None, f) = by_last f (is-name (slice_index_or names count []) name)
    by_rest (Some y, f) = let less = f.0 in (Some y, (omega (arith, less), f.1, f.2))

-- the exception that a line tells, of all that have its name
pub record HasFirst (names : List (List ℕ)) (steps z : ℕ) : Type 0 where
  pub first : ℕ
  pub name : slice_index_or names first [] ≡ slice_index_or names z []
  pub may : MayTell (end.Raise first) names steps

name-back : (names : List (List ℕ)) (steps x y : ℕ) → end_line (end.Raise x) names steps ≡ end_line (end.Raise y) names steps → slice_index_or names x [] ≡ slice_index_or names y []
name-back names steps x y h =
    let one : end_word_text (end.Raise x) names steps ≡ end_word_text (end.Raise y) names steps =
    end-words-back (end.Raise y) names steps (end_word_text (end.Raise x) names steps) (sym (end-line-is (end.Raise x) names steps) ∙ h) in
    let two = append_cancel_right (slice_index_or names x [] ++ []) (slice_index_or names y [] ++ []) (32 ∷ decimal (steps + 1)) (ap (λ (t : List ℕ). drop 11 t) one) in
    sym (append-nil (slice_index_or names x [])) ∙ two ∙ append-nil (slice_index_or names y [])

pub has-first : (names : List (List ℕ)) (steps z : ℕ) → z < length names → HasFirst names steps z
has-first names steps z within = by_found (find-name names (slice_index_or names z []) (suc z))
  where
    by_found : (o : Option ℕ) × FirstName names (slice_index_or names z []) (suc z) o → HasFirst names steps z
    by_found (None, f) = absurd (f z (omega arith) refl)
    by_found (Some y, f) =
        let less = f.0 in
        record { first = y; name = f.1; may = (omega (arith, less, within), λ x l h. f.2 x l (name-back names steps x y h ∙ f.1)) }

-- The words of values: no blank is in them, and each is read as its value.
use Rattle.std.proofs.Common.{◌≡◌, ℕ, zero, suc, ◌+◌, ◌/◌, ◌%◌, ◌^◌, ◌<◌, ◌≤◌, Bool, true, false, ◌||◌, IsTrue, List, [], ◌∷◌, ◌++◌, length, decimal, codes, None, Option, Ok, Err, Result, ℤ, pos, negsuc, unsigned_abs, refl, ap, sym, ◌∙◌, arith, append_assoc, append-nil, if◌then◌else◌}
use Rattle.std.specs.Int.{IsInRange}
use Rattle.std.specs.List.{list_any}
use Rattle.std.specs.Str.{all_ascii_digits}
use Rattle.std.proofs.lemmas.Bool.Decides.{nat_tests}
use Rattle.std.proofs.lemmas.Fmt.{decimal_digit, digits_decimal}
use Rattle.std.proofs.lemmas.List.Folds.{list_any-append}
use Rattle.std.proofs.lemmas.Nat.{mod_below}
use Rattle.std.proofs.lemmas.Str.Parse.{digit_at}
use Rattle.std.proofs.Math.Nat.{div-le_self}
use Rattle.lt_num.specs.Bounds.{most_decimals}
use Rattle.lt_num.specs.Text.{last_digits, decimals_text, size_text, text_of}
use Rattle.lt_num.specs.declared.kind.Kind.{Kind}
use Rattle.lt_num.specs.declared.interval.Interval.{Interval}
use Rattle.lt_num.specs.declared.value.Value.{Value}
use Rattle.lt_num.specs.declared.value.Value.TheVariants as value
use Rattle.lt_rif.specs.Enough.{IsSized, RoomIsEnough}
use Rattle.std.specs.Prelude.{nat_le}
use Rattle.lt_rif.specs.Judgement.{bounded_raw, in_slot, judged}
use Rattle.lt_rif.specs.Number.{raw_written}
use Rattle.lt_rif.specs.ReadBack.{Holds, StepReadsBack, WrittenStep, text_of_step}
use Rattle.lt_rif.specs.Reply.{Begun, Reply, Stream, whole, malformed, short, longest, go_on, past, reply_in, reply_of, with_class, with_judged, with_word}
use Rattle.lt_rif.specs.Trace.{line, value_text}
use Rattle.lt_rif.specs.Word.{Words, last, word, words_of, is_blank, class_of}
use Rattle.lt_rif.specs.declared.end.End.TheVariants as end
use Rattle.lt_rif.specs.declared.fault.ValueFault.{ValueFault}
use Rattle.lt_rif.specs.declared.fault.ValueFault.TheVariants as fault
use Rattle.lt_rif.specs.declared.slot.Slot.{Slot}
use Rattle.lt_rif.specs.declared.word.WordClass.{WordClass}
use Rattle.lt_rif.specs.declared.word.WordClass.TheVariants as class
use Rattle.lt_trace_laws.proofs.Headers.{either_none, own, rest_digits}

-- ---- no blank is in a word

blank_digit : (c : ℕ) → 48 ≤ c → c ≤ 57 → is_blank c ≡ false
blank_digit c low high = grind (arith, nat_tests)

first_range : (x : ℕ) (xs : List ℕ) → IsTrue (all_ascii_digits (x ∷ xs)) → (48 ≤ x) × (x ≤ 57)
first_range x xs h = let r : IsInRange 48 57 x = digit_at (x ∷ xs) 0 (own.to (x ∷ xs) h) (omega arith) in (omega arith, omega arith)

none_blank : (ds : List ℕ) → IsTrue (all_ascii_digits ds) → list_any is_blank ds ≡ false
none_blank [] h = refl
none_blank (d ∷ ds) h = let range = first_range d ds h in rw (blank_digit d range.0 range.1) (none_blank ds (rest_digits d ds h))

none_append : (xs ys : List ℕ) → list_any is_blank xs ≡ false → list_any is_blank ys ≡ false → list_any is_blank (xs ++ ys) ≡ false
none_append xs ys h k = rw (list_any-append is_blank xs ys) (either_none _ _ h k)

none_last : (k n : ℕ) → list_any is_blank (last_digits k n) ≡ false
none_last zero n = refl
none_last (suc k) n =
    let small = mod_below n 10 (omega arith) in
    none_append (last_digits k (n / 10)) ((48 + n % 10) ∷ []) (none_last k (n / 10)) (rw (blank_digit (48 + n % 10) (omega arith) (omega arith)) refl)

none_decimals : (k n : ℕ) → list_any is_blank (decimals_text k n) ≡ false
none_decimals zero n = refl
none_decimals (suc k) n = none_last (suc k) n

none_size : (k size : ℕ) → size < 2 ^ 64 → list_any is_blank (size_text k size) ≡ false
none_size k size small =
    let least = div-le_self size (10 ^ k) in
    none_append (decimal (size / 10 ^ k)) (decimals_text k size) (none_blank (decimal (size / 10 ^ k)) (digits_decimal own (size / 10 ^ k) (omega arith))) (none_decimals k size)

none_text : (k : ℕ) (raw : ℤ) → unsigned_abs raw ≤ 2 ^ 63 → list_any is_blank (text_of k raw) ≡ false
none_text k (pos n) small = none_size k n (omega arith)
none_text k (negsuc n) small = none_size k (suc n) (omega arith)

none_value : (decimals : ℕ) (k : Kind) (v : Value) → IsSized v → list_any is_blank (value_text decimals k v) ≡ false
none_value decimals k (value.Bool true) sized = refl
none_value decimals k (value.Bool false) sized = refl
none_value decimals k (value.Num raw) sized = none_text _ raw sized

-- ---- a word in a reply

neither : (a b : Bool) → a || b ≡ false → (a ≡ false) × (b ≡ false)
neither true b h = absurd (cc)
neither false b h = (refl, h)

-- a word without blanks, up to the blank after it
words_run : (prefix text : List ℕ) (b : ℕ) (bytes : List ℕ) → list_any is_blank text ≡ false → is_blank b ≡ true → words_of prefix (text ++ b ∷ bytes) ≡ word (prefix ++ text) b bytes (words_of [] bytes)
words_run prefix [] b bytes none is = rw is (ap (λ (t : List ℕ). word t b bytes (words_of [] bytes)) (sym (append-nil prefix)))
words_run prefix (x ∷ text) b bytes none is =
    let split = neither (is_blank x) (list_any is_blank text) none in
    rw split.0 (words_run (prefix ++ x ∷ []) text b bytes split.1 is ∙ ap (λ (t : List ℕ). word t b bytes (words_of [] bytes)) (append_assoc prefix (x ∷ []) text))

-- what comes last in a reply that isn't whole doesn't make it so
cut_short : (too_long : Bool) (place n : ℕ) (vs : List Value) (s : Stream) → (if too_long then malformed fault.TooLong place else short n) ≡ whole vs s → ⊥
cut_short true place n vs s is = absurd (cc is)
cut_short false place n vs s is = absurd (cc is)

-- the reply that a word's judgement makes whole
judgement_was : (r : Begun) (text : List ℕ) (k : Kind) (range : Option Interval) (j : Result Value ValueFault) (left s : Stream) (v : Value) (go : Begun → Reply) → r.values ≡ []
    → go_on (with_judged r text (record { kind = k; range = range; keep = true }) [] j) left go ≡ whole (v ∷ []) s → j ≡ Ok v
judgement_was r text k range (Ok u) left s v go none is = cc
judgement_was r text k range (Err f) left s v go none is = absurd (cc is)

module _ (left s : Stream) (v : Value) where
  -- a reply that goes on, with nothing after it
  ends_short : (r : Begun) (text : List ℕ) → reply_in true (past r text false) (last []) ≡ whole (v ∷ []) s → ⊥
  unfolding class_of
  ends_short r text is = cut_short (nat_le longest (r.taken + length text + 1 + 0)) r.place (r.taken + length text + 1 + 0) (v ∷ []) s is

  -- the word that makes a reply whole is a value's, and was judged so
  class_was : (r : Begun) (text : List ℕ) (k : Kind) (range : Option Interval) (w : WordClass) → r.values ≡ [] → r.slots ≡ record { kind = k; range = range; keep = true } ∷ []
      → go_on (with_class r text true w) left (λ q. reply_in true q (last [])) ≡ whole (v ∷ []) s
      → (w ≡ class.Value) × (judged r.decimals (record { kind = k; range = range; keep = true }) text ≡ Ok v)
  class_was r text k range class.Passed none slots is = absurd (ends_short r text is)
  class_was r text k range class.Comment none slots is = absurd (ends_short r text is)
  class_was r text k range class.Value none slots is =
      (refl, judgement_was r text k range _ left s v _ none (ap (λ (ss : List Slot). go_on (with_word r text ss) left (λ q. reply_in true q (last []))) (sym slots) ∙ is))

  -- it isn't too long either
  room_was : (r : Begun) (text : List ℕ) (k : Kind) (range : Option Interval) (too_long : Bool) → r.values ≡ [] → r.slots ≡ record { kind = k; range = range; keep = true } ∷ []
      → (if too_long then malformed fault.TooLong r.place else go_on (with_class r text true (class_of text)) left (λ q. reply_in true q (last []))) ≡ whole (v ∷ []) s
      → (class_of text ≡ class.Value) × (judged r.decimals (record { kind = k; range = range; keep = true }) text ≡ Ok v)
  room_was r text k range true none slots is = absurd (cc is)
  room_was r text k range false none slots is = class_was r text k range (class_of text) none slots is

-- ---- what the words of values are

pub record IsWord (decimals : ℕ) (slot : Slot) (v : Value) (text : List ℕ) : Type 0 where
  pub blank : list_any is_blank text ≡ false
  pub class : class_of text ≡ class.Value
  pub judged : judged decimals slot text ≡ Ok v

slot_keeps : (slot : Slot) (r : Result ℤ ValueFault) → in_slot (record { kind = slot.kind; range = slot.range; keep = true }) r ≡ in_slot slot r
slot_keeps slot (Ok raw) = refl
slot_keeps slot (Err f) = refl

judged_keeps : (decimals : ℕ) (slot : Slot) (text : List ℕ) → judged decimals (record { kind = slot.kind; range = slot.range; keep = true }) text ≡ judged decimals slot text
unfolding judged
judged_keeps decimals slot text = slot_keeps slot (bounded_raw (raw_written decimals slot.kind text))

-- the bytes of the first step of one input, and of none else
abbrev before_word : List ℕ
before_word = codes "#step 0" ++ 10 ∷ (codes "#outs" ++ 32 ∷ [])

-- what such a step is read as, after what stands before its input
step_of_word : (decimals : ℕ) (k : Kind) (range : Option Interval) (text : List ℕ) → list_any is_blank text ≡ false
    → reply_of decimals (record { kind = k; range = range; keep = true } ∷ []) (record { place = 0; bytes = before_word ++ (text ++ 10 ∷ []); is_closed = true })
    ≡ reply_in true (record { decimals = decimals; slots = record { kind = k; range = range; keep = true } ∷ []; values = []; is_comment = false; taken = 14; place = 0 }) (word text 10 [] (last []))
unfolding class_of
step_of_word decimals k range text none =
    ap (λ (ws : Words). reply_in true (record { decimals = decimals; slots = record { kind = k; range = range; keep = true } ∷ []; values = []; is_comment = false; taken = 14; place = 0 }) ws) (words_run [] text 10 [] none refl)

value_size : (v : Value) (slot : Slot) → Holds slot v → IsSized v
value_size (value.Bool b) slot h = tt
value_size (value.Num raw) slot h = let small = h.bound in omega (arith, small)

pub value_word : StepReadsBack → RoomIsEnough → (decimals : ℕ) (slot : Slot) (v : Value) → decimals ≤ most_decimals → Holds slot v → IsWord decimals slot v (value_text decimals slot.kind v)
value_word reads rooms decimals slot v few holds =
    let text = value_text decimals slot.kind v in
    let sized = value_size v slot holds in
    let none = none_value decimals slot.kind v sized in
    let kept_slot : Slot = record { kind = slot.kind; range = slot.range; keep = true } in
    let step : WrittenStep = record { number = 0; outputs = []; inputs = v ∷ []; locals = None } in
    let fits = rooms.2 decimals 0 0 (slot.kind ∷ []) [] (v ∷ []) None end.Normal [] few (omega arith) (omega arith) tt (sized, tt) tt tt in
    let read = reads decimals 0 [] (kept_slot ∷ []) step [] [] [] true few (omega arith)
    (record { number = omega arith; outputs = tt; inputs = (record { kind = holds.kind; bound = holds.bound; range = holds.range }, tt); locals = tt }) tt (omega (arith, fits)) in
    let bytes : (text_of_step decimals [] (kept_slot ∷ []) [] step) ++ [] ≡ before_word ++ (text ++ 10 ∷ []) =
    append-nil (text_of_step decimals [] (kept_slot ∷ []) [] step)
    ∙ ap (λ (digits : List ℕ). line (codes "#step " ++ digits) ++ (codes "#outs" ++ 32 ∷ ((text ++ []) ++ 10 ∷ []))) (decimal_digit 0 (omega arith))
    ∙ ap (λ (t : List ℕ). before_word ++ (t ++ 10 ∷ [])) (append-nil text) in
    let is = sym (step_of_word decimals slot.kind slot.range text none)
    ∙ ap (λ (bs : List ℕ). reply_of decimals (kept_slot ∷ []) (record { place = 0; bytes = bs; is_closed = true })) (sym bytes)
    ∙ read.4 in
    let was = room_was _ _ v (record { decimals = decimals; slots = kept_slot ∷ []; values = []; is_comment = false; taken = 14; place = 0 }) text slot.kind slot.range _ refl refl is in
    record { blank = none; class = was.0; judged = sym (judged_keeps decimals slot text) ∙ was.1 }

-- Traces that are written are read back.
use Rattle.std.proofs.Common.{◌≡◌, ℕ, suc, ◌+◌, ◌^◌, ◌<◌, ◌≤◌, Bool, true, false, ◌||◌, ◌==◌, List, [], ◌∷◌, ◌++◌, length, map, drop, codes, decimal, unwrap_or, None, Some, Option, ℤ, pos, negsuc, unsigned_abs, refl, ap, sym, subst, ◌∙◌, arith, append_assoc, append-nil, length-append}
use Rattle.std.specs.List.{before_first, flat_map, list_any}
use Rattle.std.proofs.lemmas.Bool.Decides.{nat_tests}
use Rattle.std.proofs.lemmas.Fmt.{digits_decimal}
use Rattle.std.proofs.lemmas.List.Folds.{list_any-append}
use Rattle.lt_draw.specs.declared.directions.Draw.{Draw}
use Rattle.lt_draw.specs.declared.directions.Draw.TheVariants.{Directed, Inside, Up}
use Rattle.lt_num.specs.Text.{size_text, text_of}
use Rattle.lt_num.specs.declared.kind.Kind.{Kind}
use Rattle.lt_num.specs.declared.kind.Kind.TheVariants as kind
use Rattle.lt_num.specs.declared.value.Value.{Value}
use Rattle.lt_num.specs.declared.value.Value.TheVariants as value
use Rattle.lt_rif.specs.Cutting.{reply_then, replies_of}
use Rattle.lt_rif.specs.Enough.{IsSized, AreLocalsSized}
use Rattle.lt_rif.specs.ReadBack.{HoldAll, kinds_of, WrittenStep, IsStep, text_of_step, values_of_step, AreOnLines, AreSteps, HaveValues, half_longest, StepReadsBack, TraceReadsBack}
use Rattle.lt_rif.specs.Reply.{Reply, Stream, whole, longest, reply_of}
use Rattle.lt_rif.specs.Spelling.{Filler, outs, comment, filler_text, IsFiller, AreFillers, gap_text, Field, field_text, fields_text, Writes, kept}
use Rattle.lt_rif.specs.Trace.{DeclaredVariable, declared_text, draw_header, header_text, kind_text, line, local_words, locals_header, locals_part, value_text, value_words}
use Rattle.lt_rif.specs.Word.{is_blank, class_of}
use Rattle.lt_rif.specs.declared.slot.Slot.{Slot}
use Rattle.lt_rif.specs.declared.word.WordClass.TheVariants as class
use Rattle.lt_rif.specs.inner.Spaced.{before_space, after_space}
use Rattle.lt_rif.proofs.ReadingLemmas.{neither}
use Rattle.lt_rif.proofs.SpellingLemmas.{either, spelling_is_read}
use Rattle.lt_rif.proofs.TraceLemmas.{step_lays_out}
use Rattle.lt_rif.proofs.ValueLemmas.{judged-back, value-word}
use Rattle.lt_rif.proofs.WordLemmas.{own, no-digit, feed-digit, part-at, part-none, size-is}

-- ---- fields of words

-- with a space after each
abbrev head_fields : List (List ℕ) → List Field
head_fields [] = []
head_fields (w ∷ words) = record { gap = []; word = w; blank = 32 } ∷ head_fields words

-- with a space between two, and a blank after the last
abbrev tail_fields : List (List ℕ) → ℕ → List Field
tail_fields [] last = []
tail_fields (w ∷ []) last = record { gap = []; word = w; blank = last } ∷ []
tail_fields (w ∷ v ∷ words) last = record { gap = []; word = w; blank = 32 } ∷ tail_fields (v ∷ words) last

-- with more before the first
abbrev with_gap : List Filler → List Field → List Field
with_gap gap [] = []
with_gap gap (f ∷ fields) = record { gap = gap ++ f.gap; word = f.word; blank = f.blank } ∷ fields

-- ---- their texts

head-text : (words : List (List ℕ)) → fields_text (head_fields words) ≡ before_space words
head-text [] = refl
head-text (w ∷ words) = ap (λ (t : List ℕ). (w ++ codes " ") ++ t) (head-text words)

tail-text : (w : List ℕ) (words : List (List ℕ)) (last : ℕ) (rest : List ℕ) → after_space (w ∷ words) ++ last ∷ rest ≡ 32 ∷ (fields_text (tail_fields (w ∷ words) last) ++ rest)
tail-text w [] last rest =
    ap (λ (t : List ℕ). 32 ∷ t)
    (ap (λ (t : List ℕ). t ++ last ∷ rest) (append-nil w)
    ∙ sym (append_assoc w (last ∷ []) rest)
    ∙ ap (λ (t : List ℕ). t ++ rest) (sym (append-nil (w ++ last ∷ []))))
tail-text w (v ∷ words) last rest =
    let fields = fields_text (tail_fields (v ∷ words) last) in
    ap (λ (t : List ℕ). 32 ∷ t)
    (append_assoc w (after_space (v ∷ words)) (last ∷ rest)
    ∙ ap (λ (t : List ℕ). w ++ t) (tail-text v words last rest)
    ∙ sym (append_assoc w (32 ∷ []) (fields ++ rest))
    ∙ sym (append_assoc (w ++ 32 ∷ []) fields rest))

gap-append : (xs ys : List Filler) → gap_text (xs ++ ys) ≡ gap_text xs ++ gap_text ys
gap-append [] ys = refl
gap-append (x ∷ xs) ys = ap (λ (t : List ℕ). filler_text x ++ t) (gap-append xs ys) ∙ sym (append_assoc (filler_text x) (gap_text xs) (gap_text ys))

gap-fields : (gap : List Filler) (fields : List Field) → 0 < length fields → fields_text (with_gap gap fields) ≡ gap_text gap ++ fields_text fields
gap-fields gap [] some = absurd (omega arith)
gap-fields gap (f ∷ fields) some =
    let after = f.blank ∷ [] in
    ap (λ (t : List ℕ). ((t ++ f.word) ++ after) ++ fields_text fields) (gap-append gap f.gap)
    ∙ ap (λ (t : List ℕ). (t ++ after) ++ fields_text fields) (append_assoc (gap_text gap) (gap_text f.gap) f.word)
    ∙ ap (λ (t : List ℕ). t ++ fields_text fields) (append_assoc (gap_text gap) (gap_text f.gap ++ f.word) after)
    ∙ append_assoc (gap_text gap) ((gap_text f.gap ++ f.word) ++ after) (fields_text fields)

fields-append : (xs ys : List Field) → fields_text (xs ++ ys) ≡ fields_text xs ++ fields_text ys
fields-append [] ys = refl
fields-append (x ∷ xs) ys = ap (λ (t : List ℕ). field_text x ++ t) (fields-append xs ys) ∙ sym (append_assoc (field_text x) (fields_text xs) (fields_text ys))

-- ---- what they write

fillers-append : (xs ys : List Filler) → AreFillers xs → AreFillers ys → AreFillers (xs ++ ys)
fillers-append [] ys h k = k
fillers-append (x ∷ xs) ys h k = (h.0, fillers-append xs ys h.1 k)

writes-gap : (decimals : ℕ) (slots : List Slot) (gap : List Filler) (fields : List Field) (values : List Value) → AreFillers gap → Writes decimals slots fields values → Writes decimals slots (with_gap gap fields) values
writes-gap decimals [] gap [] [] are writes = tt
writes-gap decimals (slot ∷ slots) gap (f ∷ fields) (v ∷ values) are writes =
    let is = writes.0 in
    (record { gap = fillers-append gap f.gap are is.gap; word = is.word; class = is.class; blank = is.blank }, writes.1, writes.2)
writes-gap decimals slots gap fields values are writes = absurd writes

writes-append : (decimals : ℕ) (first : List Slot) (slots : List Slot) (prefix fields : List Field) (start values : List Value) → Writes decimals first prefix start → Writes decimals slots fields values
    → Writes decimals (first ++ slots) (prefix ++ fields) (start ++ values)
writes-append decimals [] slots [] fields [] values h k = k
writes-append decimals (s ∷ first) slots (f ∷ prefix) fields (v ∷ start) values h k = (h.0, h.1, writes-append decimals first slots prefix fields start values h.2 k)
writes-append decimals first slots prefix fields start values h k = absurd h

writes-head : (decimals : ℕ) (slots : List Slot) (values : List Value) → decimals ≤ 6 → HoldAll slots values → Writes decimals slots (head_fields (value_words decimals (kinds_of slots) values)) values
writes-head decimals [] [] few holds = tt
writes-head decimals (slot ∷ slots) (v ∷ values) few holds =
    let is = value-word decimals slot.kind v (holds.0).bound in
    (record { gap = tt; word = is.blank; class = is.class; blank = refl }, judged-back decimals slot v few holds.0, writes-head decimals slots values few holds.1)
writes-head decimals slots values few holds = absurd holds

writes-tail : (decimals last : ℕ) (slots : List Slot) (values : List Value) → decimals ≤ 6 → is_blank last ≡ true → HoldAll slots values → Writes decimals slots (tail_fields (value_words decimals (kinds_of slots) values) last) values
writes-tail decimals last [] [] few is holds = tt
writes-tail decimals last (slot ∷ []) (v ∷ []) few is holds =
    let w = value-word decimals slot.kind v (holds.0).bound in
    (record { gap = tt; word = w.blank; class = w.class; blank = is }, judged-back decimals slot v few holds.0, tt)
writes-tail decimals last (slot ∷ next ∷ slots) (v ∷ u ∷ values) few is holds =
    let w = value-word decimals slot.kind v (holds.0).bound in
    (record { gap = tt; word = w.blank; class = w.class; blank = refl }, judged-back decimals slot v few holds.0, writes-tail decimals last (next ∷ slots) (u ∷ values) few is holds.1)
writes-tail decimals last [] (v ∷ values) few is holds = absurd holds
writes-tail decimals last (slot ∷ slots) [] few is holds = absurd holds
writes-tail decimals last (slot ∷ []) (v ∷ u ∷ values) few is holds = absurd holds.1
writes-tail decimals last (slot ∷ next ∷ slots) (v ∷ []) few is holds = absurd holds.1

-- ---- kinds

words-prefix : (decimals : ℕ) (slots : List Slot) (values : List Value) (more : List Kind) → HoldAll slots values → value_words decimals (kinds_of slots ++ more) values ≡ value_words decimals (kinds_of slots) values
words-prefix decimals [] [] [] holds = refl
words-prefix decimals [] [] (k ∷ more) holds = refl
words-prefix decimals (slot ∷ slots) (v ∷ values) more holds = ap (λ (ws : List (List ℕ)). value_text decimals slot.kind v ∷ ws) (words-prefix decimals slots values more holds.1)
words-prefix decimals [] (v ∷ values) more holds = absurd holds
words-prefix decimals (slot ∷ slots) [] more holds = absurd holds

kinds-after : (slots : List Slot) (values : List Value) (more : List Kind) → HoldAll slots values → drop (length values) (kinds_of slots ++ more) ≡ more
kinds-after [] [] more holds = refl
kinds-after (slot ∷ slots) (v ∷ values) more holds = kinds-after slots values more holds.1
kinds-after [] (v ∷ values) more holds = absurd holds
kinds-after (slot ∷ slots) [] more holds = absurd holds

kept-append : (first slots : List Slot) (start values : List Value) → HoldAll first start → kept (first ++ slots) (start ++ values) ≡ kept first start ++ kept slots values
kept-append [] slots [] values holds = refl
kept-append (s ∷ first) slots (v ∷ start) values holds =
    let rest = kept-append first slots start values holds.1 in
    either s.keep
    (λ e. rw e (ap (λ (vs : List Value). v ∷ vs) rest))
    (λ e. rw e rest)
kept-append [] slots (v ∷ start) values holds = absurd holds
kept-append (s ∷ first) slots [] values holds = absurd holds

-- ---- the step

-- its first line is a comment
step-comment : (step : ℕ) → step < 2 ^ 64 → IsFiller (comment (codes "#step " ++ decimal step))
unfolding class_of
step-comment step small = (
  ap class_of (part-at is_blank (codes "#step") 32 (decimal step) refl refl).0,
  no-digit (λ b. b == 10) feed-digit (decimal step) (digits_decimal own step small),
)

-- ---- lines without a line feed

both-none : (a b : Bool) → a ≡ false → b ≡ false → a || b ≡ false
both-none a b h k = rw (h, k) refl

none-append : (xs ys : List ℕ) → list_any (λ b. b == 10) xs ≡ false → list_any (λ b. b == 10) ys ≡ false → list_any (λ b. b == 10) (xs ++ ys) ≡ false
none-append xs ys h k = rw (list_any-append (λ (b : ℕ). b == 10) xs ys) (both-none _ _ h k)

-- what isn't blank is no line feed
blank-feed : (b : ℕ) → is_blank b ≡ false → b == 10 ≡ false
blank-feed b e = grind (arith, nat_tests)

none-blank : (xs : List ℕ) → list_any is_blank xs ≡ false → list_any (λ b. b == 10) xs ≡ false
none-blank [] none = refl
none-blank (x ∷ xs) none =
    let h = neither (is_blank x) (list_any is_blank xs) none in
    rw (blank-feed x h.0) (none-blank xs h.1)

text-none : (k : ℕ) (raw : ℤ) → unsigned_abs raw ≤ 2 ^ 63 → list_any (λ b. b == 10) (text_of k raw) ≡ false
text-none k (pos n) small = none-blank (text_of k (pos n)) (size-is k n (omega arith)).blank
text-none k (negsuc n) small = none-blank (size_text k (suc n)) (size-is k (suc n) (omega arith)).blank

value-none : (decimals : ℕ) (k : Kind) (v : Value) → IsSized v → list_any (λ b. b == 10) (value_text decimals k v) ≡ false
value-none decimals k (value.Bool true) sized = refl
value-none decimals k (value.Bool false) sized = refl
value-none decimals k (value.Num raw) sized = text-none _ raw sized

locals-none : (decimals : ℕ) (kinds : List Kind) (locals : List (Option Value)) → AreLocalsSized locals → list_any (λ b. b == 10) (after_space (local_words decimals kinds locals)) ≡ false
locals-none decimals [] locals sized = refl
locals-none decimals (k ∷ kinds) [] sized = refl
locals-none decimals (k ∷ kinds) (None ∷ locals) sized = locals-none decimals kinds locals sized
locals-none decimals (k ∷ kinds) (Some v ∷ locals) sized =
    none-append (codes " " ++ value_text decimals k v) (after_space (local_words decimals kinds locals)) (value-none decimals k v sized.0) (locals-none decimals kinds locals sized.1)

-- a first word, and what stands after a space
word-then : (w : List ℕ) (words : List (List ℕ)) → list_any is_blank w ≡ false → before_first is_blank (w ++ after_space words) ≡ w
word-then w [] none = ap (before_first is_blank) (append-nil w) ∙ (part-none is_blank w none).0
word-then w (v ∷ words) none =
    ap (λ (t : List ℕ). before_first is_blank (w ++ t)) (append_assoc (codes " ") v (after_space words))
    ∙ (part-at is_blank w 32 (v ++ after_space words) none refl).0

-- the part of the locals, as a comment
locals-comment : (decimals : ℕ) (kinds : List Kind) (locals : List (Option Value)) → AreLocalsSized locals → IsFiller (comment (codes "#locs" ++ after_space (local_words decimals kinds locals)))
unfolding class_of
locals-comment decimals kinds locals sized =
    (ap class_of (word-then (codes "#locs") (local_words decimals kinds locals) refl), locals-none decimals kinds locals sized)

-- what stands after the values: a blank, and what may stand between values
pub record Tail (decimals : ℕ) (kinds : List Kind) (locals : Option (List (Option Value))) : Type 0 where
  pub blank : ℕ
  pub parts : List Filler
  pub is_blank_byte : is_blank blank ≡ true
  pub are : AreFillers parts
  pub text : after_space (locals_part decimals kinds locals) ++ 10 ∷ [] ≡ blank ∷ gap_text parts

tail-of : (decimals : ℕ) (kinds : List Kind) (locals : Option (List (Option Value))) → AreLocalsSized (unwrap_or locals []) → Tail decimals kinds locals
tail-of decimals kinds None sized = record { blank = 10; parts = []; is_blank_byte = refl; are = tt; text = refl }
tail-of decimals kinds (Some locals) sized =
    let text = codes "#locs" ++ after_space (local_words decimals kinds locals) in
    record {
      blank = 32;
      parts = comment text ∷ [];
      is_blank_byte = refl;
      are = (locals-comment decimals kinds locals sized, tt);
      text = ap (λ (t : List ℕ). 32 ∷ t) (sym (append-nil (text ++ 10 ∷ [])));
    }

-- fields there are
tail-some : (w : List ℕ) (words : List (List ℕ)) (last : ℕ) → 0 < length (tail_fields (w ∷ words) last)
tail-some w [] last = omega arith
tail-some w (v ∷ words) last = omega arith

gap-some : (gap : List Filler) (fields : List Field) → 0 < length fields → 0 < length (with_gap gap fields)
gap-some gap [] some = some
gap-some gap (f ∷ fields) some = omega arith

-- the text of a step, with inputs ..
step-inputs : (first words : List (List ℕ)) (w part begins : List ℕ) (blank : ℕ) (rest : List ℕ) (gap : List Filler) → part ++ 10 ∷ [] ≡ blank ∷ rest → begins ≡ gap_text gap
    → begins ++ (before_space first ++ codes "#outs" ++ after_space (w ∷ words) ++ part ++ 10 ∷ [])
    ≡ fields_text (with_gap gap (head_fields first ++ with_gap (outs 32 ∷ []) (tail_fields (w ∷ words) blank))) ++ rest
step-inputs first words w part begins blank rest gap ends begin =
    let before = before_space first in
    let mark = codes "#outs" in
    let mark_space = gap_text (outs 32 ∷ []) in
    let after = after_space (w ∷ words) in
    let tail = tail_fields (w ∷ words) blank in
    let text = fields_text tail in
    let marked = with_gap (outs 32 ∷ []) tail in
    let all = head_fields first ++ marked in
    let some : 0 < length all = omega (arith, length-append (head_fields first) marked, gap-some (outs 32 ∷ []) tail (tail-some w words blank)) in
    let left : before ++ mark ++ after ++ part ++ 10 ∷ [] ≡ before ++ (mark_space ++ (text ++ rest)) =
    append_assoc (before ++ mark ++ after) part (10 ∷ [])
    ∙ ap (λ (t : List ℕ). (before ++ mark ++ after) ++ t) ends
    ∙ append_assoc (before ++ mark) after (blank ∷ rest)
    ∙ ap (λ (t : List ℕ). (before ++ mark) ++ t) (tail-text w words blank rest)
    ∙ append_assoc before mark (32 ∷ (text ++ rest)) in
    let right : fields_text (with_gap gap all) ≡ gap_text gap ++ (before ++ (mark_space ++ text)) =
    gap-fields gap all some
    ∙ ap (λ (t : List ℕ). gap_text gap ++ t)
    (fields-append (head_fields first) marked
    ∙ ap (λ (t : List ℕ). t ++ fields_text marked) (head-text first)
    ∙ ap (λ (t : List ℕ). before ++ t) (gap-fields (outs 32 ∷ []) tail (tail-some w words blank))) in
    ap (λ (t : List ℕ). t ++ (before ++ mark ++ after ++ part ++ 10 ∷ [])) begin
    ∙ ap (λ (t : List ℕ). gap_text gap ++ t) left
    ∙ sym (ap (λ (t : List ℕ). t ++ rest) right
    ∙ append_assoc (gap_text gap) (before ++ (mark_space ++ text)) rest
    ∙ ap (λ (t : List ℕ). gap_text gap ++ t) (append_assoc before (mark_space ++ text) rest ∙ ap (λ (t : List ℕ). before ++ t) (append_assoc mark_space text rest)))

-- .. and without
step-outputs : (w : List ℕ) (words : List (List ℕ)) (part begins : List ℕ) (gap : List Filler) → begins ≡ gap_text gap
    → begins ++ (before_space (w ∷ words) ++ codes "#outs" ++ [] ++ part ++ 10 ∷ [])
    ≡ fields_text (with_gap gap (head_fields (w ∷ words) ++ [])) ++ (codes "#outs" ++ (part ++ 10 ∷ []))
step-outputs w words part begins gap begin =
    let before = before_space (w ∷ words) in
    let mark = codes "#outs" in
    let all = head_fields (w ∷ words) ++ [] in
    let right : fields_text (with_gap gap all) ≡ gap_text gap ++ before =
    gap-fields gap all (omega arith) ∙ ap (λ (t : List ℕ). gap_text gap ++ t) (fields-append (head_fields (w ∷ words)) [] ∙ append-nil (fields_text (head_fields (w ∷ words))) ∙ head-text (w ∷ words)) in
    let left : before ++ mark ++ [] ++ part ++ 10 ∷ [] ≡ before ++ (mark ++ (part ++ 10 ∷ [])) =
    ap (λ (t : List ℕ). t ++ part ++ 10 ∷ []) (append-nil (before ++ mark))
    ∙ append_assoc (before ++ mark) part (10 ∷ [])
    ∙ append_assoc before mark (part ++ 10 ∷ []) in
    ap (λ (t : List ℕ). t ++ (before ++ mark ++ [] ++ part ++ 10 ∷ [])) begin
    ∙ ap (λ (t : List ℕ). gap_text gap ++ t) left
    ∙ sym (ap (λ (t : List ℕ). t ++ (mark ++ (part ++ 10 ∷ []))) right ∙ append_assoc (gap_text gap) before (mark ++ (part ++ 10 ∷ [])))

-- what is read of a step
record StepRead (decimals place : ℕ) (slots : List Slot) (values : List Value) (prefix text rest : List ℕ) (closed : Bool) : Type 0 where
  count : ℕ
  after : List Filler
  are : AreFillers after
  short : length (gap_text after) ≤ length text
  is_read : reply_of decimals slots (record { place = place; bytes = (prefix ++ text) ++ rest; is_closed = closed }) ≡ whole values (record { place = place + count; bytes = gap_text after ++ rest; is_closed = closed })

-- a text that begins with fields, of which the first has more before it
read-from : (decimals place : ℕ) (slots : List Slot) (values : List Value) (gap : List Filler) (fields : List Field) (prefix text rest : List ℕ) (after : List Filler) (closed : Bool)
    → Writes decimals slots (with_gap gap fields) values → 0 < length fields → prefix ++ text ≡ fields_text (with_gap gap fields) ++ gap_text after → length prefix ≤ length (gap_text gap) → AreFillers after → length (prefix ++ text) ≤ longest
    → StepRead decimals place slots (kept slots values) prefix text rest closed
read-from decimals place slots values gap fields prefix text rest after closed writes some is before are short =
    let read = fields_text (with_gap gap fields) in
    let left = gap_text after in
    let count : length (prefix ++ text) ≡ length read + length left = ap (λ (t : List ℕ). length t) is ∙ length-append read left in
    let long : length read ≡ length (gap_text gap) + length (fields_text fields) = ap (λ (t : List ℕ). length t) (gap-fields gap fields some) ∙ length-append (gap_text gap) (fields_text fields) in
    record {
      count = length read;
      after = after;
      are = are;
      short = omega (arith, length-append prefix text);
      is_read =
          ap (λ (bs : List ℕ). reply_of decimals slots (record { place = place; bytes = bs; is_closed = closed })) (ap (λ (t : List ℕ). t ++ rest) is ∙ append_assoc read left rest)
          ∙ spelling_is_read decimals place slots (with_gap gap fields) values (left ++ rest) closed writes (omega arith);
    }

-- by its words
words-read : (decimals step place : ℕ) (outputs_slots inputs_slots : List Slot) (outputs inputs : List Value) (kinds : List Kind) (locals : Option (List (Option Value))) (before : List Filler) (rest : List ℕ) (closed : Bool)
    → decimals ≤ 6 → step < 2 ^ 64 → HoldAll outputs_slots outputs → HoldAll inputs_slots inputs → AreLocalsSized (unwrap_or locals []) → AreFillers before → 0 < length (outputs_slots ++ inputs_slots) → (text : List ℕ)
    → text ≡ line (codes "#step " ++ decimal step)
    ++ (before_space (value_words decimals (kinds_of outputs_slots) outputs) ++ codes "#outs" ++ after_space (value_words decimals (kinds_of inputs_slots) inputs) ++ after_space (locals_part decimals kinds locals) ++ 10 ∷ [])
    → length (gap_text before ++ text) ≤ longest → StepRead decimals place (outputs_slots ++ inputs_slots) (kept (outputs_slots ++ inputs_slots) (outputs ++ inputs)) (gap_text before) text rest closed
words-read decimals step place outputs_slots (slot ∷ slots) outputs (v ∷ values) kinds locals before rest closed few small outputs_hold inputs_hold sized are some text is short =
    let first = value_words decimals (kinds_of outputs_slots) outputs in
    let words = value_words decimals (kinds_of slots) values in
    let w = value_text decimals slot.kind v in
    let tail = tail-of decimals kinds locals sized in
    let begins = line (codes "#step " ++ decimal step) in
    let start = comment (codes "#step " ++ decimal step) ∷ [] in
    let gap = before ++ start in
    let marked = with_gap (outs 32 ∷ []) (tail_fields (w ∷ words) tail.blank) in
    let fields = head_fields first ++ marked in
    let after = before_space first ++ codes "#outs" ++ after_space (w ∷ words) ++ after_space (locals_part decimals kinds locals) ++ 10 ∷ [] in
    let prefix : gap_text before ++ begins ≡ gap_text gap = sym (gap-append before start ∙ ap (λ (t : List ℕ). gap_text before ++ t) (append-nil begins)) in
    read-from decimals place (outputs_slots ++ slot ∷ slots) (outputs ++ v ∷ values) gap fields (gap_text before) text rest tail.parts closed
    (writes-gap decimals (outputs_slots ++ slot ∷ slots) gap fields (outputs ++ v ∷ values) (fillers-append before start are (step-comment step small, tt))
    (writes-append decimals outputs_slots (slot ∷ slots) (head_fields first) marked outputs (v ∷ values) (writes-head decimals outputs_slots outputs few outputs_hold)
    (writes-gap decimals (slot ∷ slots) (outs 32 ∷ []) (tail_fields (w ∷ words) tail.blank) (v ∷ values) (refl, tt) (writes-tail decimals tail.blank (slot ∷ slots) (v ∷ values) few tail.is_blank_byte inputs_hold))))
    (omega (arith, length-append (head_fields first) marked, gap-some (outs 32 ∷ []) (tail_fields (w ∷ words) tail.blank) (tail-some w words tail.blank)))
    (ap (λ (t : List ℕ). gap_text before ++ t) is ∙ sym (append_assoc (gap_text before) begins after) ∙ step-inputs first words w (after_space (locals_part decimals kinds locals)) (gap_text before ++ begins) tail.blank (gap_text tail.parts) gap tail.text prefix)
    (omega (arith, ap (λ (t : List ℕ). length t) prefix, length-append (gap_text before) begins)) tail.are short
words-read decimals step place (slot ∷ slots) [] (v ∷ values) [] kinds locals before rest closed few small outputs_hold inputs_hold sized are some text is short =
    let words = value_words decimals (kinds_of slots) values in
    let w = value_text decimals slot.kind v in
    let tail = tail-of decimals kinds locals sized in
    let begins = line (codes "#step " ++ decimal step) in
    let start = comment (codes "#step " ++ decimal step) ∷ [] in
    let gap = before ++ start in
    let part = after_space (locals_part decimals kinds locals) in
    let fields = head_fields (w ∷ words) ++ [] in
    let after = before_space (w ∷ words) ++ codes "#outs" ++ [] ++ part ++ 10 ∷ [] in
    let prefix : gap_text before ++ begins ≡ gap_text gap = sym (gap-append before start ∙ ap (λ (t : List ℕ). gap_text before ++ t) (append-nil begins)) in
    let left : codes "#outs" ++ (part ++ 10 ∷ []) ≡ gap_text (outs tail.blank ∷ tail.parts) = ap (λ (t : List ℕ). codes "#outs" ++ t) tail.text in
    read-from decimals place ((slot ∷ slots) ++ []) ((v ∷ values) ++ []) gap fields (gap_text before) text rest (outs tail.blank ∷ tail.parts) closed
    (writes-gap decimals ((slot ∷ slots) ++ []) gap fields ((v ∷ values) ++ []) (fillers-append before start are (step-comment step small, tt))
    (writes-append decimals (slot ∷ slots) [] (head_fields (w ∷ words)) [] (v ∷ values) [] (writes-head decimals (slot ∷ slots) (v ∷ values) few outputs_hold) tt))
    (omega arith)
    (ap (λ (t : List ℕ). gap_text before ++ t) is ∙ sym (append_assoc (gap_text before) begins after) ∙ step-outputs w words part (gap_text before ++ begins) gap prefix
    ∙ ap (λ (t : List ℕ). fields_text (with_gap gap fields) ++ t) left)
    (omega (arith, ap (λ (t : List ℕ). length t) prefix, length-append (gap_text before) begins)) (tail.is_blank_byte, tail.are) short
words-read decimals step place [] [] outputs [] kinds locals before rest closed few small outputs_hold inputs_hold sized are some text is short = absurd (omega arith)
words-read decimals step place (slot ∷ slots) [] [] [] kinds locals before rest closed few small outputs_hold inputs_hold sized are some text is short = absurd outputs_hold
words-read decimals step place outputs_slots [] outputs (v ∷ values) kinds locals before rest closed few small outputs_hold inputs_hold sized are some text is short = absurd inputs_hold
words-read decimals step place outputs_slots (slot ∷ slots) outputs [] kinds locals before rest closed few small outputs_hold inputs_hold sized are some text is short = absurd inputs_hold

-- by its text
step-read : (decimals place : ℕ) (outputs_slots inputs_slots : List Slot) (step : WrittenStep) (kinds : List Kind) (before : List Filler) (rest : List ℕ) (closed : Bool)
    → decimals ≤ 6 → 0 < length (outputs_slots ++ inputs_slots) → IsStep outputs_slots inputs_slots step → AreFillers before → length (gap_text before ++ text_of_step decimals outputs_slots inputs_slots kinds step) ≤ longest
    → StepRead decimals place (outputs_slots ++ inputs_slots) (kept (outputs_slots ++ inputs_slots) (step.outputs ++ step.inputs)) (gap_text before) (text_of_step decimals outputs_slots inputs_slots kinds step) rest closed
step-read decimals place outputs_slots inputs_slots step kinds before rest closed few some is are short =
    let outputs = step.outputs in
    let inputs = step.inputs in
    let all = kinds_of outputs_slots ++ kinds_of inputs_slots ++ kinds in
    let text = text_of_step decimals outputs_slots inputs_slots kinds step in
    let begins = line (codes "#step " ++ decimal step.number) in
    let local_kinds = drop (length outputs + length inputs) all in
    let split : all ≡ kinds_of outputs_slots ++ (kinds_of inputs_slots ++ kinds) = append_assoc (kinds_of outputs_slots) (kinds_of inputs_slots) kinds in
    let first : value_words decimals all outputs ≡ value_words decimals (kinds_of outputs_slots) outputs =
    ap (λ (ks : List Kind). value_words decimals ks outputs) split ∙ words-prefix decimals outputs_slots outputs (kinds_of inputs_slots ++ kinds) is.outputs in
    let second : value_words decimals (drop (length outputs) all) inputs ≡ value_words decimals (kinds_of inputs_slots) inputs =
    ap (λ (ks : List Kind). value_words decimals (drop (length outputs) ks) inputs) split
    ∙ ap (λ (ks : List Kind). value_words decimals ks inputs) (kinds-after outputs_slots outputs (kinds_of inputs_slots ++ kinds) is.outputs)
    ∙ words-prefix decimals inputs_slots inputs kinds is.inputs in
    let layout : text ≡ begins ++ (before_space (value_words decimals (kinds_of outputs_slots) outputs) ++ codes "#outs" ++ after_space (value_words decimals (kinds_of inputs_slots) inputs) ++ after_space (locals_part decimals local_kinds step.locals) ++ 10 ∷ []) =
    ap (λ (t : List ℕ). begins ++ t) (step_lays_out decimals all outputs inputs step.locals)
    ∙ (λ i. begins ++ (before_space (first i) ++ codes "#outs" ++ after_space (second i) ++ after_space (locals_part decimals local_kinds step.locals) ++ 10 ∷ [])) in
    words-read decimals step.number place outputs_slots inputs_slots outputs inputs local_kinds step.locals before rest closed few is.number is.outputs is.inputs is.locals are some text layout short

pub step_reads_back : StepReadsBack
step_reads_back decimals place outputs_slots inputs_slots step kinds before rest closed few some is are short =
    let read = step-read decimals place outputs_slots inputs_slots step kinds before rest closed few some is are short in
    let left : Stream = record { place = place + read.count; bytes = gap_text read.after ++ rest; is_closed = closed } in
    (read.count, read.after, read.are, read.short, read.is_read ∙ ap (λ (vs : List Value). whole vs left) (kept-append outputs_slots inputs_slots step.outputs step.inputs is.outputs))

-- ---- steps, one after another

steps-read : (decimals : ℕ) (outputs_slots inputs_slots : List Slot) (kinds : List Kind) (steps : List WrittenStep) (place : ℕ) (before : List Filler) (rest : List ℕ) (closed : Bool)
    → decimals ≤ 6 → 0 < length (outputs_slots ++ inputs_slots) → AreSteps decimals outputs_slots inputs_slots kinds steps → AreFillers before → length (gap_text before) ≤ half_longest
    → HaveValues
    (replies_of (length steps) decimals (outputs_slots ++ inputs_slots) (record { place = place; bytes = gap_text before ++ (flat_map (text_of_step decimals outputs_slots inputs_slots kinds) steps ++ rest); is_closed = closed }))
    (map (values_of_step outputs_slots inputs_slots) steps)
steps-read decimals outputs_slots inputs_slots kinds [] place before rest closed few some steps_are are short = tt
steps-read decimals outputs_slots inputs_slots kinds (step ∷ steps) place before rest closed few some steps_are are short =
    let slots = outputs_slots ++ inputs_slots in
    let text = text_of_step decimals outputs_slots inputs_slots kinds step in
    let more = flat_map (text_of_step decimals outputs_slots inputs_slots kinds) steps in
    let tiny = steps_are.1 in
    let read = step-read decimals place outputs_slots inputs_slots step kinds before (more ++ rest) closed few some steps_are.0 are (omega (arith, length-append (gap_text before) text)) in
    let left : Stream = record { place = place + read.count; bytes = gap_text read.after ++ (more ++ rest); is_closed = closed } in
    let bytes : gap_text before ++ ((text ++ more) ++ rest) ≡ (gap_text before ++ text) ++ (more ++ rest) =
    ap (λ (t : List ℕ). gap_text before ++ t) (append_assoc text more rest) ∙ sym (append_assoc (gap_text before) text (more ++ rest)) in
    let is : reply_of decimals slots (record { place = place; bytes = gap_text before ++ ((text ++ more) ++ rest); is_closed = closed }) ≡ whole (kept slots (step.outputs ++ step.inputs)) left =
    ap (λ (bs : List ℕ). reply_of decimals slots (record { place = place; bytes = bs; is_closed = closed })) bytes ∙ read.is_read in
    let read_short = read.short in
    subst (λ (r : Reply). HaveValues (reply_then r (replies_of (length steps) decimals slots)) (map (values_of_step outputs_slots inputs_slots) (step ∷ steps))) (sym is) (
      kept-append outputs_slots inputs_slots step.outputs step.inputs (steps_are.0).outputs,
      steps-read decimals outputs_slots inputs_slots kinds steps (place + read.count) read.after rest closed few some steps_are.2 read.are (omega arith),
    )

-- ---- the header

kind-none : (k : Kind) → list_any (λ b. b == 10) (kind_text k) ≡ false
kind-none kind.Bool = refl
kind-none kind.Int = refl
kind-none kind.Real = refl

declared-none : (ds : List DeclaredVariable) → AreOnLines ds → list_any (λ b. b == 10) (flat_map declared_text ds) ≡ false
declared-none [] are = refl
declared-none (d ∷ ds) are =
    none-append (declared_text d) (flat_map declared_text ds)
    (none-append (codes " \"" ++ d.name ++ codes "\":") (kind_text d.kind)
    (none-append (codes " \"" ++ d.name) (codes "\":") (none-append (codes " \"") d.name refl are.0) refl)
    (kind-none d.kind))
    (declared-none ds are.1)

-- a first word, and what is declared after it
declared-then : (w : List ℕ) (ds : List DeclaredVariable) → list_any is_blank w ≡ false → before_first is_blank (w ++ flat_map declared_text ds) ≡ w
declared-then w [] none = ap (before_first is_blank) (append-nil w) ∙ (part-none is_blank w none).0
declared-then w (d ∷ ds) none = (part-at is_blank w 32 _ none refl).0

declared-comment : (w : List ℕ) (ds : List DeclaredVariable) → list_any is_blank w ≡ false → list_any (λ b. b == 10) w ≡ false → class_of w ≡ class.Comment → AreOnLines ds → IsFiller (comment (w ++ flat_map declared_text ds))
declared-comment w ds none no_feed means are = (ap class_of (declared-then w ds none) ∙ means, none-append w (flat_map declared_text ds) no_feed (declared-none ds are))

seed-comment : (seed : ℕ) → seed < 2 ^ 64 → IsFiller (comment (codes "#seed " ++ decimal seed))
unfolding class_of
seed-comment seed small = (
  ap class_of (part-at is_blank (codes "#seed") 32 (decimal seed) refl refl).0,
  no-digit (λ b. b == 10) feed-digit (decimal seed) (digits_decimal own seed small),
)

-- a header as parts that may stand between values
record HeaderParts (text : List ℕ) : Type 0 where
  parts : List Filler
  are : AreFillers parts
  is : text ≡ gap_text parts

-- the line of the rule of drawing, where it stands, before such parts
draw-then : (draw : Draw) (gap : List Filler) → AreFillers gap → HeaderParts (draw_header draw ++ gap_text gap)
unfolding class_of
draw-then Up gap are = record { parts = gap; are = are; is = refl }
draw-then Directed gap are = record { parts = comment (codes "#draw 2") ∷ gap; are = ((refl, refl), are); is = refl }
draw-then Inside gap are = record { parts = comment (codes "#draw 3") ∷ gap; are = ((refl, refl), are); is = refl }

locals-parts : (locals : Option (List DeclaredVariable)) → AreOnLines (unwrap_or locals []) → HeaderParts (locals_header locals)
unfolding class_of
locals-parts None are = record { parts = []; are = tt; is = refl }
locals-parts (Some ds) are =
    let text = codes "#locals" ++ flat_map declared_text ds in
    record { parts = comment text ∷ []; are = (declared-comment (codes "#locals") ds refl refl refl are, tt); is = sym (append-nil (line text)) }

header-parts : (seed : ℕ) (draw : Draw) (outputs inputs : List DeclaredVariable) (locals : Option (List DeclaredVariable)) → seed < 2 ^ 64 → AreOnLines outputs → AreOnLines inputs → AreOnLines (unwrap_or locals []) → HeaderParts (header_text seed draw outputs inputs locals)
unfolding class_of
header-parts seed draw outputs inputs locals small outputs_are inputs_are locals_are =
    let rest = locals-parts locals locals_are in
    let first = codes "#seed " ++ decimal seed in
    let second = codes "#inputs" ++ flat_map declared_text outputs in
    let third = codes "#outputs" ++ flat_map declared_text inputs in
    let variables = comment second ∷ comment third ∷ rest.parts in
    let variables_are : AreFillers variables = (declared-comment (codes "#inputs") outputs refl refl refl outputs_are, (declared-comment (codes "#outputs") inputs refl refl refl inputs_are, rest.are)) in
    let after = draw-then draw variables variables_are in
    record {
      parts = comment first ∷ after.parts;
      are = (seed-comment seed small, after.are);
      is =
          append_assoc (line first ++ draw_header draw ++ line second) (line third) (locals_header locals)
          ∙ append_assoc (line first ++ draw_header draw) (line second) (line third ++ locals_header locals)
          ∙ append_assoc (line first) (draw_header draw) (line second ++ (line third ++ locals_header locals))
          ∙ ap (λ (t : List ℕ). line first ++ (draw_header draw ++ (line second ++ (line third ++ t)))) rest.is
          ∙ ap (λ (t : List ℕ). line first ++ t) after.is;
    }

pub trace_reads_back : TraceReadsBack
trace_reads_back decimals seed place draw outputs_slots inputs_slots outputs inputs locals kinds steps rest closed few small some outputs_are inputs_are locals_are steps_are short =
    let header = header_text seed draw outputs inputs locals in
    let texts = flat_map (text_of_step decimals outputs_slots inputs_slots kinds) steps in
    let begins = header-parts seed draw outputs inputs locals small outputs_are inputs_are locals_are in
    let fits : length (gap_text begins.parts) ≤ half_longest = subst (λ (t : List ℕ). length t ≤ half_longest) begins.is short in
    subst (λ (t : List ℕ). HaveValues (replies_of (length steps) decimals (outputs_slots ++ inputs_slots) (record { place = place; bytes = t ++ (texts ++ rest); is_closed = closed })) (map (values_of_step outputs_slots inputs_slots) steps)) (sym begins.is)
    (steps-read decimals outputs_slots inputs_slots kinds steps place begins.parts rest closed few some steps_are begins.are fits)

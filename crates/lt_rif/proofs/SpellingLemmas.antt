-- How replies that are written are read.
use Rattle.std.proofs.Common.{◌≡◌, ◌≤◌, ℕ, ◌+◌, Bool, true, false, not, ◌==◌, List, [], ◌∷◌, ◌++◌, length, codes, Ok, Result, refl, ap, sym, ◌∙◌, arith, append_assoc, append-nil, length-append, if◌then◌else◌}
use Rattle.std.specs.List.{before_first, list_any}
use Rattle.std.proofs.lemmas.Bool.{le-ltb}
use Rattle.std.proofs.lemmas.Grind.{common_steps}
use Rattle.lt_num.specs.declared.value.Value.{Value}
use Rattle.lt_rif.specs.Judgement.{judged}
use Rattle.lt_rif.specs.Reply.{Stream, whole, longest, Begun, after_word, filled, go_on, reply_in, with_class, with_value, with_judged}
use Rattle.lt_rif.specs.Spelling.{Filler, blank, outs, comment, filler_text, IsFiller, AreFillers, gap_text, Field, field_text, IsField, Writes, fields_text, kept, SpellingIsRead}
use Rattle.lt_rif.specs.Word.{is_blank, class_of, words_of}
use Rattle.lt_rif.specs.declared.fault.ValueFault.{ValueFault}
use Rattle.lt_rif.specs.declared.slot.Slot.{Slot}
use Rattle.lt_rif.specs.declared.word.WordClass.{WordClass}
use Rattle.lt_rif.specs.declared.word.WordClass.TheVariants as class
use Rattle.lt_rif.proofs.ReadingLemmas.{neither, words_run}

-- a reply that has begun
abbrev at : ℕ → List Slot → List Value → ℕ → Bool → ℕ → Begun
at decimals slots values place is_comment taken = record { decimals = decimals; slots = slots; values = values; is_comment = is_comment; taken = taken; place = place }

-- a word with the blank after it, where the reply goes on
word-on : (closed : Bool) (r : Begun) (text : List ℕ) (b : ℕ) (bytes : List ℕ) → is_blank b ≡ true → r.taken + length text + 1 ≤ longest
    → reply_in closed r (words_of text (b ∷ bytes))
    ≡ go_on (after_word r text (b == 10)) (record { place = r.place + r.taken + length text + 1; bytes = bytes; is_closed = closed }) (λ q. reply_in closed q (words_of [] bytes))
word-on closed r text b bytes is short = rw (is, le-ltb longest (r.taken + length text + 1) short) refl

-- two cases of a test
pub either : {P : Type 0} (b : Bool) → (b ≡ true → P) → (b ≡ false → P) → P
either true first second = first refl
either false first second = second refl

-- the prefix of a text up to its first blank
prefix-blank : (b : ℕ) (text : List ℕ) → is_blank b ≡ true → before_first is_blank (b ∷ text) ≡ []
prefix-blank b text e = grind (arith, common_steps)

prefix-other : (b : ℕ) (text : List ℕ) → is_blank b ≡ false → before_first is_blank (b ∷ text) ≡ b ∷ before_first is_blank text
prefix-other b text e = grind (arith, common_steps)

-- ---- comments

-- within a comment, up to the end of its line
comment-rest : (closed : Bool) (decimals : ℕ) (slots : List Slot) (values : List Value) (place : ℕ) (text : List ℕ) (taken : ℕ) (prefix bytes : List ℕ)
    → list_any (λ b. b == 10) text ≡ false → taken + length prefix + length text + 1 ≤ longest
    → reply_in closed (at decimals slots values place true taken) (words_of prefix (text ++ 10 ∷ bytes))
    ≡ reply_in closed (at decimals slots values place false (taken + length prefix + length text + 1)) (words_of [] bytes)
comment-rest closed decimals slots values place [] taken prefix bytes none short =
    word-on closed (at decimals slots values place true taken) prefix 10 bytes refl (omega arith)
    ∙ ap (λ (n : ℕ). reply_in closed (at decimals slots values place false n) (words_of [] bytes)) {x = taken + length prefix + 1} {y = taken + length prefix + 0 + 1} (omega arith)
comment-rest closed decimals slots values place (b ∷ text) taken prefix bytes none short =
    let split = neither (b == 10) (list_any (λ c. c == 10) text) none in
    either (is_blank b)
    (λ e.
    word-on closed (at decimals slots values place true taken) prefix b (text ++ 10 ∷ bytes) e (omega arith)
    ∙ ap (λ (x : Bool). reply_in closed (at decimals slots values place (not x) (taken + length prefix + 1)) (words_of [] (text ++ 10 ∷ bytes))) split.0
    ∙ comment-rest closed decimals slots values place text (taken + length prefix + 1) [] bytes split.1 (omega arith)
    ∙ ap (λ (n : ℕ). reply_in closed (at decimals slots values place false n) (words_of [] bytes)) {x = taken + length prefix + 1 + 0 + length text + 1} {y = taken + length prefix + length (b ∷ text) + 1} (omega arith))
    (λ e.
    let longer = length-append prefix (b ∷ []) in
    rw e (comment-rest closed decimals slots values place text taken (prefix ++ b ∷ []) bytes split.1 (omega arith))
    ∙ ap (λ (n : ℕ). reply_in closed (at decimals slots values place false n) (words_of [] bytes)) {x = taken + length (prefix ++ b ∷ []) + length text + 1} {y = taken + length prefix + length (b ∷ text) + 1} (omega arith))

-- its first word, and what stands after that
comment-first : (closed : Bool) (decimals : ℕ) (slots : List Slot) (values : List Value) (place : ℕ) (text : List ℕ) (taken : ℕ) (prefix bytes : List ℕ)
    → class_of (prefix ++ before_first is_blank text) ≡ class.Comment → list_any (λ b. b == 10) text ≡ false → taken + length prefix + length text + 1 ≤ longest
    → reply_in closed (at decimals slots values place false taken) (words_of prefix (text ++ 10 ∷ bytes))
    ≡ reply_in closed (at decimals slots values place false (taken + length prefix + length text + 1)) (words_of [] bytes)
comment-first closed decimals slots values place [] taken prefix bytes means none short =
    let whole_word : class_of prefix ≡ class.Comment = ap class_of (sym (append-nil prefix)) ∙ means in
    word-on closed (at decimals slots values place false taken) prefix 10 bytes refl (omega arith)
    ∙ ap (λ (m : WordClass). go_on (with_class (at decimals slots values place false taken) prefix true m) (record { place = place + taken + length prefix + 1; bytes = bytes; is_closed = closed }) (λ q. reply_in closed q (words_of [] bytes))) whole_word
    ∙ ap (λ (n : ℕ). reply_in closed (at decimals slots values place false n) (words_of [] bytes)) {x = taken + length prefix + 1} {y = taken + length prefix + 0 + 1} (omega arith)
comment-first closed decimals slots values place (b ∷ text) taken prefix bytes means none short =
    let split = neither (b == 10) (list_any (λ c. c == 10) text) none in
    either (is_blank b)
    (λ e.
    let whole_word : class_of prefix ≡ class.Comment = ap class_of (sym (append-nil prefix) ∙ ap (λ (t : List ℕ). prefix ++ t) (sym (prefix-blank b text e))) ∙ means in
    word-on closed (at decimals slots values place false taken) prefix b (text ++ 10 ∷ bytes) e (omega arith)
    ∙ ap (λ (m : WordClass). go_on (with_class (at decimals slots values place false taken) prefix (b == 10) m) (record { place = place + taken + length prefix + 1; bytes = text ++ 10 ∷ bytes; is_closed = closed }) (λ q. reply_in closed q (words_of [] (text ++ 10 ∷ bytes)))) whole_word
    ∙ ap (λ (x : Bool). reply_in closed (at decimals slots values place (not x) (taken + length prefix + 1)) (words_of [] (text ++ 10 ∷ bytes))) split.0
    ∙ comment-rest closed decimals slots values place text (taken + length prefix + 1) [] bytes split.1 (omega arith)
    ∙ ap (λ (n : ℕ). reply_in closed (at decimals slots values place false n) (words_of [] bytes)) {x = taken + length prefix + 1 + 0 + length text + 1} {y = taken + length prefix + length (b ∷ text) + 1} (omega arith))
    (λ e.
    let longer = length-append prefix (b ∷ []) in
    let means_still : class_of ((prefix ++ b ∷ []) ++ before_first is_blank text) ≡ class.Comment =
    ap class_of (append_assoc prefix (b ∷ []) (before_first is_blank text) ∙ ap (λ (t : List ℕ). prefix ++ t) (sym (prefix-other b text e))) ∙ means in
    rw e (comment-first closed decimals slots values place text taken (prefix ++ b ∷ []) bytes means_still split.1 (omega arith))
    ∙ ap (λ (n : ℕ). reply_in closed (at decimals slots values place false n) (words_of [] bytes)) {x = taken + length (prefix ++ b ∷ []) + length text + 1} {y = taken + length prefix + length (b ∷ text) + 1} (omega arith))

-- ---- what stands between values

filler-passed : (closed : Bool) (decimals : ℕ) (slots : List Slot) (values : List Value) (place taken : ℕ) (part : Filler) (bytes : List ℕ) → IsFiller part → taken + length (filler_text part) ≤ longest
    → reply_in closed (at decimals slots values place false taken) (words_of [] (filler_text part ++ bytes))
    ≡ reply_in closed (at decimals slots values place false (taken + length (filler_text part))) (words_of [] bytes)
unfolding class_of
filler-passed closed decimals slots values place taken (blank b) bytes is short =
    word-on closed (at decimals slots values place false taken) [] b bytes is (omega arith)
    ∙ ap (λ (n : ℕ). reply_in closed (at decimals slots values place false n) (words_of [] bytes)) {x = taken + 0 + 1} {y = taken + 1} (omega arith)
filler-passed closed decimals slots values place taken (outs b) bytes is short =
    word-on closed (at decimals slots values place false taken) (codes "#outs") b bytes is (omega arith)
    ∙ ap (λ (n : ℕ). reply_in closed (at decimals slots values place false n) (words_of [] bytes)) {x = taken + 5 + 1} {y = taken + 6} (omega arith)
filler-passed closed decimals slots values place taken (comment text) bytes is short =
    let longer = length-append text (10 ∷ []) in
    ap (λ (t : List ℕ). reply_in closed (at decimals slots values place false taken) (words_of [] t)) (append_assoc text (10 ∷ []) bytes)
    ∙ comment-first closed decimals slots values place text taken [] bytes is.0 is.1 (omega arith)
    ∙ ap (λ (n : ℕ). reply_in closed (at decimals slots values place false n) (words_of [] bytes)) {x = taken + 0 + length text + 1} {y = taken + length (text ++ 10 ∷ [])} (omega arith)

gap-passed : (closed : Bool) (decimals : ℕ) (slots : List Slot) (values : List Value) (place : ℕ) (gap : List Filler) (taken : ℕ) (bytes : List ℕ) → AreFillers gap → taken + length (gap_text gap) ≤ longest
    → reply_in closed (at decimals slots values place false taken) (words_of [] (gap_text gap ++ bytes))
    ≡ reply_in closed (at decimals slots values place false (taken + length (gap_text gap))) (words_of [] bytes)
gap-passed closed decimals slots values place [] taken bytes are short =
    ap (λ (n : ℕ). reply_in closed (at decimals slots values place false n) (words_of [] bytes)) {x = taken} {y = taken + 0} (omega arith)
gap-passed closed decimals slots values place (part ∷ gap) taken bytes are short =
    let longer = length-append (filler_text part) (gap_text gap) in
    ap (λ (t : List ℕ). reply_in closed (at decimals slots values place false taken) (words_of [] t)) (append_assoc (filler_text part) (gap_text gap) bytes)
    ∙ filler-passed closed decimals slots values place taken part (gap_text gap ++ bytes) are.0 (omega arith)
    ∙ gap-passed closed decimals slots values place gap (taken + length (filler_text part)) bytes are.1 (omega arith)
    ∙ ap (λ (n : ℕ). reply_in closed (at decimals slots values place false n) (words_of [] bytes)) {x = taken + length (filler_text part) + length (gap_text gap)} {y = taken + length (filler_text part ++ gap_text gap)} (omega arith)

-- ---- values

field-read : (closed : Bool) (decimals : ℕ) (slot : Slot) (slots : List Slot) (values : List Value) (place taken : ℕ) (f : Field) (v : Value) (bytes : List ℕ)
    → IsField f → judged decimals slot f.word ≡ Ok v → taken + length (field_text f) ≤ longest
    → reply_in closed (at decimals (slot ∷ slots) values place false taken) (words_of [] (field_text f ++ bytes))
    ≡ go_on (filled (at decimals (slot ∷ slots) values place false (taken + length (gap_text f.gap))) f.word slots (with_value values slot v))
    (record { place = place + (taken + length (gap_text f.gap)) + length f.word + 1; bytes = bytes; is_closed = closed }) (λ q. reply_in closed q (words_of [] bytes))
field-read closed decimals slot slots values place taken f v bytes is judges short =
    let gap = gap_text f.gap in
    let before = taken + length gap in
    let longer = length-append (gap ++ f.word) (f.blank ∷ []) in
    let long = length-append gap f.word in
    let after : Stream = record { place = place + before + length f.word + 1; bytes = bytes; is_closed = closed } in
    let start = at decimals (slot ∷ slots) values place false before in
    ap (λ (t : List ℕ). reply_in closed (at decimals (slot ∷ slots) values place false taken) (words_of [] t))
    (append_assoc (gap ++ f.word) (f.blank ∷ []) bytes ∙ append_assoc gap f.word (f.blank ∷ bytes))
    ∙ gap-passed closed decimals (slot ∷ slots) values place f.gap taken (f.word ++ f.blank ∷ bytes) is.gap (omega arith)
    ∙ ap (reply_in closed start) (words_run [] f.word (f.blank ∷ bytes) is.word)
    ∙ word-on closed start f.word f.blank bytes is.blank (omega arith)
    ∙ ap (λ (m : WordClass). go_on (with_class start f.word (f.blank == 10) m) after (λ q. reply_in closed q (words_of [] bytes))) is.class
    ∙ ap (λ (j : Result Value ValueFault). go_on (with_judged start f.word slot slots j) after (λ q. reply_in closed q (words_of [] bytes))) judges

-- the values that are kept so far, and those that come
with-kept : (slot : Slot) (values : List Value) (v : Value) (more : List Value) → with_value values slot v ++ more ≡ values ++ (if slot.keep then v ∷ more else more)
with-kept slot values v more =
    either slot.keep
    (λ e. rw e (append_assoc values (v ∷ []) more))
    (λ e. rw e refl)

fields-read : (closed : Bool) (decimals : ℕ) (place : ℕ) (slot : Slot) (slots : List Slot) (values : List Value) (taken : ℕ) (f : Field) (fields : List Field) (v : Value) (written : List Value) (rest : List ℕ)
    → Writes decimals (slot ∷ slots) (f ∷ fields) (v ∷ written) → taken + length (fields_text (f ∷ fields)) ≤ longest
    → reply_in closed (at decimals (slot ∷ slots) values place false taken) (words_of [] (fields_text (f ∷ fields) ++ rest))
    ≡ whole (values ++ kept (slot ∷ slots) (v ∷ written)) (record { place = place + taken + length (fields_text (f ∷ fields)); bytes = rest; is_closed = closed })
fields-read closed decimals place slot [] values taken f [] v [] rest writes short =
    let gap = gap_text f.gap in
    let longer = length-append (gap ++ f.word) (f.blank ∷ []) in
    let long = length-append gap f.word in
    let alone : fields_text (f ∷ []) ≡ field_text f = append-nil (field_text f) in
    let count : length (fields_text (f ∷ [])) ≡ length (field_text f) = ap (λ (t : List ℕ). length t) alone in
    ap (λ (t : List ℕ). reply_in closed (at decimals (slot ∷ []) values place false taken) (words_of [] (t ++ rest))) alone
    ∙ field-read closed decimals slot [] values place taken f v rest writes.0 writes.1 (omega arith)
    ∙ (λ i. whole ((sym (append-nil (with_value values slot v)) ∙ with-kept slot values v []) i)
    (record { place = let e : place + (taken + length gap) + length f.word + 1 ≡ place + taken + length (fields_text (f ∷ [])) = omega arith in e i; bytes = rest; is_closed = closed }))
fields-read closed decimals place slot (next ∷ slots) values taken f (g ∷ fields) v (w ∷ written) rest writes short =
    let gap = gap_text f.gap in
    let longer = length-append (gap ++ f.word) (f.blank ∷ []) in
    let long = length-append gap f.word in
    let all = length-append (field_text f) (fields_text (g ∷ fields)) in
    let after = fields_text (g ∷ fields) ++ rest in
    ap (λ (t : List ℕ). reply_in closed (at decimals (slot ∷ next ∷ slots) values place false taken) (words_of [] t)) (append_assoc (field_text f) (fields_text (g ∷ fields)) rest)
    ∙ field-read closed decimals slot (next ∷ slots) values place taken f v after writes.0 writes.1 (omega arith)
    ∙ fields-read closed decimals place next slots (with_value values slot v) (taken + length gap + length f.word + 1) g fields w written rest writes.2 (omega arith)
    ∙ (λ i. whole (with-kept slot values v (kept (next ∷ slots) (w ∷ written)) i)
    (record { place = let e : place + (taken + length gap + length f.word + 1) + length (fields_text (g ∷ fields)) ≡ place + taken + length (fields_text (f ∷ g ∷ fields)) = omega arith in e i; bytes = rest; is_closed = closed }))
fields-read closed decimals place slot slots values taken f fields v written rest writes short = absurd writes.2

pub spelling_is_read : SpellingIsRead
spelling_is_read decimals place [] [] [] rest closed writes short = λ i. whole [] (record { place = let e : place ≡ place + 0 = omega arith in e i; bytes = rest; is_closed = closed })
spelling_is_read decimals place (slot ∷ slots) (f ∷ fields) (v ∷ values) rest closed writes short =
    fields-read closed decimals place slot slots [] 0 f fields v values rest writes (omega (arith, short))
    ∙ (λ i. whole (kept (slot ∷ slots) (v ∷ values)) (record { place = let e : place + 0 + length (fields_text (f ∷ fields)) ≡ place + length (fields_text (f ∷ fields)) = omega arith in e i; bytes = rest; is_closed = closed }))
spelling_is_read decimals place slots fields values rest closed writes short = absurd writes

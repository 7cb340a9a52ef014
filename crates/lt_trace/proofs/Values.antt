-- Values of which words are written.
use Rattle.std.proofs.Common.{◌≡◌, ℕ, ◌≤◌, true, false, List, [], ◌∷◌, ◌++◌, None, Some, Ok, Err, Option, Result, subst, codes, ℤ, pos, refl, ap, sym, ◌∙◌, append_assoc, append-nil, unsigned_abs, nat_le}
use Rattle.std.specs.List.{flat_map, list_any}
use Rattle.std.specs.Str.{bytes_eq}
use Rattle.std.proofs.lemmas.Bool.{leb-true}
use Rattle.std.proofs.lemmas.Bool.Decides.{Decides-eqb}
use Rattle.std.proofs.lemmas.Slice.Eq.{bytes_eq-Decides}
use Rattle.lt_num.specs.Bounds.{most_decimals, most_raw}
use Rattle.lt_num.specs.Value.{raw_of, value_of}
use Rattle.lt_num.specs.declared.kind.Kind.{Kind}
use Rattle.lt_num.specs.declared.kind.Kind.TheVariants as kind
use Rattle.lt_num.specs.declared.value.Value.{Value}
use Rattle.lt_rif.specs.Judgement.{bounded_raw, in_slot, is_within, judged}
use Rattle.lt_rif.specs.Number.{is_false_word, is_true_word, raw_written, truth_written}
use Rattle.lt_rif.specs.ReadBack.{Holds, HoldAll, ValueReadsBack, kinds_of}
use Rattle.lt_rif.specs.Trace.{local_text, local_words, value_text, value_words}
use Rattle.lt_rif.specs.Word.{is_blank}
use Rattle.lt_rif.specs.declared.fault.ValueFault.{ValueFault}
use Rattle.lt_rif.specs.declared.slot.Slot.{Slot}
use Rattle.lt_trace.specs.Shape.{HoldLocal, HoldLocals}
use Rattle.lt_trace.specs.inner.Words.{checked, cut, exact, exact_local, is_space, on_some, on_word, read_locals, read_values}
use Rattle.lt_trace.proofs.Words.{either, cut-back, cut-word}

-- ---- one value

-- the raw number of a truth is that of its value
truth-raw : (word : List ℕ) (raw : ℤ) → truth_written word ≡ Some raw → raw_of (value_of kind.Bool raw) ≡ raw
truth-raw word raw e =
    either (is_true_word word)
    (λ t. let f : Some (pos 1) ≡ Some raw = rw t at e in let g : pos 1 ≡ raw = cc in rw (← g) refl)
    (λ t.
    let f = rw t at e in
    either (is_false_word word)
    (λ u. let h : Some (pos 0) ≡ Some raw = rw u at f in let g : pos 0 ≡ raw = cc in rw (← g) refl)
    (λ u. absurd (let h = rw u at f in cc)))

raw-back : (decimals : ℕ) (k : Kind) (word : List ℕ) (raw : ℤ) → raw_written decimals k word ≡ Some raw → raw_of (value_of k raw) ≡ raw
unfolding raw_written
raw-back decimals kind.Bool word raw e = truth-raw word raw e
raw-back decimals kind.Int word raw e = refl
raw-back decimals kind.Real word raw e = refl

-- what is judged to be a value may be held
in-slot : (slot : Slot) (raw : ℤ) (v : Value) → raw_of (value_of slot.kind raw) ≡ raw → in_slot slot (bounded_raw (Some raw)) ≡ Ok v → Holds slot v
in-slot slot raw v same e =
    either (nat_le (unsigned_abs raw) most_raw)
    (λ t.
    let f = rw t at e in
    either (is_within slot.range raw)
    (λ u.
    let g : Ok (value_of slot.kind raw) ≡ Ok v = rw u at f in
    let is : value_of slot.kind raw ≡ v = cc in
    let raw_is : raw_of v ≡ raw = ap raw_of (sym is) ∙ same in
    record { kind = rw raw_is is; bound = rw raw_is (leb-true (unsigned_abs raw) most_raw t); range = rw raw_is u })
    (λ u. absurd (let g = rw u at f in cc)))
    (λ t. absurd (let f = rw t at e in cc))

judged-step : (decimals : ℕ) (slot : Slot) (word : List ℕ) (v : Value) (o : Option ℤ) → raw_written decimals slot.kind word ≡ o → in_slot slot (bounded_raw o) ≡ Ok v → Holds slot v
judged-step decimals slot word v None e f = absurd (cc)
judged-step decimals slot word v (Some raw) e f = in-slot slot raw v (raw-back decimals slot.kind word raw e) f

judged-holds : (decimals : ℕ) (slot : Slot) (word : List ℕ) (v : Value) → judged decimals slot word ≡ Ok v → Holds slot v
unfolding judged
judged-holds decimals slot word v e = judged-step decimals slot word v (raw_written decimals slot.kind word) refl e

checked-back : (decimals : ℕ) (slot : Slot) (word : List ℕ) (v : Value) (r : Result Value ValueFault) → judged decimals slot word ≡ r → checked decimals slot word r ≡ Some v → Holds slot v × (word ≡ value_text decimals slot.kind v)
checked-back decimals slot word v (Err f) e g = absurd (cc)
checked-back decimals slot word v (Ok u) e g =
    either (bytes_eq word (value_text decimals slot.kind u))
    (λ t.
    let h : Some u ≡ Some v = rw t at g in
    let is : u ≡ v = cc in
    (judged-holds decimals slot word v (e ∙ ap (λ (w : Value). Ok w) is), (bytes_eq-Decides _ _).0 t ∙ ap (λ (w : Value). value_text decimals slot.kind w) is))
    (λ t. absurd (let h = rw t at g in cc))

exact-back : (decimals : ℕ) (slot : Slot) (word : List ℕ) (v : Value) → exact decimals slot word ≡ Some v → Holds slot v × (word ≡ value_text decimals slot.kind v)
exact-back decimals slot word v e = checked-back decimals slot word v (judged decimals slot word) refl e

same-bytes : (xs : List ℕ) → bytes_eq xs xs ≡ true
same-bytes xs = (bytes_eq-Decides xs xs).1 refl

exact-on : ValueReadsBack → (decimals : ℕ) (slot : Slot) (v : Value) → decimals ≤ most_decimals → Holds slot v → exact decimals slot (value_text decimals slot.kind v) ≡ Some v
exact-on law decimals slot v few holds =
    let back = (law decimals slot v few holds).0 in
    rw back (rw (same-bytes (value_text decimals slot.kind v)) refl)

-- ---- words without spaces

-- what has no blank has no space
space-blank : (b : ℕ) → is_blank b ≡ false → is_space b ≡ false
space-blank b none = either (is_space b) (λ t. absurd (let byte : b ≡ 32 = (Decides-eqb b 32).0 t in let f = rw byte at none in cc)) (λ t. t)

no-space : (word : List ℕ) → list_any is_blank word ≡ false → list_any is_space word ≡ false
no-space [] none = refl
no-space (b ∷ word) none =
    either (is_blank b)
    (λ t. absurd (let f = rw t at none in cc))
    (λ t. let f = rw t at none in rw (space-blank b t) (no-space word f))

-- ---- values in turn

-- a space behind each word
abbrev pub before_space : List (List ℕ) → List ℕ
before_space words = flat_map (λ word. word ++ 32 ∷ []) words

pub values-on : ValueReadsBack → (decimals : ℕ) → decimals ≤ most_decimals → (slots : List Slot) (values : List Value) → HoldAll slots values → (rest : List ℕ) (done : List Value)
    → read_values decimals slots (before_space (value_words decimals (kinds_of slots) values) ++ rest) done ≡ Some (done ++ values, rest)
values-on law decimals few [] [] holds rest done = rw (append-nil done) refl
values-on law decimals few [] (v ∷ values) holds rest done = absurd holds
values-on law decimals few (slot ∷ slots) [] holds rest done = absurd holds
values-on law decimals few (slot ∷ slots) (v ∷ values) holds rest done =
    let word = value_text decimals slot.kind v in
    let more = before_space (value_words decimals (kinds_of slots) values) in
    let none = no-space word (law decimals slot v few holds.0).1 in
    let text : ((word ++ 32 ∷ []) ++ more) ++ rest ≡ word ++ 32 ∷ (more ++ rest) = append_assoc (word ++ 32 ∷ []) more rest ∙ append_assoc word (32 ∷ []) (more ++ rest) in
    ap (λ (t : List ℕ). read_values decimals (slot ∷ slots) t done) text
    ∙ ap (λ (o : Option (List ℕ × List ℕ)). on_word o (λ w r. on_some (exact decimals slot w) (λ u. read_values decimals slots r (done ++ u ∷ [])))) (cut-word word (more ++ rest) none)
    ∙ ap (λ (o : Option Value). on_some o (λ u. read_values decimals slots (more ++ rest) (done ++ u ∷ []))) (exact-on law decimals slot v few holds.0)
    ∙ values-on law decimals few slots values holds.1 rest (done ++ v ∷ [])
    ∙ ap (λ (t : List Value). Some (t, rest)) (append_assoc done (v ∷ []) values)

-- what values are read, and of which text
pub record Read (decimals : ℕ) (slots : List Slot) (text : List ℕ) (done out : List Value) (rest : List ℕ) : Type 0 where
  pub values : List Value
  pub out_is : out ≡ done ++ values
  pub holds : HoldAll slots values
  pub text_is : text ≡ before_space (value_words decimals (kinds_of slots) values) ++ rest

values_in : Option (List Value × List ℕ) → List Value
values_in None = []
values_in (Some x) = x.0

rest_in : Option (List Value × List ℕ) → List ℕ
rest_in None = []
rest_in (Some x) = x.1

-- one more value in front
read-more : (decimals : ℕ) (slot : Slot) (slots : List Slot) (text word behind : List ℕ) (v : Value) (done out : List Value) (rest : List ℕ) → text ≡ word ++ 32 ∷ behind → Holds slot v → word ≡ value_text decimals slot.kind v → Read decimals slots behind (done ++ v ∷ []) out rest → Read decimals (slot ∷ slots) text done out rest
read-more decimals slot slots text word behind v done out rest text_is holds word_is more =
    let tail = before_space (value_words decimals (kinds_of slots) more.values) in
    record {
      values = v ∷ more.values;
      out_is = more.out_is ∙ append_assoc done (v ∷ []) more.values;
      holds = (holds, more.holds);
      text_is =
          text_is
          ∙ ap (λ (t : List ℕ). t ++ 32 ∷ behind) word_is
          ∙ ap (λ (t : List ℕ). value_text decimals slot.kind v ++ 32 ∷ t) more.text_is
          ∙ sym (append_assoc (value_text decimals slot.kind v ++ 32 ∷ []) tail rest ∙ append_assoc (value_text decimals slot.kind v) (32 ∷ []) (tail ++ rest));
    }

pub values-back : (decimals : ℕ) (slots : List Slot) (text : List ℕ) (done out : List Value) (rest : List ℕ) → read_values decimals slots text done ≡ Some (out, rest) → Read decimals slots text done out rest
unfolding values_in rest_in
values-back decimals [] text done out rest e =
    let values : done ≡ out = ap values_in e in
    let text_is : text ≡ rest = ap rest_in e in
    record { values = []; out_is = sym values ∙ sym (append-nil done); holds = tt; text_is = text_is }
values-back decimals (slot ∷ slots) text done out rest e =
    elim (cut text) as (λ o. cut text ≡ o → on_word o (λ w r. on_some (exact decimals slot w) (λ u. read_values decimals slots r (done ++ u ∷ []))) ≡ Some (out, rest) → Read decimals (slot ∷ slots) text done out rest) [
      | None ↦ λ f g. absurd (cc)
      | Some x ↦ λ f g.
          elim (exact decimals slot x.0) as (λ o. exact decimals slot x.0 ≡ o → on_some o (λ u. read_values decimals slots x.1 (done ++ u ∷ [])) ≡ Some (out, rest) → Read decimals (slot ∷ slots) text done out rest) [
            | None ↦ λ h k. absurd (cc)
            | Some v ↦ λ h k.
                let one = exact-back decimals slot x.0 v h in
                read-more decimals slot slots text x.0 x.1 v done out rest (cut-back text x.0 x.1 f) one.0 one.1 (values-back decimals slots x.1 (done ++ v ∷ []) out rest k)
          ] refl g
    ] refl e

-- ---- locals

-- the mark of a local out of scope is no value's word
mark-unwritten : (decimals : ℕ) (k : Kind) → raw_written decimals k (codes "?") ≡ None
unfolding raw_written
mark-unwritten decimals kind.Bool = refl
mark-unwritten decimals kind.Int = refl
mark-unwritten decimals kind.Real = refl

mark-unjudged : (decimals : ℕ) (slot : Slot) (v : Value) → judged decimals slot (codes "?") ≡ Ok v → ⊥
unfolding judged
mark-unjudged decimals slot v e = let f = rw (mark-unwritten decimals slot.kind) at e in cc

no-mark : ValueReadsBack → (decimals : ℕ) (slot : Slot) (v : Value) → decimals ≤ most_decimals → Holds slot v → bytes_eq (value_text decimals slot.kind v) (codes "?") ≡ false
no-mark law decimals slot v few holds =
    either (bytes_eq (value_text decimals slot.kind v) (codes "?"))
    (λ t.
    let same : value_text decimals slot.kind v ≡ codes "?" = (bytes_eq-Decides _ _).0 t in
    absurd (mark-unjudged decimals slot v (ap (λ (w : List ℕ). judged decimals slot w) (sym same) ∙ (law decimals slot v few holds).0)))
    (λ t. t)

local-on : ValueReadsBack → (decimals : ℕ) (slot : Slot) (o : Option Value) → decimals ≤ most_decimals → HoldLocal slot o → (exact_local decimals slot (local_text decimals slot.kind o) ≡ Some o) × (list_any is_space (local_text decimals slot.kind o) ≡ false)
local-on law decimals slot None few holds = (refl, refl)
local-on law decimals slot (Some v) few holds = (
  rw (no-mark law decimals slot v few holds) (ap (λ (o : Option Value). on_some o (λ u. Some (Some u))) (exact-on law decimals slot v few holds)),
  no-space (value_text decimals slot.kind v) (law decimals slot v few holds).1,
)

local-back : (decimals : ℕ) (slot : Slot) (word : List ℕ) (o : Option Value) → exact_local decimals slot word ≡ Some o → HoldLocal slot o × (word ≡ local_text decimals slot.kind o)
local-back decimals slot word o e =
    either (bytes_eq word (codes "?"))
    (λ t.
    let f : Some None ≡ Some o = rw t at e in
    let is : None ≡ o = cc in
    subst (λ (p : Option Value). HoldLocal slot p × (word ≡ local_text decimals slot.kind p)) is (tt, (bytes_eq-Decides _ _).0 t))
    (λ t.
    let f : on_some (exact decimals slot word) (λ u. Some (Some u)) ≡ Some o = rw t at e in
    elim (exact decimals slot word) as (λ p. exact decimals slot word ≡ p → on_some p (λ u. Some (Some u)) ≡ Some o → HoldLocal slot o × (word ≡ local_text decimals slot.kind o)) [
      | None ↦ λ g h. absurd (cc)
      | Some v ↦ λ g h. let is : Some v ≡ o = cc in subst (λ (p : Option Value). HoldLocal slot p × (word ≡ local_text decimals slot.kind p)) is (exact-back decimals slot word v g)
    ] refl f)

pub locals-on : ValueReadsBack → (decimals : ℕ) → decimals ≤ most_decimals → (slots : List Slot) (locals : List (Option Value)) → HoldLocals slots locals → (rest : List ℕ) (done : List (Option Value))
    → read_locals decimals slots (before_space (local_words decimals (kinds_of slots) locals) ++ rest) done ≡ Some (done ++ locals, rest)
locals-on law decimals few [] [] holds rest done = rw (append-nil done) refl
locals-on law decimals few [] (v ∷ locals) holds rest done = absurd holds
locals-on law decimals few (slot ∷ slots) [] holds rest done = absurd holds
locals-on law decimals few (slot ∷ slots) (v ∷ locals) holds rest done =
    let word = local_text decimals slot.kind v in
    let more = before_space (local_words decimals (kinds_of slots) locals) in
    let one = local-on law decimals slot v few holds.0 in
    let text : ((word ++ 32 ∷ []) ++ more) ++ rest ≡ word ++ 32 ∷ (more ++ rest) = append_assoc (word ++ 32 ∷ []) more rest ∙ append_assoc word (32 ∷ []) (more ++ rest) in
    ap (λ (t : List ℕ). read_locals decimals (slot ∷ slots) t done) text
    ∙ ap (λ (o : Option (List ℕ × List ℕ)). on_word o (λ w r. on_some (exact_local decimals slot w) (λ u. read_locals decimals slots r (done ++ u ∷ [])))) (cut-word word (more ++ rest) one.1)
    ∙ ap (λ (o : Option (Option Value)). on_some o (λ u. read_locals decimals slots (more ++ rest) (done ++ u ∷ []))) one.0
    ∙ locals-on law decimals few slots locals holds.1 rest (done ++ v ∷ [])
    ∙ ap (λ (t : List (Option Value)). Some (t, rest)) (append_assoc done (v ∷ []) locals)

pub record ReadLocals (decimals : ℕ) (slots : List Slot) (text : List ℕ) (done out : List (Option Value)) (rest : List ℕ) : Type 0 where
  pub locals : List (Option Value)
  pub out_is : out ≡ done ++ locals
  pub holds : HoldLocals slots locals
  pub text_is : text ≡ before_space (local_words decimals (kinds_of slots) locals) ++ rest

locals_in : Option (List (Option Value) × List ℕ) → List (Option Value)
locals_in None = []
locals_in (Some x) = x.0

rest_of : Option (List (Option Value) × List ℕ) → List ℕ
rest_of None = []
rest_of (Some x) = x.1

read-one : (decimals : ℕ) (slot : Slot) (slots : List Slot) (text word behind : List ℕ) (v : Option Value) (done out : List (Option Value)) (rest : List ℕ) → text ≡ word ++ 32 ∷ behind → HoldLocal slot v → word ≡ local_text decimals slot.kind v → ReadLocals decimals slots behind (done ++ v ∷ []) out rest → ReadLocals decimals (slot ∷ slots) text done out rest
read-one decimals slot slots text word behind v done out rest text_is holds word_is more =
    let tail = before_space (local_words decimals (kinds_of slots) more.locals) in
    record {
      locals = v ∷ more.locals;
      out_is = more.out_is ∙ append_assoc done (v ∷ []) more.locals;
      holds = (holds, more.holds);
      text_is =
          text_is
          ∙ ap (λ (t : List ℕ). t ++ 32 ∷ behind) word_is
          ∙ ap (λ (t : List ℕ). local_text decimals slot.kind v ++ 32 ∷ t) more.text_is
          ∙ sym (append_assoc (local_text decimals slot.kind v ++ 32 ∷ []) tail rest ∙ append_assoc (local_text decimals slot.kind v) (32 ∷ []) (tail ++ rest));
    }

pub locals-back : (decimals : ℕ) (slots : List Slot) (text : List ℕ) (done out : List (Option Value)) (rest : List ℕ) → read_locals decimals slots text done ≡ Some (out, rest) → ReadLocals decimals slots text done out rest
unfolding locals_in rest_of
locals-back decimals [] text done out rest e =
    let locals : done ≡ out = ap locals_in e in
    let text_is : text ≡ rest = ap rest_of e in
    record { locals = []; out_is = sym locals ∙ sym (append-nil done); holds = tt; text_is = text_is }
locals-back decimals (slot ∷ slots) text done out rest e =
    elim (cut text) as (λ o. cut text ≡ o → on_word o (λ w r. on_some (exact_local decimals slot w) (λ u. read_locals decimals slots r (done ++ u ∷ []))) ≡ Some (out, rest) → ReadLocals decimals (slot ∷ slots) text done out rest) [
      | None ↦ λ f g. absurd (cc)
      | Some x ↦ λ f g.
          elim (exact_local decimals slot x.0) as (λ o. exact_local decimals slot x.0 ≡ o → on_some o (λ u. read_locals decimals slots x.1 (done ++ u ∷ [])) ≡ Some (out, rest) → ReadLocals decimals (slot ∷ slots) text done out rest) [
            | None ↦ λ h k. absurd (cc)
            | Some v ↦ λ h k.
                let one = local-back decimals slot x.0 v h in
                read-one decimals slot slots text x.0 x.1 v done out rest (cut-back text x.0 x.1 f) one.0 one.1 (locals-back decimals slots x.1 (done ++ v ∷ []) out rest k)
          ] refl g
    ] refl e

-- Which forms texts spell.
use Rattle.std.proofs.Common.{◌≡◌, ◌≢◌, ℕ, suc, ◌-◌, cond, add-one, ◌+◌, ◌^◌, ◌<◌, ◌≤◌, ◌==◌, Bool, true, false, not, IsTrue, List, [], ◌∷◌, ◌++◌, length, length-append, take, drop, map, Option, Some, None, ℤ, pos, refl, ap, sym, ◌∙◌, subst, arith, if◌then◌else◌, append_assoc, append-nil}
use Rattle.std.specs.Char.{is_ascii_digit}
use Rattle.std.specs.List.{list_all, position_or_len}
use Rattle.std.specs.Ordering.{int_eq}
use Rattle.std.specs.Prelude.{MatchOption, nat_le, neg_ℤ, position, Ok}
use Rattle.std.specs.Str.Parse.{digits_value, starts_with_minus}
use Rattle.std.proofs.lemmas.Bool.{eqb-true}
use Rattle.std.proofs.lemmas.Bool.Decides.{nat_tests}
use Rattle.std.proofs.lemmas.Grind.{common_steps}
use Rattle.std.proofs.lemmas.List.{map-append}
use Rattle.std.proofs.lemmas.List.Folds.{list_all-append}
use Rattle.lt_num.specs.Literal.{without_minus}
use Rattle.lt_num.specs.Rounding.{with_sign}
use Rattle.lt_linear.specs.Form.{Term, is_bounded}
use Rattle.lt_linear.specs.FormText.{any_number, are_digits, SpellsForm, SpellsNumber, SpellsSum, SpellsTerm, TextsSpellOne, whole_value}
use Rattle.lt_linear.specs.Order.{are_in_order}
use Rattle.lt_linear.specs.declared.form.Form.{Form}
use Rattle.lt_linear.specs.inner.Parsing.{BeginsWith, capped, capped_form, capped_term, IsCut, lacks, ReadsText, SizeTells, SpellsCapped, SpellsFrom, SpellsNone, SpellsNoTerm, Stands, VariableTells, WholeTells}
use Rattle.lt_linear.proofs.Mergings.{both_hold}
use Rattle.lt_linear.proofs.Numerals.{capped_sign, capped_zero, digits_all, form_is_bounded, form_same, isnt_zero}
use Rattle.lt_linear.proofs.Ordered.{few_terms, least_of, left_of, le_true, rest_of, right_of}

-- ---- texts that lack a byte

lacked : (byte : ℕ) (xs ys : List ℕ) → IsTrue (lacks byte (xs ++ byte ∷ ys)) → ⊥
lacked byte [] ys h = let e = left_of (not (byte == byte)) _ h in grind (arith, nat_tests)
lacked byte (x ∷ xs) ys h = lacked byte xs ys (right_of (not (x == byte)) _ h)

-- a text that lacks a byte isn't cut at it
pub no_cut : (byte : ℕ) (text xs ys : List ℕ) → IsTrue (lacks byte text) → text ≡ xs ++ byte ∷ ys → ⊥
no_cut byte text xs ys h e = lacked byte xs ys (subst (λ (bs : List ℕ). IsTrue (lacks byte bs)) e h)

other_byte : (byte y : ℕ) (ys : List ℕ) → IsTrue (lacks byte (y ∷ ys)) → byte ≡ y → ⊥
other_byte byte y ys h e = let f = left_of (not (y == byte)) _ h in grind (arith, nat_tests)

-- it is cut at its first byte of these alone
pub one_cut : (byte : ℕ) (xs ys us vs : List ℕ) → IsTrue (lacks byte xs) → IsTrue (lacks byte ys) → xs ++ byte ∷ us ≡ ys ++ byte ∷ vs → (xs ≡ ys) × (us ≡ vs)
one_cut byte [] [] us vs h k e = (refl, cc (e))
one_cut byte [] (y ∷ ys) us vs h k e = absurd (other_byte byte y ys k (cc (e)))
one_cut byte (x ∷ xs) [] us vs h k e = absurd (other_byte byte x xs h (cc (e)))
one_cut byte (x ∷ xs) (y ∷ ys) us vs h k e =
    let rest = one_cut byte xs ys us vs (right_of (not (x == byte)) _ h) (right_of (not (y == byte)) _ k) (cc (e)) in
    let head : x ≡ y = cc (e) in
    (λ i. head i ∷ rest.0 i, rest.1)

-- ---- what has no blank and no asterisk

digit_lacks : (byte d : ℕ) → is_ascii_digit byte ≡ false → IsTrue (is_ascii_digit d) → IsTrue (not (d == byte))
digit_lacks byte d n h = by (d == byte) refl
  where
    by : (b : Bool) → (d == byte) ≡ b → IsTrue (not b)
    by false e = refl
    by true e = absurd (let same : d ≡ byte = eqb-true d byte e in let f : is_ascii_digit byte ≡ true = subst (λ (x : ℕ). is_ascii_digit x ≡ true) same h in cc (n, f))

digits_lack : (byte : ℕ) (ds : List ℕ) → is_ascii_digit byte ≡ false → IsTrue (list_all is_ascii_digit ds) → IsTrue (lacks byte ds)
digits_lack byte [] n h = refl
digits_lack byte (d ∷ ds) n h = both_hold (not (d == byte)) _ (digit_lacks byte d n (left_of (is_ascii_digit d) _ h)) (digits_lack byte ds n (right_of (is_ascii_digit d) _ h))

number_lacks : (byte : ℕ) (text : List ℕ) → is_ascii_digit byte ≡ false → IsTrue (are_digits text) → IsTrue (lacks byte text)
number_lacks byte text n h = digits_lack byte text n (digits_all text h)

whole_lacks : (byte : ℕ) (text : List ℕ) → is_ascii_digit byte ≡ false → IsTrue (not (45 == byte)) → IsTrue (are_digits (without_minus text)) → IsTrue (lacks byte text)
whole_lacks byte [] n m h = refl
whole_lacks byte (b ∷ bs) n m h = by (starts_with_minus (b ∷ bs)) refl h
  where
    by : (c : Bool) → (b == 45) ≡ c → IsTrue (are_digits (if c then bs else b ∷ bs)) → IsTrue (lacks byte (b ∷ bs))
    by false e k = number_lacks byte (b ∷ bs) n k
    by true e k = both_hold (not (b == byte)) _ (let same : b ≡ 45 = eqb-true b 45 e in subst (λ (x : ℕ). IsTrue (not (x == byte))) (sym same) m) (number_lacks byte bs n k)

append_lacks : (byte : ℕ) (xs ys : List ℕ) → IsTrue (lacks byte xs) → IsTrue (lacks byte ys) → IsTrue (lacks byte (xs ++ ys))
append_lacks byte xs ys h k = list_all-append (λ b. not (b == byte)) xs ys ∙ both_hold (lacks byte xs) (lacks byte ys) h k

-- a term has no blank
pub term_lacks : (text : List ℕ) (t : Term) → SpellsTerm text t → IsTrue (lacks 32 text)
term_lacks text t d =
    let behind : IsTrue (lacks 32 (42 ∷ 118 ∷ d.1)) = number_lacks 32 d.1 refl d.4.0 in
    subst (λ (bs : List ℕ). IsTrue (lacks 32 bs)) (sym d.2) (append_lacks 32 d.0 (42 ∷ 118 ∷ d.1) (whole_lacks 32 d.0 refl refl d.3.0) behind)

-- ---- a text spells one form

pub one_term : (text : List ℕ) (t u : Term) → SpellsTerm text t → SpellsTerm text u → t ≡ u
one_term text t u d g =
    let parts = one_cut 42 d.0 g.0 (118 ∷ d.1) (118 ∷ g.1) (whole_lacks 42 d.0 refl refl d.3.0) (whole_lacks 42 g.0 refl refl g.3.0) (sym d.2 ∙ g.2) in
    let variable : d.1 ≡ g.1 = let e = parts.1 in cc (e) in
    let first : t.0 ≡ u.0 = sym d.4.1 ∙ ap (digits_value 10) variable ∙ g.4.1 in
    let second : t.1 ≡ u.1 = sym d.3.1 ∙ ap whole_value parts.0 ∙ g.3.1 in
    λ i. (first i, second i)

one_sum : (text : List ℕ) (ts us : List Term) (k l : ℤ) → SpellsSum text ts k → SpellsSum text us l → (ts ≡ us) × (k ≡ l)
one_sum text [] [] k l d g = (refl, sym d.1 ∙ g.1)
one_sum text [] (u ∷ us) k l d g = absurd (no_cut 32 text g.0 (43 ∷ 32 ∷ g.1) (whole_lacks 32 text refl refl d.0) g.2)
one_sum text (t ∷ ts) [] k l d g = absurd (no_cut 32 text d.0 (43 ∷ 32 ∷ d.1) (whole_lacks 32 text refl refl g.0) d.2)
one_sum text (t ∷ ts) (u ∷ us) k l d g =
    let parts = one_cut 32 d.0 g.0 (43 ∷ 32 ∷ d.1) (43 ∷ 32 ∷ g.1) (term_lacks d.0 t d.3) (term_lacks g.0 u g.3) (sym d.2 ∙ g.2) in
    let behind : d.1 ≡ g.1 = let e = parts.1 in cc (e) in
    let head = one_term g.0 t u (subst (λ (bs : List ℕ). SpellsTerm bs t) parts.0 d.3) g.3 in
    let rest = one_sum g.1 ts us k l (subst (λ (bs : List ℕ). SpellsSum bs ts k) behind d.4) g.4 in
    (λ i. head i ∷ rest.0 i, rest.1)

pub one_form : TextsSpellOne
one_form text a b d g = let e = one_sum text a.terms b.terms a.constant b.constant d.0 g.0 in λ i. record { terms = e.0 i; constant = e.1 i }

-- ---- a text by its first term

-- what is spelled by a text with a blank, by its first word and what is after it
pub record IsOpened (word behind : List ℕ) (least : ℕ) : Type 0 where
  pub term : Term
  pub rest : List ℕ
  pub terms : List Term
  pub constant : ℤ
  pub spells : SpellsTerm word term
  pub parts : behind ≡ 43 ∷ 32 ∷ rest
  pub from : least ≤ term.0
  pub below : term.0 < 2 ^ 32
  pub some : IsTrue (not (int_eq term.1 (pos 0)))
  pub others : SpellsFrom (term.0 + 1) rest terms constant

not_zero_of : (n : ℕ) (t : Term) (ts : List Term) → IsTrue (are_in_order any_number n (2 ^ 32) (t ∷ ts)) → IsTrue (not (int_eq t.1 (pos 0)))
not_zero_of n t ts h = left_of (not (int_eq t.1 (pos 0))) _ (right_of (nat_le n t.0) _ h)

pub opened : (word behind : List ℕ) (least : ℕ) (ts : List Term) (k : ℤ) → IsTrue (lacks 32 word) → SpellsFrom least (word ++ 32 ∷ behind) ts k → IsOpened word behind least
opened word behind least [] k h d = absurd (no_cut 32 (word ++ 32 ∷ behind) word behind (whole_lacks 32 (word ++ 32 ∷ behind) refl refl d.0.0) refl)
opened word behind least (t ∷ ts) k h d =
    let g = d.0 in
    let cuts = one_cut 32 word g.0 behind (43 ∷ 32 ∷ g.1) h (term_lacks g.0 t g.3) g.2 in
    let order = rest_of any_number least (2 ^ 32) t ts d.1 in
    let few = few_terms any_number (t.0 + 1) (2 ^ 32) ts order in
    record {
      term = t;
      rest = g.1;
      terms = ts;
      constant = k;
      spells = subst (λ (bs : List ℕ). SpellsTerm bs t) (sym cuts.0) g.3;
      parts = cuts.1;
      from = least_of any_number least (2 ^ 32) t ts d.1;
      below = omega (arith, few);
      some = not_zero_of least t ts d.1;
      others = (g.4, order);
    }

-- there is none where the word is no term, ..
pub no_term : (word behind : List ℕ) (least : ℕ) → IsTrue (lacks 32 word) → SpellsNoTerm word → SpellsNone least (word ++ 32 ∷ behind)
no_term word behind least h none ts k d = let o = opened word behind least ts k h d in none o.term o.spells o.below

-- .. where no plus and blank follow, ..
pub no_plus : (word behind : List ℕ) (least : ℕ) → IsTrue (lacks 32 word) → ((rest : List ℕ) → behind ≢ 43 ∷ 32 ∷ rest) → SpellsNone least (word ++ 32 ∷ behind)
no_plus word behind least h none ts k d = let o = opened word behind least ts k h d in none o.rest o.parts

-- .. where the variable is one before, ..
pub no_order : (word behind : List ℕ) (least i : ℕ) (c : ℤ) → IsTrue (lacks 32 word) → SpellsCapped word i c → i < least → SpellsNone least (word ++ 32 ∷ behind)
no_order word behind least i c h s l ts k d =
    let o = opened word behind least ts k h d in
    let same : i ≡ o.term.0 = ap (λ (t : Term). t.0) (one_term word (i, s.0) o.term s.1 o.spells) in
    let from = o.from in
    omega (arith, same, from, l)

-- .. or where the coefficient is 0
pub no_zero : (word behind : List ℕ) (least i : ℕ) (c : ℤ) → IsTrue (lacks 32 word) → SpellsCapped word i c → c ≡ pos 0 → SpellsNone least (word ++ 32 ∷ behind)
no_zero word behind least i c h s z ts k d =
    let o = opened word behind least ts k h d in
    let same : s.0 ≡ o.term.1 = ap (λ (t : Term). t.1) (one_term word (i, s.0) o.term s.1 o.spells) in
    let zero : int_eq s.0 (pos 0) ≡ true = sym (capped_zero s.0) ∙ ap (λ (y : ℤ). int_eq y (pos 0)) (sym s.2 ∙ z) in
    let is : int_eq o.term.1 (pos 0) ≡ true = subst (λ (y : ℤ). int_eq y (pos 0) ≡ true) same zero in
    let f : IsTrue (not true) = subst (λ (b : Bool). IsTrue (not b)) is o.some in
    absurd (cc (f))

-- else it begins with this term
pub begins : (word behind rest : List ℕ) (least i : ℕ) (c : ℤ) → IsTrue (lacks 32 word) → SpellsCapped word i c → behind ≡ 43 ∷ 32 ∷ rest → least ≤ i → c ≢ pos 0 → BeginsWith least (word ++ 32 ∷ behind) i c rest
begins word behind rest least i c h s e l z =
    record {
      whole = s.0;
      cut_to = s.2;
      forth = λ ts k d. ((word, rest, ap (λ (bs : List ℕ). word ++ 32 ∷ bs) e, s.1, d.0), both_hold (nat_le least i) _ (le_true least i l) (both_hold (not (int_eq s.0 (pos 0))) _ (not_zero) d.1));
      back = λ none ts k d.
          let o = opened word behind least ts k h d in
          let same : o.term.0 ≡ i = ap (λ (t : Term). t.0) (one_term word o.term (i, s.0) o.spells s.1) in
          let others : SpellsFrom (i + 1) o.rest o.terms o.constant = subst (λ (n : ℕ). SpellsFrom (n + 1) o.rest o.terms o.constant) same o.others in
          let tail : o.rest ≡ rest = let f = sym o.parts ∙ e in cc (f) in
          none o.terms o.constant (subst (λ (bs : List ℕ). SpellsFrom (i + 1) bs o.terms o.constant) tail others);
      shorter = omega (arith, ap length e, length-append word (32 ∷ behind));
    }
  where
    not_zero : IsTrue (not (int_eq s.0 (pos 0)))
    not_zero = let e = sym (capped_zero s.0) ∙ ap (λ (y : ℤ). int_eq y (pos 0)) (sym s.2) ∙ isnt_zero c z in ap not e

-- ---- a text, term by term

pub stands_first : (text : List ℕ) → Stands text [] 0 text
stands_first text = record { written = []; cut_to = refl; forth = λ ts k d. d; back = λ none. none }

pub stands_next :
    (text old word behind rest : List ℕ) (items more : List Term) (least next i : ℕ) (c : ℤ) →
    old ≡ word ++ 32 ∷ behind → more ≡ items ++ (i, c) ∷ [] → next ≡ i + 1 →
    Stands text items least old → BeginsWith least (word ++ 32 ∷ behind) i c rest → Stands text more next rest
stands_next text old word behind rest items more least next i c e f g stands b =
    let s = subst (λ (bs : List ℕ). Stands text items least bs) e stands in
    subst (λ (n : ℕ). Stands text more n rest) (sym g) (record {
      written = s.written ++ (i, b.whole) ∷ [];
      cut_to = f ∙ (λ j. s.cut_to j ++ (i, b.cut_to j) ∷ []) ∙ sym (map-append capped_term s.written ((i, b.whole) ∷ []));
      forth = λ ts k d. subst (λ (us : List Term). SpellsFrom 0 text us k) (sym (append_assoc s.written ((i, b.whole) ∷ []) ts)) (s.forth ((i, b.whole) ∷ ts) k (b.forth ts k d));
      back = λ none. s.back (b.back none);
    })

pub malformed : (text rest : List ℕ) (items : List Term) (least : ℕ) → Stands text items least rest → SpellsNone least rest → (form : Form) → SpellsForm text form → ⊥
malformed text rest items least s none form d = s.back none form.terms form.constant d

-- the last one is the constant
pub no_constant : (rest : List ℕ) (least : ℕ) → IsTrue (lacks 32 rest) → are_digits (without_minus rest) ≡ false → SpellsNone least rest
no_constant rest least h f [] k d = let g = d.0.0 in cc (f, g)
no_constant rest least h f (t ∷ ts) k d = no_cut 32 rest d.0.0 (43 ∷ 32 ∷ d.0.1) h d.0.2

pub read :
    (text rest : List ℕ) (items found : List Term) (least : ℕ) (z k : ℤ) → Stands text items least rest → least ≤ 2 ^ 32 → WholeTells rest (Some z) → found ≡ items → k ≡ z →
    (spelled : Form) × SpellsForm text spelled × (record { terms = found; constant = k } ≡ capped_form spelled)
read text rest items found least z k s l h e f =
    let spelled : Form = record { terms = s.written; constant = whole_value rest } in
    let to : k ≡ capped (whole_value rest) = f ∙ h.1 in
    let all : found ≡ map capped_term s.written = e ∙ s.cut_to in (
      spelled,
      subst (λ (us : List Term). SpellsFrom 0 text us (whole_value rest)) (append-nil s.written) (s.forth [] (whole_value rest) ((h.0, refl), le_true least (2 ^ 32) l)),
      λ i. record { terms = all i; constant = to i },
    )

-- ---- what the reading functions say

-- nothing comes of nothing
pub none_at : {A : Type 0} (o : Option A) (P : Type 0) (Q : A → Type 0) → o ≡ None → P → MatchOption o P Q
none_at o P Q e p = subst (λ o. MatchOption o P Q) (sym e) p

-- the place of a byte
first_place : (byte : ℕ) (text : List ℕ) (n : ℕ) → n ≡ position_or_len (λ b. b == byte) text → n < length text → IsTrue (lacks byte (take n text)) × (text ≡ take n text ++ byte ∷ drop (suc n) text)
first_place byte [] n e l = absurd (omega arith)
first_place byte (b ∷ bs) n e l = by (λ m g k. first_place byte bs m g k) (b == byte) refl e
  where
    by : ((m : ℕ) → m ≡ position_or_len (λ b. b == byte) bs → m < length bs → IsTrue (lacks byte (take m bs)) × (bs ≡ take m bs ++ byte ∷ drop (suc m) bs)) → (c : Bool) → (b == byte) ≡ c → n ≡ cond (not c) (1 + position_or_len (λ b. b == byte) bs) 0 → IsTrue (lacks byte (take n (b ∷ bs))) × (b ∷ bs ≡ take n (b ∷ bs) ++ byte ∷ drop (suc n) (b ∷ bs))
    by go true h f =
        let same : b ≡ byte = eqb-true b byte h in
        subst (λ (m : ℕ). IsTrue (lacks byte (take m (b ∷ bs))) × (b ∷ bs ≡ take m (b ∷ bs) ++ byte ∷ drop (suc m) (b ∷ bs))) (sym f) (refl, λ i. same i ∷ bs)
    by go false h f =
        let m = position_or_len (λ b. b == byte) bs in
        let g : n ≡ suc m = omega (arith, f) in
        let rest = go m refl (omega (arith, g, l)) in
        subst (λ (k : ℕ). IsTrue (lacks byte (take k (b ∷ bs))) × (b ∷ bs ≡ take k (b ∷ bs) ++ byte ∷ drop (suc k) (b ∷ bs))) (sym g)
        (both_hold (not (b == byte)) _ (ap not h) rest.0, λ i. b ∷ rest.1 i)

no_place : (byte : ℕ) (text : List ℕ) → length text ≤ position_or_len (λ b. b == byte) text → IsTrue (lacks byte text)
no_place byte [] l = refl
no_place byte (b ∷ bs) l = by (λ k. no_place byte bs k) (b == byte) refl l
  where
    by : (length bs ≤ position_or_len (λ b. b == byte) bs → IsTrue (lacks byte bs)) → (c : Bool) → (b == byte) ≡ c → suc (length bs) ≤ cond (not c) (1 + position_or_len (λ b. b == byte) bs) 0 → IsTrue (lacks byte (b ∷ bs))
    by go true h f = absurd (omega (arith, f))
    by go false h f = both_hold (not (b == byte)) _ (ap not h) (go (omega (arith, f)))

position-some : (p : ℕ → Bool) (xs : List ℕ) (i : ℕ) → Some i ≡ position p xs → (i ≡ position_or_len p xs) × (i < length xs)
position-some p xs i e = grind (arith, common_steps)

position-none : (p : ℕ → Bool) (xs : List ℕ) → None ≡ position p xs → length xs ≤ position_or_len p xs
position-none p xs e = grind (arith, common_steps)

pub lacks_there : (byte : ℕ) (text : List ℕ) → None ≡ position (λ b. b == byte) text → IsTrue (lacks byte text)
lacks_there byte text e = no_place byte text (position-none (λ b. b == byte) text e)

pub is_cut : (byte : ℕ) (text before behind : List ℕ) (i : ℕ) → Some i ≡ position (λ b. b == byte) text → before ≡ take i text → behind ≡ drop (i + 1) text → IsCut byte text before behind
is_cut byte text before behind i e f g =
    let p = position-some (λ b. b == byte) text i e in
    let h = first_place byte text i p.0 p.1 in
    rw (f, g, add-one) (h.0, h.1)

-- what stands after a place, as a slice up to the end
pub behind_place : (text : List ℕ) (k : ℕ) → take (length text - k) (drop k text) ≡ drop k text
behind_place text k = grind (arith, common_steps)

-- digits, at least one
pub digits_are : (text : List ℕ) → false ≡ (length text == 0) → list_all is_ascii_digit text ≡ are_digits text
digits_are [] h = absurd (cc (h))
digits_are (b ∷ bs) h = refl

-- whole numbers
pub below_zero : (text digits : List ℕ) (size : ℕ) (z : ℤ) → text ≡ 45 ∷ digits → SizeTells digits (Some size) → z ≡ neg_ℤ (pos size) → WholeTells text (Some z)
below_zero text digits size z e h f =
    subst (λ (bs : List ℕ). WholeTells bs (Some z)) (sym e)
    (h.0, f ∙ ap (λ (n : ℕ). neg_ℤ (pos n)) h.1 ∙ sym (capped_sign true (digits_value 10 digits)))

pub none_below_zero : (text digits : List ℕ) → text ≡ 45 ∷ digits → are_digits digits ≡ false → WholeTells text None
none_below_zero text digits e h = subst (λ (bs : List ℕ). WholeTells bs None) (sym e) h

no_minus : (text : List ℕ) → ((rest : List ℕ) → text ≢ 45 ∷ rest) → starts_with_minus text ≡ false
no_minus [] h = refl
no_minus (b ∷ bs) h = by (b == 45) refl
  where
    by : (c : Bool) → (b == 45) ≡ c → (b == 45) ≡ false
    by false e = e
    by true e = absurd (h bs (let same : b ≡ 45 = eqb-true b 45 e in λ i. same i ∷ bs))

unsigned : (text : List ℕ) → starts_with_minus text ≡ false → without_minus text ≡ text
unsigned text e = ap (λ (c : Bool). if c then drop 1 text else text) e

pub from_zero : (text : List ℕ) (size : ℕ) (z : ℤ) → ((rest : List ℕ) → text ≢ 45 ∷ rest) → SizeTells text (Some size) → z ≡ pos size → WholeTells text (Some z)
from_zero text size z n h f =
    let e = no_minus text n in
    let same = unsigned text e in
    let value : whole_value text ≡ pos (digits_value 10 text) = (λ i. with_sign (e i) (digits_value 10 (same i))) in
    (subst (λ (bs : List ℕ). IsTrue (are_digits bs)) (sym same) h.0, f ∙ ap (λ (n : ℕ). pos n) h.1 ∙ sym (ap capped value))

pub none_from_zero : (text : List ℕ) → ((rest : List ℕ) → text ≢ 45 ∷ rest) → are_digits text ≡ false → WholeTells text None
none_from_zero text n h = subst (λ (bs : List ℕ). are_digits bs ≡ false) (sym (unsigned text (no_minus text n))) h

-- variables
pub is_variable : (text : List ℕ) (size : ℕ) → SizeTells text (Some size) → size < 2 ^ 32 → VariableTells text (Some size)
is_variable text size h l = (h.0, let e = h.1 in omega (arith, e, l))

pub no_variable : (text : List ℕ) (size : ℕ) → SizeTells text (Some size) → 2 ^ 32 ≤ size → VariableTells text None
no_variable text size h l number s b = let e = h.1 in let f = s.1 in omega (arith, e, l, f, b)

pub no_digits : (text : List ℕ) → are_digits text ≡ false → VariableTells text None
no_digits text h number s b = let e = s.0 in cc (h, e)

-- terms
pub no_asterisk : (word : List ℕ) → IsTrue (lacks 42 word) → SpellsNoTerm word
no_asterisk word h t d b = no_cut 42 word d.0 (118 ∷ d.1) h d.2

term_parts : (word before behind : List ℕ) (t : Term) → IsCut 42 word before behind → (d : SpellsTerm word t) → (before ≡ d.0) × (behind ≡ 118 ∷ d.1)
term_parts word before behind t h d = one_cut 42 before d.0 behind (118 ∷ d.1) h.0 (whole_lacks 42 d.0 refl refl d.3.0) (sym h.1 ∙ d.2)

pub no_v : (word before behind : List ℕ) → IsCut 42 word before behind → ((rest : List ℕ) → behind ≢ 118 ∷ rest) → SpellsNoTerm word
no_v word before behind h none t d b = none d.1 (term_parts word before behind t h d).1

pub no_number : (word before behind number : List ℕ) → IsCut 42 word before behind → behind ≡ 118 ∷ number → VariableTells number None → SpellsNoTerm word
no_number word before behind number h e none t d b =
    let parts = term_parts word before behind t h d in
    let same : d.1 ≡ number = let f = sym parts.1 ∙ e in cc (f) in
    none t.0 (subst (λ (bs : List ℕ). SpellsNumber bs t.0) same d.4) b

pub no_coefficient : (word before behind : List ℕ) → IsCut 42 word before behind → WholeTells before None → SpellsNoTerm word
no_coefficient word before behind h none t d b =
    let parts = term_parts word before behind t h d in
    let f : are_digits (without_minus d.0) ≡ false = subst (λ (bs : List ℕ). are_digits (without_minus bs) ≡ false) parts.0 none in
    let g = d.3.0 in
    cc (f, g)

pub is_term : (word before behind number : List ℕ) (i : ℕ) (z : ℤ) → IsCut 42 word before behind → behind ≡ 118 ∷ number → VariableTells number (Some i) → WholeTells before (Some z) → SpellsCapped word i z
is_term word before behind number i z h e n w =
    (whole_value before, (before, number, h.1 ∙ ap (λ (bs : List ℕ). before ++ 42 ∷ bs) e, (w.0, refl), n), w.1)

-- forms
pub told_form : (text : List ℕ) (form : Form) → ReadsText text (Ok form) → IsTrue (is_bounded form) → SpellsForm text form × IsTrue (is_bounded form)
told_form text form r h =
    let within : IsTrue (is_bounded r.0) = sym (form_is_bounded r.0) ∙ ap is_bounded (sym r.2) ∙ h in
    let same : r.0 ≡ form = sym (form_same r.0 within) ∙ sym r.2 in
    (subst (λ (f : Form). SpellsForm text f) same r.1, h)

pub told_overflow : (text : List ℕ) (form : Form) → ReadsText text (Ok form) → is_bounded form ≡ false → (spelled : Form) × SpellsForm text spelled × (is_bounded spelled ≡ false)
told_overflow text form r h = (r.0, r.1, sym (form_is_bounded r.0) ∙ ap is_bounded (sym r.2) ∙ h)

-- What stands behind a front of a text.
use Rattle.std.proofs.Common.{◌≡◌, ℕ, ◌+◌, ◌==◌, Bool, true, false, List, [], ◌∷◌, ◌++◌, length, take, drop, None, Some, Option, MatchOption, option_map, refl, ap, sym, ◌∙◌, append-nil, arith, get_or, ◌≤◌, ◌-◌, length-drop, map}
use Rattle.std.specs.Str.{bytes_eq}
use Rattle.std.proofs.Math.Seq.{take-append_seam, take-length}
use Rattle.std.specs.List.{flat_map}
use Rattle.lt_rif.specs.Trace.{declared_text, declared_variable}
use Rattle.lt_rif.specs.declared.declared.Declared.{Declared}
use Rattle.std.proofs.lemmas.Bool.Decides.{Decides-eqb}
use Rattle.std.proofs.lemmas.List.{take-append-drop}
use Rattle.std.proofs.lemmas.Slice.Eq.{bytes_eq-Decides}
use Rattle.lt_trace.specs.inner.Ends.{after_space}
use Rattle.lt_trace.specs.inner.Front.{behind, is_over, is_same}
use Rattle.lt_trace.specs.inner.Words.{on_some}
use Rattle.lt_trace.proofs.Words.{either}

same-byte : (b : ℕ) → (b == b) ≡ true
same-byte b = (Decides-eqb b b).1 refl

-- what stands behind a front that is there
pub behind_front : (front rest : List ℕ) → behind (front ++ rest) front ≡ Some rest
behind_front [] rest = refl
behind_front (b ∷ front) rest = rw (same-byte b) (behind_front front rest)

rest_or : Option (List ℕ) → List ℕ
rest_or None = []
rest_or (Some t) = t

-- what has something behind a front has that front
pub front_back : (text front rest : List ℕ) → behind text front ≡ Some rest → text ≡ front ++ rest
unfolding rest_or
front_back text [] rest e = ap rest_or e
front_back [] (b ∷ front) rest e = absurd (cc)
front_back (a ∷ text) (b ∷ front) rest e =
    either (a == b)
    (λ t.
    let f : behind text front ≡ Some rest = rw t at e in
    let byte : a ≡ b = (Decides-eqb a b).0 t in
    ap (λ (c : ℕ). c ∷ text) byte ∙ ap (λ (s : List ℕ). b ∷ s) (front_back text front rest f))
    (λ t. absurd (let f = rw t at e in cc))

-- two fronts, one behind the other
pub behind_both : (text front more : List ℕ) → behind text (front ++ more) ≡ on_some (behind text front) (λ rest. behind rest more)
behind_both text [] more = refl
behind_both [] (b ∷ front) more = refl
behind_both (a ∷ text) (b ∷ front) more = either (a == b) (λ t. rw t (behind_both text front more)) (λ t. rw t refl)

-- ---- the same text

over-back : (o : Option (List ℕ)) → is_over o ≡ true → o ≡ Some []
over-back None e = absurd (cc)
over-back (Some []) e = refl
over-back (Some (b ∷ rest)) e = absurd (cc)

pub same_back : (text other : List ℕ) → is_same text other ≡ true → text ≡ other
same_back text other e = front_back text other [] (over-back (behind text other) e) ∙ append-nil other

pub same_on : (text other : List ℕ) → text ≡ other → is_same text other ≡ true
same_on text other e =
    let f : behind (other ++ []) other ≡ Some [] = behind_front other [] in
    ap is_over (ap (λ (t : List ℕ). behind t other) (e ∙ sym (append-nil other)) ∙ f)

same-truths : (a b : Bool) → (a ≡ true → b ≡ true) → (b ≡ true → a ≡ true) → a ≡ b
same-truths true b f g = sym (f refl)
same-truths false true f g = g refl
same-truths false false f g = refl

-- .. as slices are compared
pub same_bytes : (text other : List ℕ) → bytes_eq text other ≡ is_same text other
same_bytes text other =
    same-truths (bytes_eq text other) (is_same text other) (λ e. same_on text other ((bytes_eq-Decides text other).0 e)) (λ e. (bytes_eq-Decides text other).1 (same_back text other e))

-- behind a front that is there, or isn't
pub same_behind : (text front rest more : List ℕ) → behind text front ≡ Some rest → is_same text (front ++ more) ≡ is_same rest more
same_behind text front rest more e = ap is_over (behind_both text front more ∙ ap (λ (o : Option (List ℕ)). on_some o (λ r. behind r more)) e)

pub same_none : (text front more : List ℕ) → behind text front ≡ None → is_same text (front ++ more) ≡ false
same_none text front more e = ap is_over (behind_both text front more ∙ ap (λ (o : Option (List ℕ)). on_some o (λ r. behind r more)) e)

-- ---- a front that is stripped

strip-some : (text front : List ℕ) → bytes_eq (take (length front) text) front ≡ true → behind text front ≡ Some (drop (length front) text)
strip-some text front e =
    let same : take (length front) text ≡ front = (bytes_eq-Decides (take (length front) text) front).0 e in
    let whole : text ≡ front ++ drop (length front) text = sym (take-append-drop (length front) text) ∙ ap (λ (t : List ℕ). t ++ drop (length front) text) same in
    ap (λ (t : List ℕ). behind t front) whole ∙ behind_front front (drop (length front) text)

strip-none : (text front : List ℕ) (o : Option (List ℕ)) → behind text front ≡ o → bytes_eq (take (length front) text) front ≡ false → behind text front ≡ None
strip-none text front None e f = e
strip-none text front (Some rest) e f =
    let same : take (length front) text ≡ front = ap (λ (t : List ℕ). take (length front) t) (front_back text front rest e) ∙ take-append_seam front rest in
    let yes : bytes_eq (take (length front) text) front ≡ true = (bytes_eq-Decides (take (length front) text) front).1 same in
    absurd (cc)

pub stripped : {R : Type 0} (now : R → List ℕ) (text front : List ℕ) (o : Option R)
    → MatchOption o (bytes_eq (take (length front) text) front ≡ false) (λ x. (bytes_eq (take (length front) text) front ≡ true) × (now x ≡ drop (length front) text) × (length (now x) + length front ≡ length text))
    → option_map now o ≡ behind text front
stripped now text front None h = sym (strip-none text front (behind text front) refl h)
stripped now text front (Some x) h = ap (λ (t : List ℕ). Some t) h.1 ∙ sym (strip-some text front h.0)

-- ---- four parts, one behind the other

behind_four : (text a b d e : List ℕ) → behind text (((a ++ b) ++ d) ++ e) ≡ on_some (on_some (on_some (behind text a) (λ r. behind r b)) (λ r. behind r d)) (λ r. behind r e)
behind_four text a b d e =
    behind_both text ((a ++ b) ++ d) e
    ∙ ap (λ (o : Option (List ℕ)). on_some o (λ r. behind r e)) (behind_both text (a ++ b) d ∙ ap (λ (o : Option (List ℕ)). on_some o (λ r. behind r d)) (behind_both text a b))

pub second_none : (text a b d e one : List ℕ) → Some one ≡ behind text a → None ≡ behind one b → None ≡ behind text (((a ++ b) ++ d) ++ e)
second_none text a b d e one first second =
    sym (behind_four text a b d e
    ∙ ap (λ (o : Option (List ℕ)). on_some (on_some (on_some o (λ r. behind r b)) (λ r. behind r d)) (λ r. behind r e)) (sym first)
    ∙ ap (λ (o : Option (List ℕ)). on_some (on_some o (λ r. behind r d)) (λ r. behind r e)) (sym second))

pub third_none : (text a b d e one two : List ℕ) → Some one ≡ behind text a → Some two ≡ behind one b → None ≡ behind two d → None ≡ behind text (((a ++ b) ++ d) ++ e)
third_none text a b d e one two first second third =
    sym (behind_four text a b d e
    ∙ ap (λ (o : Option (List ℕ)). on_some (on_some (on_some o (λ r. behind r b)) (λ r. behind r d)) (λ r. behind r e)) (sym first)
    ∙ ap (λ (o : Option (List ℕ)). on_some (on_some o (λ r. behind r d)) (λ r. behind r e)) (sym second)
    ∙ ap (λ (o : Option (List ℕ)). on_some o (λ r. behind r e)) (sym third))

pub all_four : (text a b d e one two three : List ℕ) (last : Option (List ℕ)) → Some one ≡ behind text a → Some two ≡ behind one b → Some three ≡ behind two d → last ≡ behind three e → last ≡ behind text (((a ++ b) ++ d) ++ e)
all_four text a b d e one two three last first second third fourth =
    sym (behind_four text a b d e
    ∙ ap (λ (o : Option (List ℕ)). on_some (on_some (on_some o (λ r. behind r b)) (λ r. behind r d)) (λ r. behind r e)) (sym first)
    ∙ ap (λ (o : Option (List ℕ)). on_some (on_some o (λ r. behind r d)) (λ r. behind r e)) (sym second)
    ∙ ap (λ (o : Option (List ℕ)). on_some o (λ r. behind r e)) (sym third)
    ∙ sym fourth)

-- ---- words, with a space before each

pub word_none : (text word : List ℕ) (words : List (List ℕ)) → None ≡ behind text (32 ∷ word) → None ≡ behind text (after_space (word ∷ words))
word_none text word words none_there = sym (behind_both text (32 ∷ word) (after_space words) ∙ ap (λ (o : Option (List ℕ)). on_some o (λ r. behind r (after_space words))) (sym none_there))

pub word_some : (text word : List ℕ) (words : List (List ℕ)) (rest : List ℕ) (last : Option (List ℕ)) → Some rest ≡ behind text (32 ∷ word) → last ≡ behind rest (after_space words) → last ≡ behind text (after_space (word ∷ words))
word_some text word words rest last there onward = sym (behind_both text (32 ∷ word) (after_space words) ∙ ap (λ (o : Option (List ℕ)). on_some o (λ r. behind r (after_space words))) (sym there) ∙ sym onward)

pub last_word : (text word : List ℕ) (last : Option (List ℕ)) → last ≡ behind text (32 ∷ word) → last ≡ behind text (after_space (word ∷ []))
last_word text word last there = there ∙ ap (behind text) (sym (append-nil (32 ∷ word)))

-- ---- lists

-- a list, its first element apart
pub first_apart : {X : Type 0} (xs : List X) (x : X) → 1 ≤ length xs → x ≡ get_or xs 0 x → xs ≡ x ∷ drop 1 xs
first_apart [] x some is = absurd (omega (arith, some))
first_apart (y ∷ xs) x some is = ap (λ (z : _). z ∷ xs) (sym is)

-- ---- variables that are declared, one after another

-- the first of some variables is declared no more ..
pub left_none : (rest : List ℕ) (xs : List Declared) (x : Declared) → 1 ≤ length xs → x ≡ get_or xs 0 x → None ≡ behind rest (declared_text (declared_variable x)) → is_same rest (flat_map declared_text (map declared_variable xs)) ≡ false
left_none rest xs x some is none_there =
    ap (λ (ys : List Declared). is_same rest (flat_map declared_text (map declared_variable ys))) (first_apart xs x some is)
    ∙ same_none rest (declared_text (declared_variable x)) (flat_map declared_text (map declared_variable (drop 1 xs))) (sym none_there)

-- .. or is, and the others are left
pub left_some : (rest after : List ℕ) (xs : List Declared) (x : Declared) → 1 ≤ length xs → x ≡ get_or xs 0 x → Some after ≡ behind rest (declared_text (declared_variable x)) →
    is_same rest (flat_map declared_text (map declared_variable xs)) ≡ is_same after (flat_map declared_text (map declared_variable (take (length xs - 1) (drop 1 xs))))
left_some rest after xs x some is there =
    ap (λ (ys : List Declared). is_same rest (flat_map declared_text (map declared_variable ys))) (first_apart xs x some is)
    ∙ same_behind rest (declared_text (declared_variable x)) after (flat_map declared_text (map declared_variable (drop 1 xs))) (sym there)
    ∙ ap (λ (ys : List Declared). is_same after (flat_map declared_text (map declared_variable ys))) (sym (ap (λ (n : ℕ). take n (drop 1 xs)) (sym (length-drop 1 xs)) ∙ take-length (drop 1 xs)))

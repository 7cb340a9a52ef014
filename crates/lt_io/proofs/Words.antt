-- The words of a command.
use Rattle.std.proofs.Common.{◌≡◌, ℕ, suc, ◌<◌, Bool, true, false, List, [], ◌∷◌, ◌++◌, None, Some, length, take, drop, get_or, arith, refl, ap, sym, ◌∙◌, append_assoc, append-nil, if◌then◌else◌}
use Rattle.std.specs.List.{AllByRecursion}
use Rattle.std.specs.Char.{char_set_contains}
use Rattle.std.specs.Str.{NoCharPasses}
use Rattle.std.specs.Str.Pattern.{FindsBy, SplitsAroundMatch}
use Rattle.std.specs.declared.option.Option.{Option}
use Rattle.std.proofs.lemmas.Str.{NoCharPasses-byte, len_utf8_bounds}
use Rattle.std.proofs.lemmas.Str.Pattern.{drop_at_char}
use Rattle.std.proofs.lemmas.List.{take-append-drop}
use Rattle.lt_io.specs.Command.{before, is_blank, words_from, words_of}

chosen : {X : Type 0} (b : Bool) (x y : X) → b ≡ true → (if b then x else y) ≡ x
chosen true x y h = refl
chosen false x y h = (cc)

passed : {X : Type 0} (b : Bool) (x y : X) → b ≡ false → (if b then x else y) ≡ y
passed true x y h = (cc)
passed false x y h = refl

-- a blank is ASCII
low : (b : ℕ) → is_blank b ≡ true → b < 128
low b h = grind arith

-- a byte that isn't ASCII is no blank
not_blank : (b : ℕ) → (b < 128 → is_blank b ≡ false) → is_blank b ≡ false
not_blank b h = grind (arith, low b)

none_blank : (bytes : List ℕ) → ((i : ℕ) → i < length bytes → is_blank (get_or bytes i 0) ≡ false) → AllByRecursion (λ b. is_blank b ≡ false) bytes
none_blank [] h = tt
none_blank (b ∷ bytes) h = (h 0 (omega arith), none_blank bytes (λ i l. h (suc i) (omega (arith, l))))

-- bytes that aren't blank go on with a word
run : (begun bytes rest : List ℕ) → AllByRecursion (λ b. is_blank b ≡ false) bytes → words_from begun (bytes ++ rest) ≡ words_from (begun ++ bytes) rest
run begun [] rest h = ap (λ (t : List ℕ). words_from t rest) (sym (append-nil begun))
run begun (b ∷ bytes) rest h =
    passed (is_blank b) (before begun (words_from [] (bytes ++ rest))) (words_from (begun ++ b ∷ []) (bytes ++ rest)) h.0
    ∙ run (begun ++ b ∷ []) bytes rest h.1 ∙ ap (λ (t : List ℕ). words_from t rest) (append_assoc begun (b ∷ []) bytes)

unblank : (bytes : List ℕ) → NoCharPasses is_blank bytes → AllByRecursion (λ b. is_blank b ≡ false) bytes
unblank bytes h = none_blank bytes (λ i l. not_blank (get_or bytes i 0) (NoCharPasses-byte is_blank bytes i h l))

before_blank : (front back : List ℕ) (c : ℕ) → NoCharPasses is_blank front → is_blank c ≡ true → words_of (front ++ c ∷ back) ≡ before front (words_of back)
before_blank front back c h blank =
    run [] front (c ∷ back) (unblank front h)
    ∙ chosen (is_blank c) (before front (words_of back)) (words_from (front ++ c ∷ []) back) blank

-- what looking for a blank answers
abbrev Finds : List ℕ → Option (ℕ × ℕ) → Type 0
Finds text found = (k : ℕ → Bool) → ((c : ℕ) → char_set_contains (32 ∷ 9 ∷ 10 ∷ 13 ∷ []) c ≡ k c) → FindsBy k text found

split_at : (text : List ℕ) (i j : ℕ) → FindsBy is_blank text (Some (i, j)) → words_of text ≡ before (take i text) (words_of (drop j text))
split_at text i j (none, (c, blank, at)) =
    let tail : drop i text ≡ c ∷ drop j text = drop_at_char c text i j at (low c blank) in
    let whole : text ≡ take i text ++ c ∷ drop j text = sym (take-append-drop i text) ∙ ap (λ (t : List ℕ). take i text ++ t) tail in
    ap words_of whole ∙ before_blank (take i text) (drop j text) c none blank

ends_later : (text : List ℕ) (i j : ℕ) → FindsBy is_blank text (Some (i, j)) → i < j
ends_later text i j (none, (c, blank, at)) = omega (arith, at.ends, (len_utf8_bounds c).0)

-- a text that is split at its first blank: what stands before it is a word, unless it is empty
pub split_words : (text front back : List ℕ) → SplitsAroundMatch Finds text front back → words_of text ≡ before front (words_of back)
split_words text front back (i, j, finds, front_is, back_is, ordered, first, second) = rw (front_is, back_is) (split_at text i j (finds is_blank (λ c. refl)))

pub behind_is_shorter : (text front back : List ℕ) → SplitsAroundMatch Finds text front back → length back < length text
behind_is_shorter text front back (i, j, finds, front_is, back_is, ordered, first, second) = omega (arith, ends_later text i j (finds is_blank (λ c. refl)), second)

-- a text without a blank is a word, unless it is empty
pub one_word : (text : List ℕ) → Finds text None → words_of text ≡ before text []
one_word text finds = ap words_of (sym (append-nil text)) ∙ run [] text [] (unblank text (finds is_blank (λ c. refl)))

-- words behind others
pub joined : (words : List (List ℕ)) (word : List ℕ) (more : List (List ℕ)) → (words ++ before word []) ++ more ≡ words ++ before word more
joined words [] more = ap (λ (t : List (List ℕ)). t ++ more) (append-nil words)
joined words (b ∷ word) more = append_assoc words ((b ∷ word) ∷ []) more

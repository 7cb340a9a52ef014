-- Words that are cut off a line.
use Rattle.std.proofs.Common.{◌≡◌, ℕ, suc, ◌+◌, ◌-◌, ◌<◌, ◌≤◌, Bool, true, false, not, List, [], ◌∷◌, ◌++◌, length, take, drop, None, Some, Option, refl, ap, sym, ◌∙◌, arith, length-append, length-drop, nat_lt}
use Rattle.std.specs.List.{list_any, position, position_or_len}
use Rattle.std.proofs.lemmas.Bool.Decides.{Decides-eqb, nat_tests}
use Rattle.std.proofs.Math.Seq.{take-length}
use Rattle.std.proofs.lemmas.List.{drop-append-le, drop_all, drop-drop}
use Rattle.std.proofs.lemmas.List.Sums.{prefix_len-le-length}
use Rattle.lt_trace.specs.inner.Words.{before_word, cut, is_space, left, word_at}

-- two cases of a test
pub either : {P : Type 0} (b : Bool) → (b ≡ true → P) → (b ≡ false → P) → P
either true first second = first refl
either false first second = second refl

-- what stands behind a text and one more byte
drop-behind : (text : List ℕ) (b : ℕ) (rest : List ℕ) → drop (suc (length text)) (text ++ b ∷ rest) ≡ rest
drop-behind [] b rest = refl
drop-behind (c ∷ text) b rest = drop-behind text b rest

-- what is cut off in front of a space
pub cut-is : (text rest : List ℕ) → cut (text ++ 32 ∷ rest) ≡ Some (take (position_or_len is_space text) text, drop (suc (position_or_len is_space text)) (text ++ 32 ∷ rest))
cut-is [] rest = refl
cut-is (b ∷ text) rest =
    let more : 1 + position_or_len is_space text ≡ suc (position_or_len is_space text) = omega arith in
    either (is_space b) (λ e. rw e refl) (λ e. rw e (rw (cut-is text rest) (rw more refl)))

-- a word without a space, and what stands behind the space behind it
pub cut-word : (word rest : List ℕ) → list_any is_space word ≡ false → cut (word ++ 32 ∷ rest) ≡ Some (word, rest)
cut-word [] rest none = refl
cut-word (b ∷ word) rest none = either (is_space b) (λ e. absurd (let f = rw e at none in cc)) (λ e. rw e (rw (cut-word word rest (rw e at none)) refl))

-- what is cut off stands in front of a space
word_in : Option (List ℕ × List ℕ) → List ℕ
word_in None = []
word_in (Some x) = x.0

behind_in : Option (List ℕ × List ℕ) → List ℕ
behind_in None = []
behind_in (Some x) = x.1

cut-step : (b : ℕ) (text word rest : List ℕ) → ((w r : List ℕ) → cut text ≡ Some (w, r) → text ≡ w ++ 32 ∷ r) → (o : Option (List ℕ × List ℕ)) → cut text ≡ o → before_word b o ≡ Some (word, rest) → b ∷ text ≡ word ++ 32 ∷ rest
unfolding word_in behind_in
cut-step b text word rest back None e f = absurd (cc)
cut-step b text word rest back (Some x) e f =
    let whole = back x.0 x.1 e in
    let first : b ∷ x.0 ≡ word = ap word_in f in
    let second : x.1 ≡ rest = ap behind_in f in
    ap (λ (t : List ℕ). b ∷ t) whole ∙ ap (λ (t : List ℕ). t ++ 32 ∷ x.1) first ∙ ap (λ (t : List ℕ). word ++ 32 ∷ t) second

pub cut-back : (text word rest : List ℕ) → cut text ≡ Some (word, rest) → text ≡ word ++ 32 ∷ rest
unfolding word_in behind_in
cut-back [] word rest e = absurd (cc)
cut-back (b ∷ text) word rest e =
    either (is_space b)
    (λ t.
    let f : Some ([], text) ≡ Some (word, rest) = rw t at e in
    let byte : b ≡ 32 = (Decides-eqb b 32).0 t in
    let first : [] ≡ word = ap word_in f in
    let second : text ≡ rest = ap behind_in f in
    ap (λ (c : ℕ). c ∷ text) byte ∙ ap (λ (t : List ℕ). t ++ 32 ∷ text) first ∙ ap (λ (t : List ℕ). word ++ 32 ∷ t) second)
    (λ t. cut-step b text word rest (λ w r h. cut-back text w r h) (cut text) refl (rw t at e))

-- ---- words of the code

-- the first space of a text, and what stands behind it
cut-some : (text rest : List ℕ) (k : ℕ) → position is_space text ≡ Some k → cut (text ++ 32 ∷ rest) ≡ Some (take k text, drop (suc k) (text ++ 32 ∷ rest))
cut-some text rest k e =
    let n = position_or_len is_space text in
    either (nat_lt n (length text))
    (λ t. let f : Some n ≡ Some k = rw t at e in let g : n ≡ k = cc in cut-is text rest ∙ ap (λ (m : ℕ). Some (take m text, drop (suc m) (text ++ 32 ∷ rest))) g)
    (λ t. absurd (let f = rw t at e in cc))

-- a text without a space
cut-none : (text rest : List ℕ) → position is_space text ≡ None → cut (text ++ 32 ∷ rest) ≡ Some (text, rest)
cut-none text rest e =
    let n = position_or_len is_space text in
    let most = prefix_len-le-length (λ b. not (is_space b)) text in
    either (nat_lt n (length text))
    (λ t. absurd (let f = rw t at e in cc))
    (λ t.
    let all : n ≡ length text = grind (arith, nat_tests) in
    let behind : drop (suc (length text)) (text ++ 32 ∷ rest) ≡ rest = drop-behind text 32 rest in
    cut-is text rest ∙ ap (λ (m : ℕ). Some (take m text, drop (suc m) (text ++ 32 ∷ rest))) all ∙ rw (take-length text, behind) refl)

-- what is left of a line from a place within it on
left-is : (line : List ℕ) (at : ℕ) → at ≤ length line → left line at ≡ drop at line ++ 32 ∷ []
left-is line at within = drop-append-le at line (32 ∷ []) within

-- .. and behind its word
left-behind : (line : List ℕ) (at k : ℕ) → at ≤ length line → drop (suc k) (drop at line ++ 32 ∷ []) ≡ left line (suc (at + k))
left-behind line at k within =
    ap (λ (t : List ℕ). drop (suc k) t) (sym (left-is line at within))
    ∙ drop-drop (suc k) at (line ++ 32 ∷ [])
    ∙ ap (λ (m : ℕ). drop m (line ++ 32 ∷ [])) {x = at + suc k} {y = suc (at + k)} (omega arith)

pub word-found : (line : List ℕ) (at k : ℕ) → at ≤ length line → position is_space (drop at line) ≡ Some k → cut (left line at) ≡ word_at line at (Some (at + k))
word-found line at k within e =
    let size : at + k - at ≡ k = omega arith in
    ap cut (left-is line at within) ∙ cut-some (drop at line) [] k e
    ∙ ap (λ (t : List ℕ). Some (take k (drop at line), t)) (left-behind line at k within)
    ∙ ap (λ (m : ℕ). Some (take m (drop at line), left line (suc (at + k)))) (sym size)

pub word-last : (line : List ℕ) (at : ℕ) → at ≤ length line → position is_space (drop at line) ≡ None → cut (left line at) ≡ word_at line at (Some (length line))
word-last line at within e =
    let size : length (drop at line) ≡ length line - at = length-drop at line in
    let over : drop (suc (length line)) (line ++ 32 ∷ []) ≡ [] = drop-behind line 32 [] in
    ap cut (left-is line at within) ∙ cut-none (drop at line) [] e
    ∙ ap (λ (t : List ℕ). Some (t, [])) (sym (ap (λ (m : ℕ). take m (drop at line)) (sym size) ∙ take-length (drop at line)))
    ∙ ap (λ (t : List ℕ). Some (take (length line - at) (drop at line), t)) (sym over)

-- nothing is left behind a line
pub none-left : (line : List ℕ) (at : ℕ) → length line < at → left line at ≡ []
none-left line at behind = drop_all at (line ++ 32 ∷ []) (omega (arith, length-append line (32 ∷ [])))

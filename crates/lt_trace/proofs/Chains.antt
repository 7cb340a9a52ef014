-- Lines that follow each other.
use Rattle.std.proofs.Common.{◌≡◌, ◌<◌, ◌≤◌, ℕ, suc, ◌+◌, ◌-◌, true, false, List, [], ◌∷◌, ◌++◌, length, drop, take, None, Some, refl, ap, subst, sym, ◌∙◌, arith, append_assoc, length-append, length-drop}
use Rattle.std.specs.List.{list_any}
use Rattle.std.proofs.lemmas.List.{length-take, take-append-drop}
use Rattle.std.proofs.Math.Seq.{take-append_seam, take-length}
use Rattle.lt_rif.specs.Trace.{line}
use Rattle.lt_trace.specs.Lines.{AreLines, Breaks, IsBadLine, IsDone, IsLine, IsTold, Place, at_end, is_feed, one_more}
use Rattle.lt_trace.specs.Shape.{Shape}
use Rattle.lt_trace.specs.Told.{Shown, Told}
use Rattle.lt_trace.specs.declared.stage.HeaderLine.TheVariants as header
use Rattle.lt_trace.specs.declared.stage.Stage.{Stage}
use Rattle.lt_trace.specs.declared.stage.Stage.TheVariants as stage
use Rattle.lt_trace.specs.inner.Stages.{IsFeed, place_at}
use Rattle.lt_trace.proofs.Headers.{says}
use Rattle.lt_trace.proofs.Words.{either}

-- ---- line feeds

pub any-feed : (text rest : List ℕ) → list_any is_feed (text ++ 10 ∷ rest) ≡ true
any-feed [] rest = refl
any-feed (b ∷ text) rest = either (is_feed b) (λ t. rw t refl) (λ t. rw t (any-feed text rest))

pub same-word : (a b r s : List ℕ) → list_any is_feed a ≡ false → list_any is_feed b ≡ false → a ++ 10 ∷ r ≡ b ++ 10 ∷ s → a ≡ b
same-word [] [] r s h k e = refl
same-word [] (y ∷ b) r s h k e = absurd (let f : 10 ≡ y = cc in let g = rw (← f) at k in cc)
same-word (x ∷ a) [] r s h k e = absurd (let f : x ≡ 10 = cc in let g = rw f at h in cc)
same-word (x ∷ a) (y ∷ b) r s h k e =
    let first : x ≡ y = cc in
    let rest : a ++ 10 ∷ r ≡ b ++ 10 ∷ s = cc in
    either (is_feed x)
    (λ t. absurd (let g = rw t at h in cc))
    (λ t.
    let u : is_feed y ≡ false = ap is_feed (sym first) ∙ t in
    ap (λ (c : ℕ). c ∷ a) first ∙ ap (λ (w : List ℕ). y ∷ w) (same-word a b r s (rw t at h) (rw u at k) rest))

-- ---- one more line

-- the front of a text up to a line feed
front-more : (text word : List ℕ) (at end : ℕ) → at ≤ length text → end ≡ at + length word → drop at text ≡ word ++ 10 ∷ drop (suc end) text → take (suc end) text ≡ take at text ++ line word
front-more text word at end within size whole =
    let front = take at text in
    let count : length front ≡ at = omega (arith, length-take at text) in
    let bytes : text ≡ front ++ (word ++ 10 ∷ drop (suc end) text) = sym (take-append-drop at text) ∙ ap (λ (t : List ℕ). front ++ t) whole in
    let all : text ≡ (front ++ line word) ++ drop (suc end) text =
    bytes ∙ sym (append_assoc front (line word) (drop (suc end) text) ∙ ap (λ (t : List ℕ). front ++ t) (append_assoc word (10 ∷ []) (drop (suc end) text))) in
    let long : suc end ≡ length (front ++ line word) = omega (arith, length-append front (line word), length-append word (10 ∷ [])) in
    ap (λ (t : List ℕ). take (suc end) t) all ∙ ap (λ (n : ℕ). take n ((front ++ line word) ++ drop (suc end) text)) long ∙ take-append_seam (front ++ line word) (drop (suc end) text)

-- the line of the code
line-here : (text word rest : List ℕ) (at end : ℕ) → end ≡ at + length word → drop at text ≡ word ++ 10 ∷ rest → take (end - at) (drop at text) ≡ word
line-here text word rest at end size whole =
    let n : end - at ≡ length word = omega arith in
    ap (λ (t : List ℕ). take (end - at) t) whole ∙ ap (λ (m : ℕ). take m (word ++ 10 ∷ rest)) n ∙ take-append_seam word (10 ∷ rest)

-- so many bytes stand before the line feed
pub feed-within : (text : List ℕ) (at end : ℕ) → at ≤ length text → IsFeed text at (Some end) → (at ≤ end) × (suc end ≤ length text)
feed-within text at end within f =
    let size = f.2 in
    let whole : length (drop at text) ≡ length (f.0 ++ 10 ∷ drop (suc end) text) = ap (λ (t : List ℕ). length t) f.3 in
    let cut = length-drop at text in
    let sum = length-append f.0 (10 ∷ drop (suc end) text) in
    (omega arith, omega arith)

next-lines : (shape : Shape) (text : List ℕ) (at end n : ℕ) (p q : Place) → at ≤ length text → AreLines shape (take at text) n p → (f : IsFeed text at (Some end)) → IsLine shape p (take (end - at) (drop at text)) q → AreLines shape (take (suc end) text) (suc n) q
next-lines shape text at end n p q within lines f l =
    let word = f.0 in
    let here = line-here text word (drop (suc end) text) at end f.2 f.3 in
    let own : IsLine shape p word q = subst (λ (w : List ℕ). IsLine shape p w q) here l in
    subst (λ (t : List ℕ). AreLines shape t (suc n) q) (sym (front-more text word at end within f.2 f.3)) (one_more (take at text) word n p q lines f.1 own)

pub next-at : (shape : Shape) (text : List ℕ) (at end n : ℕ) (p q : Place) → at ≤ length text → AreLines shape (take at text) n p → IsFeed text at (Some end) → IsLine shape p (take (end - at) (drop at text)) q → AreLines shape (take (end + 1) text) (suc n) q
next-at shape text at end n p q within lines f l =
    subst (λ (m : ℕ). AreLines shape (take m text) (suc n) q) {x = suc end} {y = end + 1} (omega arith) (next-lines shape text at end n p q within lines f l)

-- ---- what breaks a text

-- a stage isn't the end
undone-at : (s : Stage) (steps : List Shown) (rest : List ℕ) → IsDone (place_at s steps) rest → ⊥
undone-at (stage.Header header.Seed) steps rest h = h
undone-at (stage.Header header.Rule) steps rest h = h
undone-at (stage.Header header.Outputs) steps rest h = h
undone-at (stage.Header header.Inputs) steps rest h = h
undone-at (stage.Header header.Locals) steps rest h = h
undone-at stage.Step steps rest h = h
undone-at stage.Values steps rest h = h

-- no line feed is left
breaks-none : (shape : Shape) (text : List ℕ) (at n : ℕ) (p : Place) → AreLines shape (take at text) n p → (IsDone p (drop at text) → ⊥) → list_any is_feed (drop at text) ≡ false → Breaks shape text n
breaks-none shape text at n p lines undone feeds = record {
  front = take at text;
  rest = drop at text;
  place = p;
  whole = sym (take-append-drop at text);
  lines = lines;
  stuck = λ word behind q h e l. let t = any-feed word behind in let s : list_any is_feed (word ++ 10 ∷ behind) ≡ false = ap (λ (x : List ℕ). list_any is_feed x) (sym e) ∙ feeds in cc;
  undone = undone;
}

-- the line up to the next line feed leads nowhere
breaks-at : (shape : Shape) (text : List ℕ) (at end n : ℕ) (p : Place) → AreLines shape (take at text) n p → (IsDone p (drop at text) → ⊥) → (f : IsFeed text at (Some end)) → ((q : Place) → IsLine shape p (take (end - at) (drop at text)) q → ⊥) → Breaks shape text n
breaks-at shape text at end n p lines undone f refuted =
    let word = f.0 in
    let here = line-here text word (drop (suc end) text) at end f.2 f.3 in
    record {
      front = take at text;
      rest = drop at text;
      place = p;
      whole = sym (take-append-drop at text);
      lines = lines;
      stuck = λ w behind q h e l. refuted q (subst (λ (t : List ℕ). IsLine shape p t q) (same-word w word behind (drop (suc end) text) h f.1 (sym e ∙ f.3) ∙ sym here) l);
      undone = undone;
    }

-- the end is told, and bytes are left
breaks-over : (shape : Shape) (text : List ℕ) (at n : ℕ) (t : Told) → AreLines shape (take at text) n (at_end t) → at < length text → Breaks shape text n
breaks-over shape text at n t lines within = record {
  front = take at text;
  rest = drop at text;
  place = at_end t;
  whole = sym (take-append-drop at text);
  lines = lines;
  stuck = λ word behind q h e l. says l;
  undone = λ e. let f : length (drop at text) ≡ 0 = ap (λ (x : List ℕ). length x) e in let g = length-drop at text in omega arith;
}

-- ---- the answers of the code

-- the number of the line that breaks a text
bad-line : (shape : Shape) (text : List ℕ) (m n : ℕ) → m ≡ suc n → Breaks shape text n → IsBadLine shape text m
bad-line shape text m n e h = subst (λ (k : ℕ). IsBadLine shape text k) (sym e) h

-- the line of this number isn't there
pub missing-line : (shape : Shape) (text : List ℕ) (at m n : ℕ) (s : Stage) (steps : List Shown) → m ≡ suc n → AreLines shape (take at text) n (place_at s steps) → IsFeed text at None → IsBadLine shape text m
missing-line shape text at m n s steps e lines f =
    bad-line shape text m n e (breaks-none shape text at n (place_at s steps) lines (undone-at s steps (drop at text)) f)

-- it is none of a trace
pub wrong-line : (shape : Shape) (text : List ℕ) (at end m n : ℕ) (s : Stage) (steps : List Shown) → m ≡ suc n → AreLines shape (take at text) n (place_at s steps) → IsFeed text at (Some end)
    → ((q : Place) → IsLine shape (place_at s steps) (take (end - at) (drop at text)) q → ⊥) → IsBadLine shape text m
wrong-line shape text at end m n s steps e lines f refuted =
    bad-line shape text m n e (breaks-at shape text at end n (place_at s steps) lines (undone-at s steps (drop at text)) f refuted)

-- the one behind it is too much
pub line-too-much : (shape : Shape) (text : List ℕ) (at end m n : ℕ) (p : Place) (t : Told) → m ≡ suc n → at ≤ length text → AreLines shape (take at text) n p → IsFeed text at (Some end)
    → IsLine shape p (take (end - at) (drop at text)) (at_end t) → end + 1 < length text → IsBadLine shape text (m + 1)
line-too-much shape text at end m n p t e within lines f l more_left =
    bad-line shape text (m + 1) (suc n) (omega arith) (breaks-over shape text (end + 1) (suc n) t (next-at shape text at end n p (at_end t) within lines f l) more_left)

-- it is the last one
pub last-line : (shape : Shape) (text : List ℕ) (at end n : ℕ) (p : Place) (t : Told) → at ≤ length text → AreLines shape (take at text) n p → IsFeed text at (Some end)
    → IsLine shape p (take (end - at) (drop at text)) (at_end t) → length text ≤ end + 1 → IsTold shape text t
last-line shape text at end n p t within lines f l all =
    let bound = feed-within text at end within f in
    let size : end + 1 ≡ length text = omega arith in
    (suc n, subst (λ (x : List ℕ). AreLines shape x (suc n) (at_end t)) (ap (λ (m : ℕ). take m text) size ∙ take-length text) (next-at shape text at end n p (at_end t) within lines f l))

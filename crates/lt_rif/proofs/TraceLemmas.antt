-- Words with spaces, and the lines that they make.
use Rattle.std.proofs.Common.{◌≡◌, ℕ, List, [], ◌∷◌, ◌++◌, Option, length, drop, codes, refl, ap, sym, ◌∙◌, ◌+◌, append_assoc, length-append, arith, Vec, Global}
use Rattle.lt_rif.specs.Room.{AddsText, HasRoom}
use Rattle.lt_num.specs.declared.kind.Kind.{Kind}
use Rattle.lt_num.specs.declared.value.Value.{Value}
use Rattle.lt_rif.specs.Trace.{line, locals_part, spaced, step_words, value_words}
use Rattle.lt_rif.specs.inner.Spaced.{before_space, after_space, step_layout}

-- spaces before words, in two parts
pub after-append : (xs ys : List (List ℕ)) → after_space (xs ++ ys) ≡ after_space xs ++ after_space ys
after-append [] ys = refl
after-append (x ∷ xs) ys = ap (λ (t : List ℕ). (codes " " ++ x) ++ t) (after-append xs ys) ∙ sym (append_assoc (codes " " ++ x) (after_space xs) (after_space ys))

-- a space before words and between them
after-spaced : (x : List ℕ) (xs : List (List ℕ)) → after_space (x ∷ xs) ≡ codes " " ++ spaced (x ∷ xs)
after-spaced x xs = append_assoc (codes " ") x (after_space xs)

after-middle : (xs : List (List ℕ)) (m : List ℕ) (ys : List (List ℕ)) → after_space (xs ++ m ∷ ys) ≡ codes " " ++ spaced (xs ++ m ∷ ys)
after-middle [] m ys = after-spaced m ys
after-middle (x ∷ xs) m ys = after-spaced x (xs ++ m ∷ ys)

-- words in the middle of a line, with spaces after those before them and before those after them
spaced-middle : (xs : List (List ℕ)) (m : List ℕ) (ys : List (List ℕ)) → spaced (xs ++ m ∷ ys) ≡ before_space xs ++ (m ++ after_space ys)
spaced-middle [] m ys = refl
spaced-middle (x ∷ xs) m ys =
    let rest = m ++ after_space ys in
    ap (λ (t : List ℕ). x ++ t) (after-middle xs m ys ∙ ap (λ (t : List ℕ). codes " " ++ t) (spaced-middle xs m ys))
    ∙ sym (append_assoc x (codes " ") (before_space xs ++ rest))
    ∙ sym (append_assoc (x ++ codes " ") (before_space xs) rest)

pub step_lays_out : (decimals : ℕ) (kinds : List Kind) (outputs inputs : List Value) (locals : Option (List (Option Value)))
    → line (spaced (step_words decimals kinds outputs inputs locals)) ≡ step_layout decimals kinds outputs inputs locals
step_lays_out decimals kinds outputs inputs locals =
    let before = value_words decimals kinds outputs in
    let after = value_words decimals (drop (length outputs) kinds) inputs in
    let part = locals_part decimals (drop (length outputs + length inputs) kinds) locals in
    let outs = codes "#outs" in
    ap line
    (spaced-middle before outs (after ++ part)
    ∙ ap (λ (t : List ℕ). before_space before ++ (outs ++ t)) (after-append after part)
    ∙ sym (append_assoc (before_space before) outs (after_space after ++ after_space part))
    ∙ sym (append_assoc (before_space before ++ outs) (after_space after) (after_space part)))

-- ---- one text after another

pub appends-both : (a b c : Vec ℕ Global) (s t : List ℕ) → AddsText a b s → AddsText b c t → AddsText a c (s ++ t)
appends-both a b c s t first second =
    let one = first.capacity in
    let two = second.capacity in
    record {
      items = second.items ∙ ap (λ (bytes : List ℕ). bytes ++ t) first.items ∙ append_assoc a.items s t;
      capacity = omega arith;
    }

pub room-after : (a b : Vec ℕ Global) (s t : List ℕ) → AddsText a b s → HasRoom a (s ++ t) → HasRoom b t
room-after a b s t first room =
    let capacity = first.capacity in
    let count : length b.items ≡ length a.items + length s = ap (λ (bytes : List ℕ). length bytes) first.items ∙ length-append a.items s in
    omega (arith, length-append s t)

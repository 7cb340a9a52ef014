-- Words with one space between two.
use Rattle.std.proofs.Common.{◌≡◌, ℕ, List, [], ◌∷◌, ◌++◌, codes, decimal, refl, ap, sym, ◌∙◌, append-nil}
use Rattle.std.proofs.lemmas.Grind.{flat_map-append}
use Rattle.std.proofs.lemmas.List.{append_cancel_right}
use Rattle.lt_rif.specs.Trace.{end_number, end_words, line, spaced}
use Rattle.lt_rif.specs.declared.end.End.{End}
use Rattle.lt_trace.specs.End.{end_line}
use Rattle.lt_trace.specs.inner.Ends.{after_space, end_word_text}

spaced-is : (w : List ℕ) (ws : List (List ℕ)) → spaced (w ∷ ws) ≡ w ++ after_space ws
spaced-is w ws = refl

spaced-last : (w : List ℕ) (ws : List (List ℕ)) (d : List ℕ) → spaced (w ∷ (ws ++ d ∷ [])) ≡ w ++ (after_space ws ++ 32 ∷ d)
spaced-last w ws d =
    spaced-is w (ws ++ d ∷ [])
    ∙ ap (λ (t : List ℕ). w ++ t) (flat_map-append (λ word. 32 ∷ word) ws (d ∷ []) ∙ ap (λ (t : List ℕ). after_space ws ++ 32 ∷ t) (append-nil d))

-- the line of an end is that of its words
pub end-line-is : (e : End) (names : List (List ℕ)) (steps : ℕ) → end_line e names steps ≡ line (end_word_text e names steps)
end-line-is e names steps = ap line (spaced-last (codes "#end") (end_words e names) (decimal (end_number e steps)))

-- texts of the same line are the same
pub same-line : (text other : List ℕ) → line text ≡ line other → text ≡ other
same-line text other e = append_cancel_right text other (10 ∷ []) e

pub end-words-on : (e : End) (names : List (List ℕ)) (steps : ℕ) (text : List ℕ) → text ≡ end_word_text e names steps → line text ≡ end_line e names steps
end-words-on e names steps text h = ap line h ∙ sym (end-line-is e names steps)

pub end-words-back : (e : End) (names : List (List ℕ)) (steps : ℕ) (text : List ℕ) → line text ≡ end_line e names steps → text ≡ end_word_text e names steps
end-words-back e names steps text h = same-line text (end_word_text e names steps) (h ∙ end-line-is e names steps)

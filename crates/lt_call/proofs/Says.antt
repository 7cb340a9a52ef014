-- What is said of a session.
use Rattle.std.proofs.Common.{◌≡◌, ℕ, List, [], ◌∷◌, ◌++◌, append_assoc, codes, decimal, ap, sym, ◌∙◌}
use Rattle.lt_rif.specs.Trace.{who_text}
use Rattle.lt_rif.specs.declared.end.Who.{Who}
use Rattle.lt_call.specs.Lines.{fate_lines, fate_text}
use Rattle.lt_call.specs.declared.status.Fate.{Fate}
use Rattle.lt_call.specs.declared.status.Fate.TheVariants as fate

-- the beginning of a session's line
abbrev pub session_text : List ℕ → List ℕ
session_text number = codes "lurette: session " ++ (number ++ codes ": ")

session_line : (digits text : List ℕ) → session_text digits ++ text ≡ codes "lurette: session " ++ digits ++ codes ": " ++ text
session_line digits text = simp append_assoc

-- a session's line, from its beginning and how it ended
pub lines_of_fate : (n : ℕ) (how : Fate) (names : List (List ℕ)) (digits text : List ℕ) → digits ≡ decimal n → text ≡ fate_text how names → session_text digits ++ text ≡ fate_lines n how names
lines_of_fate n how names digits text digits_are text_is =
    ap (λ (d : List ℕ). session_text d ++ text) digits_are ∙ ap (λ (t : List ℕ). session_text (decimal n) ++ t) text_is ∙ session_line (decimal n) (fate_text how names)

-- a program that could not be started
pub unstarted_said : (how : Fate) (w : Who) (word : List ℕ) (names : List (List ℕ)) → how ≡ fate.Unstarted w → word ≡ who_text w → codes "device " ++ (word ++ (32 ∷ 48 ∷ 10 ∷ [])) ≡ fate_text how names
unstarted_said how w word names is word_is =
    ap (λ (t : List ℕ). codes "device " ++ (t ++ (32 ∷ 48 ∷ 10 ∷ []))) word_is
    ∙ ap (λ (t : List ℕ). codes "device " ++ t) (sym (append_assoc (who_text w) (32 ∷ 48 ∷ []) (10 ∷ [])))
    ∙ sym (ap (λ (x : Fate). fate_text x names) is)

-- The need in the line of a budget.
use Rattle.std.proofs.Common.{◌≡◌, ◌<◌, ◌-◌, ◌^◌, ℕ, List, [], ◌∷◌, ◌++◌, take, None, Some, Option, codes, decimal, ap, sym, ◌∙◌, append_assoc, arith}
use Rattle.lt_trace.specs.inner.Front.{behind}
use Rattle.lt_trace.specs.inner.Words.{cut, left, word_at}
use Rattle.lt_trace.proofs.Fronts.{behind_front}
use Rattle.lt_trace.proofs.Numbers.{decimal-back, digits-unspaced}
use Rattle.lt_trace.proofs.Words.{cut-word}

abbrev mark : List ℕ
mark = codes "#end budget "

behind-is : (text found rest : List ℕ) → behind text mark ≡ Some found → text ≡ mark ++ rest → found ≡ rest
behind-is text found rest b e = let both : Some found ≡ Some rest = sym b ∙ ap (λ (t : List ℕ). behind t mark) e ∙ behind_front mark rest in cc

cut-is : (text found : List ℕ) (need : ℕ) (rest : List ℕ) → need < 2 ^ 128 → behind text mark ≡ Some found → text ≡ mark ++ (decimal need ++ 32 ∷ rest) → cut (left found 0) ≡ Some (decimal need, rest ++ 32 ∷ [])
cut-is text found need rest small b e =
    let unspaced = digits-unspaced (decimal need) (decimal-back need small).0 in
    ap (λ (t : List ℕ). cut (t ++ 32 ∷ [])) (behind-is text found (decimal need ++ 32 ∷ rest) b e)
    ∙ ap cut (append_assoc (decimal need) (32 ∷ rest) (32 ∷ []))
    ∙ cut-word (decimal need) (rest ++ 32 ∷ []) unspaced

pub need-uncut : (text found : List ℕ) (need : ℕ) (rest : List ℕ) → need < 2 ^ 128 → behind text mark ≡ Some found → text ≡ mark ++ (decimal need ++ 32 ∷ rest) → cut (left found 0) ≡ word_at found 0 None → ⊥
need-uncut text found need rest small b e none_there = let both = sym (cut-is text found need rest small b e) ∙ none_there in cc

first_of : List ℕ → Option (List ℕ × List ℕ) → List ℕ
first_of d None = d
first_of d (Some x) = x.0

pub need-slice : (text found : List ℕ) (need : ℕ) (rest : List ℕ) (end : ℕ) → need < 2 ^ 128 → behind text mark ≡ Some found → text ≡ mark ++ (decimal need ++ 32 ∷ rest) → cut (left found 0) ≡ word_at found 0 (Some end) → take end found ≡ decimal need
unfolding first_of
need-slice text found need rest end small b e there =
    let both : word_at found 0 (Some end) ≡ Some (decimal need, rest ++ 32 ∷ []) = sym there ∙ cut-is text found need rest small b e in
    let word : take (end - 0) found ≡ decimal need = ap (first_of []) both in
    let same : end ≡ end - 0 = omega arith in
    ap (λ (n : ℕ). take n found) same ∙ word

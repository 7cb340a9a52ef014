use Rattle.std.proofs.Common.{ℕ, ◌≡◌, ◌∷◌, ◌++◌, None, ap, codes, decimal, map, string_bytes, sym, ◌∙◌}
use Rattle.lt_rif.specs.Trace.{end_number, end_words}
use Rattle.lt_trace.specs.inner.Ends.{after_space}
use Rattle.lt_trace.specs.inner.Front.{behind, is_same}
use Rattle.lt_trace.proofs.Fronts.{same_behind, same_none}
use Rattle.lt_trace.proofs.ending.has_words_of.Goals as goal

pub returns-in_default-behind_words : goal.returns-in_default-behind_words
returns-in_default-behind_words c =
    let names = map string_bytes c.args.names.now in
    let words = end_words c.args.end names in
    let tail = 32 ∷ decimal (end_number c.args.end c.args.steps) in
    let rest = c.in-Some.rest.now in
    let none_there : None ≡ behind rest (after_space words) = rw c.in_default-behind_words.is at c.behind_words.ensures ∙ ap (λ ws. behind rest (after_space ws)) c.words.ensures in
    sym (same_behind c.args.text.now (codes "#end") rest (after_space words ++ tail) (sym c.in-Some.ensures) ∙ same_none rest (after_space words) tail (sym none_there))

pub returns : goal.returns
returns c =
    let names = map string_bytes c.args.names.now in
    let words = end_words c.args.end names in
    let tail = 32 ∷ decimal (end_number c.args.end c.args.steps) in
    let rest = c.in-Some.rest.now in
    c.is_numbered.ensures ∙ ap (λ (n : ℕ). is_same c.in-Some-behind_words.rest.now (32 ∷ decimal n)) c.number.ensures
    ∙ sym (same_behind c.args.text.now (codes "#end") rest (after_space words ++ tail) (sym c.in-Some.ensures)
    ∙ same_behind rest (after_space words) c.in-Some-behind_words.rest.now tail (sym (c.in-Some-behind_words.ensures ∙ ap (λ ws. behind rest (after_space ws)) c.words.ensures)))

use Rattle.std.proofs.Common.{[], ◌∷◌, ap, option_map, sym, ◌∙◌}
use Rattle.lt_rif.specs.View.{words_of}
use Rattle.lt_trace.specs.inner.Ends.{after_space}
use Rattle.lt_trace.specs.inner.Front.{behind}
use Rattle.lt_trace.proofs.Fronts.{last_word, word_none, word_some}
use Rattle.lt_trace.proofs.front.behind_words.Goals as goal

pub returns-in_err-behind_word-in-Two : goal.returns-in_err-behind_word-in-Two
returns-in_err-behind_word-in-Two c =
    ap (option_map (λ rest. rest.now)) c.from_residual.ensures
    ∙ word_none c.args.text.now c.in-Two.first.now (c.in-Two.second.now ∷ []) c.in_err-behind_word-in-Two.ensures
    ∙ ap (λ w. behind c.args.text.now (after_space (words_of w))) (sym c.in-Two.is)

pub returns-in_err-rest-in-Three : goal.returns-in_err-rest-in-Three
returns-in_err-rest-in-Three c =
    ap (option_map (λ rest. rest.now)) c.from_residual-in_err-rest-in-Three.ensures
    ∙ word_none c.args.text.now c.in-Three.first.now (c.in-Three.second.now ∷ c.in-Three.third.now ∷ []) c.in_err-rest-in-Three.ensures
    ∙ ap (λ w. behind c.args.text.now (after_space (words_of w))) (sym c.in-Three.is)

pub returns-in_err-behind_word-in-Three : goal.returns-in_err-behind_word-in-Three
returns-in_err-behind_word-in-Three c =
    ap (option_map (λ rest. rest.now)) c.from_residual-in_err-behind_word-in-Three.ensures
    ∙ word_some c.args.text.now c.in-Three.first.now (c.in-Three.second.now ∷ c.in-Three.third.now ∷ []) c.in_ok-rest-in-Three.rest.now _ c.in_ok-rest-in-Three.ensures
    (word_none c.in_ok-rest-in-Three.rest.now c.in-Three.second.now (c.in-Three.third.now ∷ []) c.in_err-behind_word-in-Three.ensures)
    ∙ ap (λ w. behind c.args.text.now (after_space (words_of w))) (sym c.in-Three.is)

pub returns-in_ok-behind_word-in-Two : goal.returns-in_ok-behind_word-in-Two
returns-in_ok-behind_word-in-Two c =
    word_some c.args.text.now c.in-Two.first.now (c.in-Two.second.now ∷ []) c.in_ok-behind_word-in-Two.field-0.now _ c.in_ok-behind_word-in-Two.ensures
    (last_word c.in_ok-behind_word-in-Two.field-0.now c.in-Two.second.now _ c.behind_word-in-Two-2.ensures)
    ∙ ap (λ w. behind c.args.text.now (after_space (words_of w))) (sym c.in-Two.is)

pub returns-in_ok-behind_word-in-Three : goal.returns-in_ok-behind_word-in-Three
returns-in_ok-behind_word-in-Three c =
    word_some c.args.text.now c.in-Three.first.now (c.in-Three.second.now ∷ c.in-Three.third.now ∷ []) c.in_ok-rest-in-Three.rest.now _ c.in_ok-rest-in-Three.ensures
    (word_some c.in_ok-rest-in-Three.rest.now c.in-Three.second.now (c.in-Three.third.now ∷ []) c.in_ok-behind_word-in-Three.field-0.now _ c.in_ok-behind_word-in-Three.ensures
    (last_word c.in_ok-behind_word-in-Three.field-0.now c.in-Three.third.now _ c.behind_word-in-Three-3.ensures))
    ∙ ap (λ w. behind c.args.text.now (after_space (words_of w))) (sym c.in-Three.is)

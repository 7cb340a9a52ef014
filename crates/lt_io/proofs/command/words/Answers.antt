-- Words so far, and those of what is left.
use Rattle.std.proofs.Common.{rules, ◌++◌, List, ℕ, ap, sym, ◌∙◌}
use Rattle.lt_io.specs.Command.{texts_of, words_of}
use Rattle.lt_io.proofs.Words.{behind_is_shorter, joined, one_word, split_words}
use Rattle.lt_io.proofs.command.words.Goals as goal

pub loop-word-smaller : goal.loop-word-smaller
loop-word-smaller c = behind_is_shorter c.loop-word.rest.now c.in-Some.word.now c.in-Some.behind.now c.in-Some.ensures.cases

pub loop-word-preserved : goal.loop-word-preserved
loop-word-preserved c =
    let words = texts_of c.loop-word.words.items in
    let behind = words_of c.in-Some.behind.now in
    record {
      text = search rules;
      words = ap (λ (t : List (List ℕ)). t ++ behind) c.in_ok-add.ensures ∙ joined words c.in-Some.word.now behind
          ∙ ap (λ (t : List (List ℕ)). words ++ t) (sym (split_words c.loop-word.rest.now c.in-Some.word.now c.in-Some.behind.now c.in-Some.ensures.cases))
          ∙ c.loop-word.invariant.words;
    }

pub returns : goal.returns
returns c =
    let words = texts_of c.loop-word.words.items in
    c.in_ok-add-2.ensures ∙ ap (λ (t : List (List ℕ)). words ++ t) (sym (one_word c.loop-word.rest.now c.in_default.ensures.cases)) ∙ c.loop-word.invariant.words

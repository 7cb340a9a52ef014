-- What values of the code are to definitions.
use Rattle.std.specs.Prelude.{ℕ, List, [], ◌∷◌, drop}
use Rattle.lt_rif.specs.Reply.{Begun}
use Rattle.lt_rif.specs.declared.draft.Draft.{Draft}
use Rattle.lt_rif.specs.declared.end_words.EndWords.{EndWords}
use Rattle.lt_rif.specs.declared.end_words.EndWords.TheVariants as end_words

-- what has come of a reply, up to the last blank
abbrev pub begun : Draft → Begun
begun d = record { decimals = d.decimals; slots = drop d.filled d.slots.items; values = d.values.items; is_comment = d.is_comment; taken = d.taken; place = d.place }

-- the words of an end, in turn
abbrev pub words_of : EndWords → List (List ℕ)
words_of (end_words.One first) = first.now ∷ []
words_of (end_words.Two first second) = first.now ∷ second.now ∷ []
words_of (end_words.Three first second third) = first.now ∷ second.now ∷ third.now ∷ []

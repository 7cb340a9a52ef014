-- The words of a command.
use denote.Ref.{Bor}
use Rattle.std.specs.Prelude.{ℕ, Bool, List, [], ◌∷◌, ◌++◌, map, if◌then◌else◌}
use Rattle.std.specs.Char.{char_set_contains}

-- whether a byte is blank: a space, a tab, a line feed or a carriage return
abbrev pub is_blank : ℕ → Bool
is_blank byte = char_set_contains (32 ∷ 9 ∷ 10 ∷ 13 ∷ []) byte

-- a word before others, but none where it is empty
abbrev pub before : List ℕ → List (List ℕ) → List (List ℕ)
before [] words = words
before (b ∷ bytes) words = (b ∷ bytes) ∷ words

-- the words of a text before which a word has begun with these bytes
abbrev pub words_from : List ℕ → List ℕ → List (List ℕ)
words_from begun [] = before begun []
words_from begun (b ∷ bytes) = if is_blank b then before begun (words_from [] bytes) else words_from (begun ++ b ∷ []) bytes

-- the words of a text, in order: the longest runs of bytes that aren't blank
abbrev pub words_of : List ℕ → List (List ℕ)
words_of bytes = words_from [] bytes

-- the bytes of each word
abbrev pub texts_of : List (Bor (List ℕ)) → List (List ℕ)
texts_of words = map (λ word. word.now) words

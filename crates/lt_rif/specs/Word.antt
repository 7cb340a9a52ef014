-- Words: the longest runs of bytes that aren't blank.
use Rattle.std.specs.Prelude.{ℕ, Bool, ◌||◌, ◌==◌, nat_eq, List, [], ◌∷◌, ◌++◌, codes, if◌then◌else◌}
use Rattle.std.specs.List.{starts_with}
use Rattle.std.specs.Str.{bytes_eq}
use Rattle.lt_rif.specs.declared.word.WordClass.{WordClass}
use Rattle.lt_rif.specs.declared.word.WordClass.TheVariants as class

-- a tab, a line feed, a carriage return or a space
abbrev pub is_blank : ℕ → Bool
is_blank byte = byte == 9 || byte == 10 || byte == 13 || byte == 32

-- The words of some bytes. Between two blanks that stand side by side is the empty word.
pub data Words : Type 0 where
  -- what stands after the last blank
  last : (text : List ℕ) → Words
  -- a word, the blank after it, the bytes after that, and the words of these
  word : (text : List ℕ) (blank : ℕ) (after : List ℕ) → Words → Words

-- the words of a text without blanks and the bytes after it
abbrev pub words_of : List ℕ → List ℕ → Words
words_of text [] = last text
words_of text (b ∷ bs) = if is_blank b then word text b bs (words_of [] bs) else words_of (text ++ b ∷ []) bs

-- what a word is that stands outside comments
unfoldable pub class_of : List ℕ → WordClass
class_of text =
    if bytes_eq text [] || bytes_eq text (codes "#outs") then class.Passed
    else (if starts_with nat_eq text (codes "--") || starts_with nat_eq text (codes "#") then class.Comment else class.Value)

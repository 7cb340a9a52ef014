-- What a plant replies with.
use Rattle.std.specs.Prelude.{ℕ, List, [], ◌∷◌}
use Rattle.lt_num.specs.Text.{text_of}
use Rattle.lt_plants.specs.Replies.{letter}
use Rattle.lt_plants.specs.declared.playing.Told.{Told}
use Rattle.lt_plants.specs.declared.playing.Told.TheVariants as told

-- the text of a reply
abbrev pub told_text : Told → List ℕ
told_text (told.Truth truth) = letter truth ∷ []
told_text (told.Number n) = text_of 0 n

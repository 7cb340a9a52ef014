-- Chunks: what a reader takes at once.
use Rattle.std.specs.Prelude.{◌≡◌, ℕ, false, List, [], ◌∷◌}
use Rattle.std.specs.Bool.{MatchBool}
use Rattle.std.specs.List.{list_any}
use Rattle.lt_rif.specs.Word.{is_blank}

-- one blank, or one byte or more that aren't blank
abbrev pub IsChunk : List ℕ → Type 0
IsChunk [] = ⊥
IsChunk (b ∷ bs) = MatchBool (is_blank b) (bs ≡ []) (list_any is_blank bs ≡ false)

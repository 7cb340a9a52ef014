-- The point of a range that a word aims at.
use Rattle.std.specs.Prelude.{◌≡◌, ◌↔◌, ℕ, ◌%◌, ◌<◌, ℤ, pos}
use Rattle.lt_num.specs.Range.{HasPoints, IsPoint, count_of, point_at}
use Rattle.lt_num.specs.declared.range.Range.{Range}

-- the point at the place that is the word's remainder by the count of the points
abbrev pub target_of : Range → ℕ → ℤ
target_of range word = point_at range (pos (word % count_of range))

-- Each point of a range is the target of exactly the words of one remainder.
abbrev pub EachIsATarget : Type 0
EachIsATarget = (range : Range) (raw : ℤ) → HasPoints range → IsPoint range raw →
    (remainder : ℕ) × (remainder < count_of range) × ((word : ℕ) → (target_of range word ≡ raw) ↔ (word % count_of range ≡ remainder))

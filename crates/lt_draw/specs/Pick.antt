-- A pick by weight.
use Rattle.std.specs.Prelude.{◌≡◌, ℕ, suc, ◌-◌, ◌%◌, ◌<◌, ◌≤◌, ◌==◌, nat_lt, if◌then◌else◌, List, [], ◌∷◌, length, sum, take, count_by, slice_index}
use Rattle.std.specs.List.{range_with_len}

-- the first place whose cumulated weight is greater than a remainder
abbrev pub place_over : List ℕ → ℕ → ℕ
place_over [] remainder = 0
place_over (weight ∷ weights) remainder = if nat_lt remainder weight then 0 else suc (place_over weights (remainder - weight))

-- the place that a word picks, by its remainder by the sum of the weights
abbrev pub picked : List ℕ → ℕ → ℕ
picked weights word = place_over weights (word % sum weights)

-- The weights before the place that a remainder picks sum to no more than the remainder, and with its own to more.
abbrev pub PicksTheFirstOver : Type 0
PicksTheFirstOver = (weights : List ℕ) (remainder : ℕ) → remainder < sum weights →
    (place_over weights remainder < length weights)
    × (sum (take (place_over weights remainder) weights) ≤ remainder)
    × (remainder < sum (take (suc (place_over weights remainder)) weights))

-- Each place is picked by exactly as many remainders as its weight: never, where that is 0.
abbrev pub PicksByWeight : Type 0
PicksByWeight = (weights : List ℕ) (place : ℕ) →
    count_by (λ remainder. place_over weights remainder == place) (range_with_len 0 (sum weights)) ≡ slice_index weights place

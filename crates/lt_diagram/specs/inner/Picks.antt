-- The number that a choice between two is, if that is plain.
use Rattle.std.specs.Prelude.{◌≡◌, ℕ, ◌⊎◌}
use Rattle.lt_diagram.specs.declared.trio.Trio.{Trio}

-- It is the first where the condition is true or both are one; the second where it is false; and the condition where the first is
-- true and the second false.
abbrev pub Picks : Trio → ℕ → Type 0
Picks trio n =
    ((n ≡ trio.first) × (trio.condition ≡ 1))
    ⊎ (((n ≡ trio.first) × (trio.first ≡ trio.second))
    ⊎ (((n ≡ trio.second) × (trio.condition ≡ 0))
    ⊎ ((n ≡ trio.condition) × (trio.first ≡ 1) × (trio.second ≡ 0))))

-- The greatest numbers that the rules allow.
use Rattle.std.specs.Prelude.{ℕ}

-- how many decimals a real may have
abbrev pub most_decimals : ℕ
most_decimals = 6

-- how large in size a raw number may be
abbrev pub most_raw : ℕ
most_raw = 1_000_000_000_000

-- how many digits a number of a text may have in all
abbrev pub most_digits : ℕ
most_digits = 18

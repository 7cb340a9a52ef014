-- The greatest numbers that the rules allow.
use Rattle.std.specs.Prelude.{ℕ}

-- how many variables a matrix may have, with the constant 0
abbrev pub most_variables : ℕ
most_variables = 129

-- how large in size a bound may be that is stated
abbrev pub most_bound : ℕ
most_bound = 4_000_000_000_000

-- how large in size one may be that follows: as 130 of these
abbrev pub most_sum : ℕ
most_sum = 520_000_000_000_000

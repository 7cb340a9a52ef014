-- The greatest numbers that the rules allow.
use Rattle.std.specs.Prelude.{ℕ}

-- how many flags a diagram may be over
abbrev pub most_flags : ℕ
most_flags = 16

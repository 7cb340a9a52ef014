-- How deeply a program may be nested.
use Rattle.std.specs.Prelude.{ℕ}

-- how many levels of nesting may be open at once
abbrev pub most_levels : ℕ
most_levels = 200

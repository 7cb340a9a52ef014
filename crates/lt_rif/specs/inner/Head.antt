-- What the lines of steps begin with whose numbers differ in the last digit alone.
use Rattle.std.specs.Prelude.{◌==◌, ℕ, if◌then◌else◌, List, [], ◌++◌, codes, decimal}

-- the digits of a number but its last, by the number without it
abbrev pub leading : ℕ → List ℕ
leading tens = if tens == 0 then [] else decimal tens

-- the mark, and the digits of a number; nothing for 0
abbrev pub head_text : ℕ → List ℕ
head_text tens = if tens == 0 then [] else codes "#step " ++ decimal tens

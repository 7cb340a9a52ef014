-- What a memo keeps.
use Rattle.std.specs.Prelude.{ℕ, List, map, Option}
use Rattle.lt_space.specs.inner.Cell.{number_in}
use Rattle.lt_space.specs.declared.memo.Memo.{Memo}

-- the numbers of a memo
abbrev pub memo_numbers : Memo → List (Option ℕ)
memo_numbers memo = map (number_in memo.stamp) memo.cells.items

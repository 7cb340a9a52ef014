-- Cells of a memo.
use Rattle.std.specs.Prelude.{ℕ, Bool, List, nat_eq, nat_le, Option, None, Some, if◌then◌else◌}
use Rattle.std.specs.List.{list_all}
use Rattle.lt_space.specs.declared.memo.Cell.{Cell}

-- the number in a cell, if it was written since the last clearing
abbrev pub number_in : ℕ → Cell → Option ℕ
number_in stamp cell = if nat_eq cell.stamp stamp then Some cell.number else None

-- whether no cell has a later stamp
abbrev pub are_past : ℕ → List Cell → Bool
are_past stamp cells = list_all (λ cell. nat_le cell.stamp stamp) cells

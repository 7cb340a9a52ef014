-- What is told of constraints by number.
use Rattle.std.specs.Prelude.{◌≡◌, ℕ, nat_eq, Bool, None, Some, if◌then◌else◌, slice_get}
use Rattle.std.specs.declared.option.Option.{Option}
use Rattle.lt_term.specs.Tree.{Lasts}
use Rattle.lt_check.specs.declared.memo.Memo.{Memo}

-- what is told by an entry, at this time
abbrev pub told_by : ℕ → Option (ℕ × Bool) → Option Bool
told_by time None = None
told_by time (Some entry) = if nat_eq entry.0 time then Some entry.1 else None

-- what is told of a constraint
abbrev pub told_of : Memo → ℕ → Option Bool
told_of memo c = told_by memo.time (slice_get memo.told.items c)

-- what is told is so, where the locals of the memo are in scope
abbrev pub Tells : (Lasts → ℕ → Bool) → Memo → Type 0
Tells holds memo = (c : ℕ) (b : Bool) → told_of memo c ≡ Some b → b ≡ holds memo.lasts.items c

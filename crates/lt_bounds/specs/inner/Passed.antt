-- What a pass, or a row of it, did.
use Rattle.std.specs.Prelude.{List}
use Rattle.lt_bounds.specs.Tightening.{Outcome, empty, narrowed}
use Rattle.lt_num.specs.declared.interval.Interval.{Interval}
use Rattle.lt_bounds.specs.declared.tightening.Passed.{Passed}
use Rattle.lt_bounds.specs.declared.tightening.Passed.TheVariants as passes

-- the outcome that it tells, with the ranges after it
abbrev pub passed : Passed → List Interval → Outcome
passed passes.Empty ranges = empty ranges
passed passes.Kept ranges = narrowed ranges
passed passes.Changed ranges = narrowed ranges

-- no range was changed
abbrev pub IsKept : Passed → Type 0
IsKept passes.Empty = ⊥
IsKept passes.Kept = Unit {0}
IsKept passes.Changed = ⊥

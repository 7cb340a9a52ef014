use Rattle.std.proofs.Common.{◌≡◌, ◌-◌, drop, length}
use Rattle.lt_bounds.specs.Tightening.{is_broken}
use Rattle.lt_bounds.proofs.tightening.is_broken.Given as goal

-- it is left to the cells that were not looked at
abbrev pub invariant-loop-i : goal.invariant-loop-i
invariant-loop-i l = is_broken l.row (length l.row - 1) ≡ is_broken (drop l.i l.row) (length l.row - 1 - l.i)

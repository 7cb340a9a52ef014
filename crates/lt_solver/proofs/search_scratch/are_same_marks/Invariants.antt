use Rattle.std.proofs.Common.{◌≡◌, take}
use Rattle.lt_solver.proofs.search_scratch.are_same_marks.Given as goal

-- those so far are equal
abbrev pub invariant-loop-i : goal.invariant-loop-i
invariant-loop-i l = take l.i l.one ≡ take l.i l.other

use Rattle.std.proofs.Common.{◌≡◌, take}
use Rattle.lt_check.proofs.memo.put.Given as goal

-- the locals so far
abbrev pub invariant-loop-last : goal.invariant-loop-last
invariant-loop-last l = l.lasts.items ≡ take l.last-index l.from

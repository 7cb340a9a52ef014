use Rattle.std.proofs.Common.{◌≡◌, length, take}
use Rattle.lt_check.proofs.memo.are_same.Given as goal

-- those so far are the same
abbrev pub invariant-loop-number : goal.invariant-loop-number
invariant-loop-number l = record {
  long : length l.one ≡ length l.other;
  same : take l.number l.one ≡ take l.number l.other;
}

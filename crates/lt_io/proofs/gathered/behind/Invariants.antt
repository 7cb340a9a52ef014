use Rattle.std.proofs.Common.{◌≡◌, ◌+◌, length, sum, take}
use Rattle.lt_io.proofs.gathered.behind.Given as goal

-- the lengths so far reach up to where the rest of the place begins, and so many are left
abbrev pub invariant-loop-length : goal.invariant-loop-length
invariant-loop-length l = record {
  place : sum (take l.length-index l.lengths) + l.place ≡ l.fn.place;
  left : l.length-index + l.behind ≡ length l.lengths;
}

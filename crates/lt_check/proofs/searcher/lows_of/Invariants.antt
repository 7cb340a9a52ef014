use Rattle.std.proofs.Common.{◌≡◌, take}
use Rattle.lt_check.specs.inner.Searches.{lows_of}
use Rattle.lt_check.proofs.searcher.lows_of.Given as goal

-- the low ends so far
abbrev pub invariant-loop-range : goal.invariant-loop-range
invariant-loop-range l = l.lows.items ≡ lows_of (take l.range-index l.ranges)

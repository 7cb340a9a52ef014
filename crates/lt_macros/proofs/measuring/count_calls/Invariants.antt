use Rattle.std.proofs.Common.{◌≡◌, ◌+◌, map, take}
use Rattle.lt_macros.specs.Tree.{call}
use Rattle.lt_macros.specs.inner.Figures.{Figure, calls_figure}
use Rattle.lt_macros.specs.inner.Tallies.{counted}
use Rattle.lt_macros.proofs.measuring.count_calls.Given as goal

-- the runs that are passed are counted
abbrev pub invariant-loop-call : goal.invariant-loop-call
invariant-loop-call l = (f : Figure) → counted l.tally f ≡ counted l.fn.tally f + calls_figure f (map call (take l.call-index l.calls))

use Rattle.std.proofs.Common.{◌≡◌, ◌+◌, map, take}
use Rattle.lt_macros.specs.Tree.{placed}
use Rattle.lt_macros.specs.inner.Figures.{Figure, arguments_figure}
use Rattle.lt_macros.specs.inner.Tallies.{counted}
use Rattle.lt_macros.proofs.measuring.count_arguments.Given as goal

-- the arguments that are passed are counted
abbrev pub invariant-loop-argument : goal.invariant-loop-argument
invariant-loop-argument l = (f : Figure) → counted l.tally f ≡ counted l.fn.tally f + arguments_figure f (map placed (take l.argument-index l.arguments))

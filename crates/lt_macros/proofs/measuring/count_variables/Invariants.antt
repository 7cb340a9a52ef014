use Rattle.std.proofs.Common.{◌≡◌, ◌+◌, map, take}
use Rattle.lt_macros.specs.Tree.{declared}
use Rattle.lt_macros.specs.inner.Figures.{Figure, variables_figure}
use Rattle.lt_macros.specs.inner.Tallies.{counted}
use Rattle.lt_macros.proofs.measuring.count_variables.Given as goal

-- the variables that are passed are counted
abbrev pub invariant-loop-variable : goal.invariant-loop-variable
invariant-loop-variable l = (f : Figure) → counted l.tally f ≡ counted l.fn.tally f + variables_figure f (map declared (take l.variable-index l.variables))

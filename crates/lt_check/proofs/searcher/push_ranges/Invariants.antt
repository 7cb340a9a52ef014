use Rattle.std.proofs.Common.{◌≡◌, ◌++◌, map, take}
use Rattle.lt_term.specs.SceneView.{variable}
use Rattle.lt_instant.specs.Solved.{ranges_of_all}
use Rattle.lt_check.proofs.searcher.push_ranges.Given as goal

-- the ranges so far
abbrev pub invariant-loop-variable : goal.invariant-loop-variable
invariant-loop-variable l = l.ranges.items ≡ l.fn.ranges.items ++ ranges_of_all (map variable (take l.variable-index l.variables))

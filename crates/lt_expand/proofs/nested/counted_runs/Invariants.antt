use Rattle.std.proofs.Common.{◌≡◌, ◌≤◌, List, map, min, take}
use Rattle.lt_ast.specs.View.{run}
use Rattle.lt_expand.specs.Nested.{Counted, counted_runs}
use Rattle.lt_expand.specs.inner.Nesting.{Tells}
use Rattle.lt_expand.proofs.nested.counted_runs.Given as goal

abbrev pub invariant-loop-declared : goal.invariant-loop-declared
invariant-loop-declared l = (l.sum ≤ 17) × ((known : List Counted) → Tells known l.nodes → l.sum ≡ min (counted_runs known (map run (take l.declared-index l.runs))) 17)

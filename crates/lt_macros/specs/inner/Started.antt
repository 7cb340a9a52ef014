-- What is to be counted, wherever it stands.
use Rattle.std.specs.Prelude.{ℕ, ◌+◌, List}
use Rattle.lt_macros.specs.Denotation.{Numbers}
use Rattle.lt_macros.specs.inner.Counting.{pending_figure, waiting}
use Rattle.lt_macros.specs.inner.Figures.{Figure}
use Rattle.lt_macros.specs.inner.Tallies.{counted}
use Rattle.lt_macros.specs.declared.scope.Entry.{Entry}
use Rattle.lt_macros.specs.declared.counting.Count.{Count}

-- what was counted, and what is left, if it stands behind so much
abbrev pub sum_from : ℕ → List Entry → Figure → Count → Numbers → ℕ
sum_from decimals rows f c n = counted c.tally f + pending_figure decimals rows f (waiting c) n

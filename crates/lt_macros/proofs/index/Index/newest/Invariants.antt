use Rattle.lt_macros.specs.inner.Keyed.{keys}
use Rattle.lt_macros.proofs.Indexes.{IsAbove}
use Rattle.lt_macros.proofs.index.Index.newest.Given as goal

-- what is older isn't passed
abbrev pub invariant-loop-number : goal.invariant-loop-number
invariant-loop-number l =
    record {
      above : IsAbove (keys l.self) l.fn.key l.count l.number;
    }

abbrev pub decreases-loop-number : goal.decreases-loop-number
decreases-loop-number l = l.number

use Rattle.std.proofs.Common.{◌≡◌, ◌++◌, take}
use Rattle.lt_term.specs.inner.Alike.{scaled}
use Rattle.lt_term.proofs.tally.with_more_raises.Given as goal

-- the leaves so far
abbrev pub invariant-loop-exception : goal.invariant-loop-exception
invariant-loop-exception l = l.raises.items ≡ l.fn.raises.items ++ scaled l.copies (take l.exception-index l.exception-items)

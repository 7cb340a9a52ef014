use Rattle.std.proofs.Common.{◌≡◌, ◌≤◌, length, take}
use Rattle.lt_macros.specs.inner.Keyed.{keys}
use Rattle.lt_macros.proofs.index.Index.truncate.Given as goal

-- the older keys stay
abbrev pub invariant-loop-self : goal.invariant-loop-self
invariant-loop-self l =
    record {
      enough : l.len ≤ length (keys l.self);
      same : take l.len (keys l.self) ≡ take l.len (keys l.fn.self);
    }

abbrev pub decreases-loop-self : goal.decreases-loop-self
decreases-loop-self l = length (keys l.self)

use Rattle.std.proofs.Common.{◌≡◌, not, nat_eq, take}
use Rattle.std.specs.List.{filter}
use Rattle.lt_term.proofs.tally.others_raised.Given as goal

-- the leaves so far
abbrev pub invariant-loop-other : goal.invariant-loop-other
invariant-loop-other l = l.kept.items ≡ filter (λ r. not (nat_eq r.0 l.exception)) (take l.other-index l.other-items)

use Rattle.std.proofs.Common.{◌≡◌, nat_eq, if◌then◌else◌, take}
use Rattle.std.specs.Prelude.{sum_by}
use Rattle.lt_term.specs.Size.{capped}
use Rattle.lt_term.proofs.tally.raised.Given as goal

-- the leaves so far
abbrev pub invariant-loop-other : goal.invariant-loop-other
invariant-loop-other l = l.all ≡ capped (sum_by (λ r. if nat_eq r.0 l.exception then r.1 else 0) (take l.other-index l.other-items))

use Rattle.std.proofs.Common.{◌≡◌, ◌+◌, ◌*◌, take}
use Rattle.std.specs.Prelude.{sum_by}
use Rattle.lt_term.specs.Size.{capped}
use Rattle.lt_term.proofs.tally.total.Given as goal

-- the leaves so far, beside all other nodes
abbrev pub invariant-loop-number : goal.invariant-loop-number
invariant-loop-number l = l.all ≡ capped (l.tally.others * 1 + (l.tally.vanishes * 1 + (l.tally.goes * 1 + sum_by (λ r. r.1 * 1) (take l.number-index l.number-items))))

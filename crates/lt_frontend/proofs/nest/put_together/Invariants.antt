use Rattle.std.proofs.Common.{◌≡◌}
use Rattle.lt_frontend.specs.Nest.{Runs}
use Rattle.lt_frontend.proofs.Rows.{pairs_before, runs_before}
use Rattle.lt_frontend.proofs.nest.put_together.Given as goal

-- what is made is made of what was there
abbrev pub invariant-loop-call : goal.invariant-loop-call
invariant-loop-call l = (rest : Runs) → runs_before l.items.items rest ≡ pairs_before l.yielded rest

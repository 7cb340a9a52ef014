use Rattle.std.proofs.Common.{◌≡◌, drop}
use Rattle.lt_instant.specs.Solved.{is_in_scope}
use Rattle.lt_check.proofs.scopes.is_in_scope.Given as goal

-- it is left to the locals that were not looked at
abbrev pub invariant-loop-local : goal.invariant-loop-local
invariant-loop-local l = is_in_scope l.lasts l.number ≡ is_in_scope (drop l.local-index l.lasts) l.number

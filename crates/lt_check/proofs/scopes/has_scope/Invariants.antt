use Rattle.std.proofs.Common.{◌≡◌, drop}
use Rattle.lt_check.specs.inner.Wanted.{has_scope}
use Rattle.lt_check.proofs.scopes.has_scope.Given as goal

-- it is left to the marks that were not looked at
abbrev pub invariant-loop-number : goal.invariant-loop-number
invariant-loop-number l = has_scope l.lasts 0 l.marks ≡ has_scope l.lasts l.number (drop l.number l.marks)

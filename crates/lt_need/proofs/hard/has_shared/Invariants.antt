use Rattle.std.proofs.Common.{◌≡◌, false, take}
use Rattle.lt_need.specs.inner.Uses.{has_shared}
use Rattle.lt_need.proofs.hard.has_shared.Given as goal

-- none of those before has one
abbrev pub invariant-loop-place : goal.invariant-loop-place
invariant-loop-place l = has_shared l.shared (take l.place l.terms) ≡ false

use Rattle.std.proofs.Common.{◌≡◌, drop}
use Rattle.lt_num.specs.Literal.{continues_number}
use Rattle.lt_plants.proofs.real.continues_number.Given as goal

-- the bytes so far are digits
abbrev pub invariant-loop-place : goal.invariant-loop-place
invariant-loop-place l = continues_number (drop l.place l.text) ≡ continues_number l.text

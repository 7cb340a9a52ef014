use Rattle.std.proofs.Common.{◌≡◌, drop}
use Rattle.lt_term.specs.Advanced.{value_among}
use Rattle.lt_marks.proofs.going_on.value_among.Given as goal

-- it is left to the values that were not looked at
abbrev pub invariant-loop-other : goal.invariant-loop-other
invariant-loop-other l = value_among l.values l.local l.value ≡ value_among (drop l.other-index l.values) l.local l.value

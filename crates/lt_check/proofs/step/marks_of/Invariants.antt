use Rattle.std.proofs.Common.{◌≡◌, map, take}
use Rattle.std.specs.Prelude.{is_some}
use Rattle.lt_check.proofs.step.marks_of.Given as goal

-- the marks so far
abbrev pub invariant-loop-local : goal.invariant-loop-local
invariant-loop-local l = l.marks.items ≡ map is_some (take l.local-index l.locals)

use Rattle.std.proofs.Common.{◌≡◌, ◌++◌, map, take}
use Rattle.lt_legal.specs.Follows.{local_raw}
use Rattle.lt_check.proofs.step.push_locals.Given as goal

-- the raw numbers so far
abbrev pub invariant-loop-local : goal.invariant-loop-local
invariant-loop-local l = l.raws.items ≡ l.fn.raws.items ++ map local_raw (take l.local-index l.locals)

use Rattle.std.proofs.Common.{◌≡◌, ◌++◌, map, take}
use Rattle.lt_num.specs.Value.{raw_of}
use Rattle.lt_check.proofs.step.push_outputs.Given as goal

-- the raw numbers so far
abbrev pub invariant-loop-output : goal.invariant-loop-output
invariant-loop-output l = l.raws.items ≡ l.fn.raws.items ++ map raw_of (take l.output-index l.outputs)

use Rattle.std.proofs.Common.{take}
use Rattle.lt_expand.proofs.Given.{IsGiven}
use Rattle.lt_expand.proofs.calls.put_arguments.Given as goal

abbrev pub invariant-loop-argument : goal.invariant-loop-argument
invariant-loop-argument l = IsGiven l.initial.table l.table (take l.argument-index l.written) l.numbers.items

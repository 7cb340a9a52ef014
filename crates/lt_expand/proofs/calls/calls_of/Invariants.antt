use Rattle.std.proofs.Common.{take}
use Rattle.lt_macros.specs.Tree.{node}
use Rattle.lt_expand.proofs.Given.{AreGiven}
use Rattle.lt_expand.proofs.calls.calls_of.Given as goal

abbrev pub invariant-loop-run : goal.invariant-loop-run
invariant-loop-run l = AreGiven (node l.from) (take l.run-index l.run-items) l.calls.items

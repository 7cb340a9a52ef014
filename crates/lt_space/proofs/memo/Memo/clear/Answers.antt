use Rattle.std.proofs.Common.{◌+◌, arith}
use Rattle.lt_space.proofs.Memos.{later_free, later_past}
use Rattle.lt_space.proofs.memo.Memo.clear.Goals as goal

pub invariant_of-self : goal.invariant_of-self
invariant_of-self c = let s = c.args.self.now in record { past = later_past s.stamp (s.stamp + 1) s.cells.items s.past (omega arith) }

pub returns-else-self-clause-free : goal.returns-else-self-clause-free
returns-else-self-clause-free c = let s = c.args.self.now in later_free s.stamp (s.stamp + 1) s.cells.items s.past (omega arith)

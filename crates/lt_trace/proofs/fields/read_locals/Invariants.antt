use Rattle.std.proofs.Common.{◌≡◌, length}
use Rattle.lt_trace.specs.inner.Words.{left, read_locals}
use Rattle.lt_trace.proofs.fields.read_locals.Given as goal

-- what is still to be read, with what was read, is what is to be read in all
abbrev pub invariant-loop-slots : goal.invariant-loop-slots
invariant-loop-slots l = read_locals l.decimals l.fn.slots (left l.line l.from) l.fn.locals.items ≡ read_locals l.decimals l.slots (left l.line l.at) l.locals.items

abbrev pub decreases-loop-slots : goal.decreases-loop-slots
decreases-loop-slots l = length l.slots

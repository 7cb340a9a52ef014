use Rattle.std.proofs.Common.{◌≡◌, length}
use Rattle.lt_trace.specs.inner.Words.{left, read_values}
use Rattle.lt_trace.proofs.fields.read_values.Given as goal

-- what is still to be read, with what was read, is what is to be read in all
abbrev pub invariant-loop-slots : goal.invariant-loop-slots
invariant-loop-slots l = read_values l.decimals l.fn.slots (left l.line l.from) l.fn.values.items ≡ read_values l.decimals l.slots (left l.line l.at) l.values.items

abbrev pub decreases-loop-slots : goal.decreases-loop-slots
decreases-loop-slots l = length l.slots

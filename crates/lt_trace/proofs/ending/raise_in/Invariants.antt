use Rattle.std.proofs.Common.{◌≡◌, ◌≤◌, ◌<◌, ◌-◌, ℕ, length, map, string_bytes}
use Rattle.lt_rif.specs.Trace.{line}
use Rattle.lt_rif.specs.declared.end.End.TheVariants as end
use Rattle.lt_trace.specs.End.{end_line}
use Rattle.lt_trace.proofs.ending.raise_in.Given as goal

-- it is none of those so far
abbrev pub invariant-loop-exception : goal.invariant-loop-exception
invariant-loop-exception l = record {
  none : (z : ℕ) → z < l.exception → line l.text ≡ end_line (end.Raise z) (map string_bytes l.names) l.steps → ⊥;
  within : l.exception ≤ l.count;
  count : l.count ≡ length l.names;
}

abbrev pub decreases-loop-exception : goal.decreases-loop-exception
decreases-loop-exception l = l.count - l.exception

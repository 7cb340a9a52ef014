use Rattle.std.proofs.Common.{◌≡◌, drop, map, string_bytes}
use Rattle.lt_rif.specs.Trace.{line}
use Rattle.lt_rif.specs.declared.end.End.{End}
use Rattle.lt_trace.specs.End.{end_line}
use Rattle.lt_trace.specs.inner.Ends.{IsIn}
use Rattle.lt_trace.proofs.ending.find_among.Given as goal

-- it is none of those so far
abbrev pub invariant-loop-end : goal.invariant-loop-end
invariant-loop-end l = (e : End) → IsIn e l.ends → line l.text ≡ end_line e (map string_bytes l.names) l.steps → IsIn e (drop l.end-index l.ends)

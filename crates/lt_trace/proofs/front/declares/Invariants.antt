use Rattle.std.proofs.Common.{◌≡◌, length, map}
use Rattle.std.specs.List.{flat_map}
use Rattle.lt_rif.specs.Trace.{declared_text, declared_variable}
use Rattle.lt_trace.specs.Lines.{declaration}
use Rattle.lt_trace.specs.inner.Front.{is_same}
use Rattle.lt_trace.proofs.front.declares.Given as goal

-- what is left of the line declares what is left of the variables, exactly where the line declares all
abbrev pub invariant-loop-variables : goal.invariant-loop-variables
invariant-loop-variables l = is_same l.line (declaration l.mark (map declared_variable l.fn.variables)) ≡ is_same l.rest (flat_map declared_text (map declared_variable l.variables))

abbrev pub decreases-loop-variables : goal.decreases-loop-variables
decreases-loop-variables l = length l.variables

use Rattle.std.proofs.Common.{◌≡◌, ◌≤◌, ◌++◌, length, map, vec_capacity}
use Rattle.std.specs.List.{flat_map}
use Rattle.lt_rif.specs.Room.{HasRoom}
use Rattle.lt_rif.specs.Trace.{declared_variable, declared_text}
use Rattle.lt_rif.proofs.trace.append_declared.Given as goal

-- what is written so far, and the variables to come, are the whole
abbrev pub invariant-loop-variables : goal.invariant-loop-variables
invariant-loop-variables l = record {
  items : l.into.items ++ flat_map declared_text (map declared_variable l.variables) ≡ l.fn.into.items ++ flat_map declared_text (map declared_variable l.fn.variables);
  capacity : vec_capacity l.fn.into ≤ vec_capacity l.into;
  room : HasRoom l.into (flat_map declared_text (map declared_variable l.variables));
}

abbrev pub decreases-loop-variables : goal.decreases-loop-variables
decreases-loop-variables l = length l.variables

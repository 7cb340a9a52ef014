-- The shape of a scenario's traces.
use Rattle.std.specs.Prelude.{map, min, None, Some, true}
use Rattle.lt_num.specs.Bounds.{most_decimals}
use Rattle.lt_rif.specs.Trace.{DeclaredVariable}
use Rattle.lt_rif.specs.declared.slot.Slot.{Slot}
use Rattle.lt_term.specs.Scene.{Scene, Variable}
use Rattle.lt_trace.specs.Shape.{Shape}

-- a variable as a header declares it
abbrev pub declared_as : Variable → DeclaredVariable
declared_as v = record { name = v.name; kind = v.kind }

-- the slot of a value of any size that numbers may have
abbrev pub open_slot : Variable → Slot
open_slot v = record { kind = v.kind; range = None; keep = true }

-- the slot of a value within the variable's range
abbrev pub ranged_slot : Variable → Slot
ranged_slot v = record { kind = v.kind; range = Some (record { low = v.range.low; high = v.range.high }); keep = true }

-- The shape of a scenario's traces. A scenario has no more decimals than numbers may have. Outputs
-- and locals that are out of their ranges are read, and no step of the scenario then; inputs that
-- are out of theirs are no part of a trace, since no reply has them.
abbrev pub trace_shape : Scene → Shape
trace_shape s = record {
  decimals = min s.decimals most_decimals;
  declared = record {
    outputs = map declared_as s.outputs;
    inputs = map declared_as s.inputs;
    locals = map declared_as s.locals;
  };
  outputs = map open_slot s.outputs;
  inputs = map ranged_slot s.inputs;
  locals = map open_slot s.locals;
  exceptions = s.exceptions;
}

-- What the code's values stand for.
use Rattle.std.specs.Prelude.{map, string_bytes}
use Rattle.lt_rif.specs.Trace.{declared_variable}
use Rattle.lt_trace.specs.Shape.{Declarations, Shape}
use Rattle.lt_trace.specs.Told.{Shown, Told}
use Rattle.lt_trace.specs.declared.recorded.Recorded.{Recorded}
use Rattle.lt_trace.specs.declared.recorded.RecordedStep.{RecordedStep}
use Rattle.lt_trace.specs.declared.shape.Declarations as code_declarations
use Rattle.lt_trace.specs.declared.shape.Shape as code

abbrev pub declarations : code_declarations.Declarations → Declarations
declarations d = record {
  outputs = map declared_variable d.outputs.items;
  inputs = map declared_variable d.inputs.items;
  locals = map declared_variable d.locals.items;
}

abbrev pub shape_view : code.Shape → Shape
shape_view s = record {
  decimals = s.decimals;
  declared = declarations s.declared;
  outputs = s.outputs.items;
  inputs = s.inputs.items;
  locals = s.locals.items;
  exceptions = map string_bytes s.exceptions.items;
}

abbrev pub step_view : RecordedStep → Shown
step_view r = record { outputs = r.outputs.items; inputs = r.inputs.items; locals = r.locals.items }

abbrev pub told : Recorded → Told
told r = record { steps = map step_view r.steps.items; end = r.end }

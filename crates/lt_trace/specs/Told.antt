-- What a trace tells.
use Rattle.std.specs.Prelude.{List}
use Rattle.std.specs.declared.option.Option.{Option}
use Rattle.lt_num.specs.declared.value.Value.{Value}
use Rattle.lt_trace.specs.declared.recorded.RecordedEnd.{RecordedEnd}

-- a step as a trace shows it: a local out of scope has no value
pub record Shown : Type 0 where
  pub outputs : List Value
  pub inputs : List Value
  pub locals : List (Option Value)

-- what a trace tells of its run: the steps, and the end
pub record Told : Type 0 where
  pub steps : List Shown
  pub end : RecordedEnd

-- A sink in memory.
use Rattle.std.specs.Prelude.{ℕ, ◌≡◌, ◌⊎◌, false, List, Some}
use Rattle.lt_io.specs.Calls.{IsNextToFail}
use Rattle.lt_io.specs.Sink.{Sink}
use Rattle.lt_io.specs.declared.calls.Calls.{Calls}

-- what clauses see of a sink in memory
pub record SinkState : Type 0 where
  -- the bytes taken so far
  pub written : List ℕ
  -- how many more bytes it takes
  pub room : ℕ
  -- the most bytes of each piece still to come, in turn
  pub cuts : List ℕ
  -- the calls of `write`
  pub calls : Calls

-- what it tells: everything; each text is written at once
abbrev pub sink_of : SinkState → Sink
sink_of sink = record { written = Some sink.written; faults = sink.calls.faults; gathers = false }

-- the next call fails: it is to fail, or no room is left
abbrev pub Fails : SinkState → Type 0
Fails sink = IsNextToFail sink.calls ⊎ (sink.room ≡ 0)

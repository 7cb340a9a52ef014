use Rattle.std.proofs.Common.{◌≡◌, ◌-◌, ◌≤◌, length, take}
use Rattle.std.specs.Io.KnownBytes.{Appends}
use Rattle.lt_io.proofs.putting.put_counted.Given as goal

-- so many bytes of the text were written
abbrev pub invariant-loop-written : goal.invariant-loop-written
invariant-loop-written g l = record {
  short : l.written ≤ length l.text;
  prefix : Appends (g.S.Sink.state l.fn.sink).written (g.S.Sink.state l.sink).written (take l.written l.text);
  calm : (g.S.Sink.state l.sink).faults ≡ (g.S.Sink.state l.fn.sink).faults;
  still : (g.S.Sink.state l.sink).gathers ≡ (g.S.Sink.state l.fn.sink).gathers;
}

abbrev pub decreases-loop-written : goal.decreases-loop-written
decreases-loop-written g l = length l.text - l.written

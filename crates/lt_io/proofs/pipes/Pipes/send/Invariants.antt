use Rattle.std.proofs.Common.{◌≤◌, length, take}
use Rattle.std.specs.Io.KnownBytes.{Appends, Keeps}
use Rattle.lt_io.specs.Pipes.{left_of}
use Rattle.lt_io.proofs.pipes.Pipes.send.Given as goal

-- so many bytes were sent, and what is left stayed
abbrev pub invariant-loop : goal.invariant-loop
invariant-loop g l = record {
  within : l.sent ≤ length l.bytes;
  sent : Appends (g.W.Write.contents l.fn.self.input) (g.W.Write.contents l.self.input) (take l.sent l.bytes);
  stays : Keeps (left_of g.R.Read.remaining l.fn.self) (left_of g.R.Read.remaining l.self);
}

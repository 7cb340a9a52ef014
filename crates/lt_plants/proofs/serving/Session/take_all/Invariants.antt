use Rattle.std.proofs.Common.{◌≡◌, ◌≤◌, ◌++◌, drop, length}
use Rattle.std.specs.Io.KnownBytes.{Keeps}
use Rattle.lt_plants.specs.Service.{longest_line}
use Rattle.lt_plants.specs.inner.Going.{GoesOn, due_after}
use Rattle.lt_plants.proofs.serving.Session.take_all.Given as goal

-- what was due to all bytes is sent, and then what is due to those that are left of the piece
abbrev pub invariant-loop-byte : goal.invariant-loop-byte
invariant-loop-byte g l = record {
  goes : GoesOn (g.L.Link.state l.fn.link).sent (g.L.Link.state l.link).sent
      (λ bytes. due_after l.fn.self.playing.plant l.fn.self.playing.last l.fn.self.line (l.piece ++ bytes))
      (λ bytes. due_after l.self.playing.plant l.self.playing.last l.self.line (drop l.byte-index l.piece ++ bytes));
  calm : (g.L.Link.state l.link).faults ≡ (g.L.Link.state l.fn.link).faults;
  left : Keeps (g.L.Link.state l.fn.link).left (g.L.Link.state l.link).left;
  plant : l.self.playing.plant ≡ l.fn.self.playing.plant;
  short : length l.self.line ≤ longest_line;
}

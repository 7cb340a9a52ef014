use Rattle.std.proofs.Common.{◌≡◌, ◌≤◌, ◌<◌, ◌-◌, ◌++◌, [], ℕ, List, length}
use Rattle.std.specs.Io.KnownBytes.{Consumes}
use Rattle.lt_plants.specs.Service.{longest_line, most_taken}
use Rattle.lt_plants.specs.inner.Going.{GoesOn, due_after}
use Rattle.lt_plants.proofs.serving.Session.serve.Given as goal

-- some bytes were taken, and what was due to them is sent
abbrev pub invariant-loop-count : goal.invariant-loop-count
invariant-loop-count g l = record {
  way : (bytes : List ℕ) × (l.taken ≡ length bytes) × Consumes (g.L.Link.state l.fn.link).left (g.L.Link.state l.link).left bytes
      × GoesOn (g.L.Link.state l.fn.link).sent (g.L.Link.state l.link).sent
      (λ more. due_after l.fn.self.playing.plant l.fn.self.playing.last [] (bytes ++ more))
      (due_after l.self.playing.plant l.self.playing.last l.self.line);
  few : l.taken < most_taken;
  calm : (g.L.Link.state l.link).faults ≡ (g.L.Link.state l.fn.link).faults;
  plant : l.self.playing.plant ≡ l.fn.self.playing.plant;
  short : length l.self.line ≤ longest_line;
}

abbrev pub decreases-loop-count : goal.decreases-loop-count
decreases-loop-count g l = most_taken - l.taken

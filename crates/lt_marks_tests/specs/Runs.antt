-- What holds of a run that is kept in two ways.
use Rattle.std.specs.Prelude.{◌≤◌}
use Rattle.lt_marks_tests.specs.declared.run.Run.{Run}
use Rattle.lt_walk.specs.Room.{IsRoomFor}
use Rattle.lt_term.specs.Counted.{IsDoneTo}
use Rattle.lt_term.specs.View.{process}
use Rattle.lt_marks.specs.Tallied.{IsTallied}
use Rattle.lt_marks.specs.View.{body, nodes, standing}
use Rattle.lt_marks.specs.Walk.{IsRoomy}

-- The marks keep how large what they offer is; there is room for walks in the body; and neither the term nor the
-- marks have more turns done than the run has steps, of which there are at most 40.
pub record IsRun (r : Run) : Type 0 where
  pub tallied : IsTallied r.track
  pub roomy : IsRoomy (nodes (body r.track)) r.walk
  pub room : IsRoomFor (body r.track) r.walk.raised.items
  pub few : r.steps ≤ 40
  pub term : IsDoneTo r.steps (process r.term)
  pub marks : IsDoneTo r.steps (standing r.track)

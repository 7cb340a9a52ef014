use Rattle.std.proofs.Common.{◌+◌}
use Rattle.lt_draw.specs.Word.{place_of}
use Rattle.lt_draw.specs.inner.Half.{half}
use Rattle.lt_draw.proofs.JumpLemmas.{middle_is, next_is, place_has_stream}
use Rattle.lt_draw.proofs.words.StepWords.next_step.Goals as goal

pub moved_on-self-inside-requires-clause-stream : goal.moved_on-self-inside-requires-clause-stream
moved_on-self-inside-requires-clause-stream c = place_has_stream c.self.inside.seed (place_of c.self.inside.step half) _ c.self.invariant.1

pub moved_on-self-inside-requires-2-clause-stream : goal.moved_on-self-inside-requires-2-clause-stream
moved_on-self-inside-requires-2-clause-stream c =
    place_has_stream c.self.inside.seed (place_of (c.self.inside.step + 1) 0) _
    (next_is c.self.inside.seed c.self.inside.step _ _ c.self.invariant.1 c.moved_on-self-inside.ensures)

pub invariant_of-self : goal.invariant_of-self
invariant_of-self c =
    let start = next_is c.self.inside.seed c.self.inside.step _ _ c.self.invariant.1 c.moved_on-self-inside.ensures in
    (start, middle_is c.self.inside.seed (c.self.inside.step + 1) _ _ start c.moved_on-self-inside-2.ensures)

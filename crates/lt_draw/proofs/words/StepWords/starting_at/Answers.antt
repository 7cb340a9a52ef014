use Rattle.std.proofs.Common.{◌∙◌, arith}
use Rattle.lt_draw.specs.Word.{place_of}
use Rattle.lt_draw.specs.inner.Half.{half}
use Rattle.lt_draw.proofs.JumpLemmas.{slot_is, place_has_stream}
use Rattle.lt_draw.proofs.words.StepWords.starting_at.Goals as goal
use Rattle.lt_draw.proofs.words.StepWords.starting_at.Goals.{then-slot-lt-HALF, else-slot-lt-HALF}

pub moved_on-generator-requires-clause-stream : goal.moved_on-generator-requires-clause-stream
moved_on-generator-requires-clause-stream c = place_has_stream c.self.inside.seed (place_of c.self.inside.step 0) _ c.self.invariant.0

pub moved_on-generator-requires-else-slot-lt-HALF-clause-stream : goal.moved_on-generator-requires-else-slot-lt-HALF-clause-stream
moved_on-generator-requires-else-slot-lt-HALF-clause-stream c = place_has_stream c.self.inside.seed (place_of c.self.inside.step half) _ c.self.invariant.1

pub invariant_of-result : goal.invariant_of-result
invariant_of-result c =
    let words = c.self.inside in
    elim c.if-slot-lt-HALF.branch [
      | then-slot-lt-HALF w ↦
          w.generator-is
          ∙ slot_is words.seed words.step 0 c.args.slot c.args.slot _ _ (omega arith) c.self.invariant.0 w.moved_on-generator.ensures
      | else-slot-lt-HALF w ↦
          w.generator-is
          ∙ slot_is words.seed words.step half _ c.args.slot _ _ (omega (arith, w.if-slot-lt-HALF)) c.self.invariant.1 w.moved_on-generator-else-slot-lt-HALF.ensures
    ]

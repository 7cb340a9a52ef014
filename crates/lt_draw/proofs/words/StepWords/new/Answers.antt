use Rattle.std.proofs.Common.{◌≡◌, ◌∙◌, ap}
use Rattle.lt_draw.specs.Word.{generator_at, place_of}
use Rattle.lt_draw.proofs.JumpLemmas.{middle_is, place_has_stream}
use Rattle.lt_draw.proofs.words.StepWords.new.Goals as goal

pub moved_on-middle-requires-clause-stream : goal.moved_on-middle-requires-clause-stream
moved_on-middle-requires-clause-stream c = place_has_stream c.args.seed c.place_of.result c.generator_at-start.result c.generator_at-start.ensures

pub invariant_of-result : goal.invariant_of-result
invariant_of-result c =
    let start : c.generator_at-start.result ≡ generator_at c.args.seed (place_of c.args.step 0) = c.generator_at-start.ensures ∙ ap (generator_at c.args.seed) c.place_of.ensures in
    (start, middle_is c.args.seed c.args.step _ _ start c.moved_on-middle.ensures)

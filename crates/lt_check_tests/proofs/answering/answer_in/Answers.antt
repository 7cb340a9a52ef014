-- What is read has the shape that a check asks for.
use Rattle.lt_term.specs.SceneView.{scene}
use Rattle.lt_trace.specs.View.{shape_view, told}
use Rattle.lt_check_tests.proofs.Told.{told_in_shape}
use Rattle.lt_check_tests.proofs.answering.answer_in.Goals as goal

pub check-requires : goal.check-requires
check-requires c = record {
  shape = told_in_shape c.traces_have_their_shape.ensures (scene c.args.scenario.now) c.args.trace.now (told c.in-Ok.recorded) (shape_view c.in_ok-shape.shape) c.in_ok-shape.ensures c.in-Ok.ensures;
}

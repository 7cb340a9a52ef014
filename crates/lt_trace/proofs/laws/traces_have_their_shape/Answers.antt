use Rattle.lt_trace.proofs.Shapes.{traces_have_their_shape}
use Rattle.lt_trace.proofs.laws.traces_have_their_shape.Goals as goal

pub returns : goal.returns
returns c = traces_have_their_shape

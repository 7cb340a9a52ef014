-- What a trace tells.
use Rattle.std.proofs.Common.{◌≡◌, ℕ, List, subst}
use Rattle.lt_check.specs.Shape.{trace_shape}
use Rattle.lt_term.specs.Scene.{Scene}
use Rattle.lt_trace.specs.Laws.{TracesHaveTheirShape}
use Rattle.lt_trace.specs.Lines.{HasShape, IsTold}
use Rattle.lt_trace.specs.Shape.{Shape}
use Rattle.lt_trace.specs.Told.{Told}

-- what is told has the shape that a check asks for
pub told_in_shape : TracesHaveTheirShape → (s : Scene) (bytes : List ℕ) (t : Told) (shape : Shape) → shape ≡ trace_shape s → IsTold shape bytes t → HasShape (trace_shape s) t
told_in_shape law s bytes t shape is read = law (trace_shape s) bytes t (subst (λ (x : Shape). IsTold x bytes t) is read)

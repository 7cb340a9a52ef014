-- What follows for traces.
use Rattle.std.specs.Prelude.{◌≡◌, ◌≤◌, ℕ, List}
use Rattle.std.specs.declared.result.Result.{Result}
use Rattle.lt_num.specs.Bounds.{most_decimals}
use Rattle.lt_trace.specs.Lines.{HasShape, IsReading, IsTold}
use Rattle.lt_trace.specs.Shape.{Shape}
use Rattle.lt_trace.specs.Told.{Told}

-- Each text tells something, or breaks at a line; and it is one thing that it tells, or one line at which it breaks.
abbrev pub TextsHaveOneReading : Type 0
TextsHaveOneReading =
    (shape : Shape) (text : List ℕ) → shape.decimals ≤ most_decimals →
    ((reading : Result Told ℕ) × IsReading shape text reading)
    × ((reading other : Result Told ℕ) → IsReading shape text reading → IsReading shape text other → reading ≡ other)

-- What is told has the shape of the scenario's traces.
abbrev pub TracesHaveTheirShape : Type 0
TracesHaveTheirShape = (shape : Shape) (text : List ℕ) (t : Told) → IsTold shape text t → HasShape shape t

-- The line of a step's number, of which most is kept for the next step.
use Rattle.std.specs.Prelude.{◌≡◌, ℕ, List, ◌++◌, take, codes, decimal}
use Rattle.lt_rif.specs.Trace.{line}
use Rattle.lt_rif.specs.declared.numbering.StepHead.{StepHead}
use Rattle.lt_rif.specs.inner.Head.{head_text}

-- the line of a number
abbrev pub number_line : ℕ → List ℕ
number_line step = line (codes "#step " ++ decimal step)

-- a text begins with what is kept
abbrev pub Begins : StepHead → List ℕ → Type 0
Begins head text = take head.len text ≡ head_text head.tens

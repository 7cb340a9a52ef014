use Rattle.std.proofs.Common.{◌≤◌, ◌^◌, length}
use Rattle.lt_linear.specs.inner.Parsing.{Stands}
use Rattle.lt_linear.proofs.parsing.read_form.Given as goal

-- the text is what was read of it, and the rest
abbrev pub invariant-loop-word : goal.invariant-loop-word
invariant-loop-word l =
    record {
      stands : Stands l.text l.terms.items l.least l.rest;
      below : l.least ≤ 2 ^ 32;
    }

abbrev pub decreases-loop-word : goal.decreases-loop-word
decreases-loop-word l = length l.rest

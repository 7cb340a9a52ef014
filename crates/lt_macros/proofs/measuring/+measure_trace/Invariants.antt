use Rattle.std.proofs.Common.{◌≡◌, ◌+◌, length, take}
use Rattle.lt_macros.specs.inner.Figures.{Figure, choice_weight}
use Rattle.lt_macros.specs.inner.Measured.{alternatives_figure}
use Rattle.lt_macros.specs.inner.Tallies.{counted}
use Rattle.lt_macros.proofs.measuring.+measure_trace.Given as goal

-- the alternatives that are passed are counted
abbrev pub invariant-count_parts-loop-alternative : goal.invariant-count_parts-loop-alternative
invariant-count_parts-loop-alternative l =
    (f : Figure) → counted l.tally f ≡ counted l.fn.tally f + (choice_weight f (length l.alternative-items) + alternatives_figure f l.fn.depth (take l.alternative-index l.alternative-items))

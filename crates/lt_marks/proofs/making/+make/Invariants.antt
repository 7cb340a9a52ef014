use Rattle.std.proofs.Common.{◌≡◌, ◌≤◌, drop, length}
use Rattle.lt_term.specs.View.{choices}
use Rattle.lt_marks.specs.Tallied.{AreTallied}
use Rattle.lt_marks.specs.View.{choices_of}
use Rattle.lt_marks.proofs.making.+make.Given as goal

-- the last terms are made
abbrev pub invariant-parts_of-loop-left : goal.invariant-parts_of-loop-left
invariant-parts_of-loop-left l =
    record {
      choices : choices_of l.made.value ≡ choices (drop l.left l.parts.items);
      tallied : AreTallied l.made.value;
      within : l.left ≤ length l.parts.items;
    }

abbrev pub decreases-parts_of-loop-left : goal.decreases-parts_of-loop-left
decreases-parts_of-loop-left l = l.left

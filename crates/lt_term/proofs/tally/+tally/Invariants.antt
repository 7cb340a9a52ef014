use Rattle.std.proofs.Common.{◌+◌, ◌*◌, max, take}
use Rattle.std.specs.Prelude.{sum_by}
use Rattle.lt_term.specs.Size.{Weights, weight_of}
use Rattle.lt_term.specs.View.{process}
use Rattle.lt_term.specs.declared.term.Term.{size-Term}
use Rattle.lt_term.specs.inner.Alike.{IsAlike}
use Rattle.lt_term.specs.inner.TallyView.{tally_weight}
use Rattle.lt_term.proofs.tally.+tally.Given as goal

-- the parts so far
abbrev pub invariant-tally_of_each-loop-part : goal.invariant-tally_of_each-loop-part
invariant-tally_of_each-loop-part l = (w : Weights) → IsAlike (tally_weight w l.all) (sum_by (λ p. weight_of w (process p.1)) (take l.part-index l.part-items))

-- How deep the terms are. A function that is given two of them, or a list of them, is called for the parts of one.
abbrev pub decreases-tally_of : goal.decreases-tally_of
decreases-tally_of l = 3 * goal.size-tally_of l

abbrev pub decreases-tally_of_each : goal.decreases-tally_of_each
decreases-tally_of_each l = 3 * goal.size-tally_of_each l + 1

abbrev pub decreases-tallies_of : goal.decreases-tallies_of
decreases-tallies_of l = 3 * max (size-Term l.first.now) (size-Term l.second.now) + 1

abbrev pub decreases-tally_of_either : goal.decreases-tally_of_either
decreases-tally_of_either l = 3 * max (size-Term l.first.now) (size-Term l.second.now) + 2

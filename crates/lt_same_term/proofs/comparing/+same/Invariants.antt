use Rattle.std.proofs.Common.{◌≡◌, ◌+◌, ◌*◌, max, drop}
use Rattle.lt_term.specs.View.{choices}
use Rattle.lt_term.specs.declared.term.Term.{size-Term}
use Rattle.lt_same_term.specs.Alike.{choices_alike}
use Rattle.lt_same_term.proofs.comparing.+same.Given as goal

-- the parts so far are the same
abbrev pub invariant-same_parts-loop-weight : goal.invariant-same_parts-loop-weight
invariant-same_parts-loop-weight l =
    choices_alike (choices l.all) (choices l.others) ≡ choices_alike (choices (drop l.weight-index l.all)) (choices l.rest)

-- How deep the first terms are. A function that is given two of them, or a list of them, is called for the parts of one.
abbrev pub decreases-same : goal.decreases-same
decreases-same l = 3 * goal.size-same l

abbrev pub decreases-same_one : goal.decreases-same_one
decreases-same_one l = 3 * goal.size-same_one l + 1

abbrev pub decreases-same_two : goal.decreases-same_two
decreases-same_two l = 3 * max (size-Term l.first.now) (size-Term l.second.now) + 1

abbrev pub decreases-same_each : goal.decreases-same_each
decreases-same_each l = 3 * goal.size-same_each l + 2

abbrev pub decreases-same_parts : goal.decreases-same_parts
decreases-same_parts l = 3 * goal.size-same_parts l + 1

use Rattle.std.proofs.Common.{◌≡◌, ◌+◌, ◌*◌, max, take, map}
use Rattle.lt_term.specs.Advanced.{advanced}
use Rattle.lt_term.specs.View.{part, process}
use Rattle.lt_term.specs.declared.term.Term.{size-Term}
use Rattle.lt_term.proofs.advancing.+advance.Given as goal

-- the parts so far have their values
abbrev pub invariant-go_on_each-loop-weight : goal.invariant-go_on_each-loop-weight
invariant-go_on_each-loop-weight l = map part l.made.items ≡ map (λ p. (p.0, advanced l.values (process p.1))) (take l.weight-index l.weight-items)

-- How deep the terms are. A function that is given two parts, or a list of them, is called for the parts of one term.
abbrev pub decreases-go_on : goal.decreases-go_on
decreases-go_on l = 3 * goal.size-go_on l

abbrev pub decreases-renewed : goal.decreases-renewed
decreases-renewed l = 3 * goal.size-renewed l + 1

abbrev pub decreases-go_on_part : goal.decreases-go_on_part
decreases-go_on_part l = 3 * goal.size-go_on_part l + 1

abbrev pub decreases-go_on_both : goal.decreases-go_on_both
decreases-go_on_both l = 3 * max (size-Term l.first.now.value) (size-Term l.second.now.value) + 2

abbrev pub decreases-go_on_each : goal.decreases-go_on_each
decreases-go_on_each l = 3 * goal.size-go_on_each l + 2

use Rattle.std.proofs.Common.{◌≡◌, drop}
use Rattle.lt_term.specs.View.{choices}
use Rattle.lt_same_term.specs.Hash.{with_choices}
use Rattle.lt_same_term.proofs.hashing.+with_term.Given as goal

-- the parts that are left give the hash of all
abbrev pub invariant-with_parts-loop-weight : goal.invariant-with_parts-loop-weight
invariant-with_parts-loop-weight l =
    with_choices l.hash (choices l.parts) ≡ with_choices l.all (choices (drop l.weight-index l.parts))

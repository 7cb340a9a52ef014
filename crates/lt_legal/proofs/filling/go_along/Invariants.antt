use Rattle.std.proofs.Common.{◌≡◌, false, drop}
use Rattle.lt_legal.specs.Nodes.{along}
use Rattle.lt_legal.proofs.filling.go_along.Given as goal

-- what the parts so far have stands before those of the parts that were not looked at
abbrev pub invariant-loop-weight : goal.invariant-loop-weight
invariant-loop-weight l = along l.weights l.behind (record { has = false; size = 0 }) ≡ along (drop l.weight-index l.weights) l.behind l.all

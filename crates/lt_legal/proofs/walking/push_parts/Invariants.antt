use Rattle.std.proofs.Common.{◌≡◌, ◌++◌, drop}
use Rattle.lt_legal.specs.Nodes.{children}
use Rattle.lt_legal.proofs.walking.push_parts.Given as goal

-- the parts so far wait before those that were not looked at
abbrev pub invariant-loop-weight : goal.invariant-loop-weight
invariant-loop-weight l = l.fn.stack.items ++ children l.weights l.from l.found ≡ l.stack.items ++ children (drop l.weight-index l.weights) l.number l.found

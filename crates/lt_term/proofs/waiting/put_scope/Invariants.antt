use Rattle.std.proofs.Common.{◌≡◌, ◌≤◌, length, map}
use Rattle.lt_term.specs.Unfolded.{in_scope, instant_of}
use Rattle.lt_term.specs.UnfoldedView.{chain_at, rule_of, scope_at}
use Rattle.lt_term.proofs.waiting.put_scope.Given as goal

-- the locals so far, and before them those of the rules that are left
abbrev pub invariant-loop-number : goal.invariant-loop-number
invariant-loop-number l = record {
  within : l.number ≤ length l.links;
  scope : in_scope (map (rule_of (λ i. instant_of 0)) (chain_at l.links l.number)) l.locals.items ≡ scope_at l.links l.fn.rules;
}

abbrev pub decreases-loop-number : goal.decreases-loop-number
decreases-loop-number l = l.number

use Rattle.std.proofs.Common.{◌≡◌, length, take}
use Rattle.lt_formula.specs.Limits.{most_variables}
use Rattle.lt_space.specs.CircuitView.{circuit_formulas, circuit_len}
use Rattle.lt_need.specs.inner.Uses.{AreOwned, AreOwners, is_used}
use Rattle.lt_need.proofs.uses.find_shared.Given as goal

-- the gates so far are noted
abbrev pub invariant-loop-place : goal.invariant-loop-place
invariant-loop-place l = record {
  owned : AreOwned (circuit_formulas l.circuit) (is_used (circuit_formulas l.circuit) (take l.place l.atoms)) l.owners.items l.shared.items;
  gates : AreOwners (circuit_len l.circuit) l.owners.items;
  owners : length l.owners.items ≡ most_variables;
  shared : length l.shared.items ≡ most_variables;
}

use Rattle.std.proofs.Common.{◌≡◌, ◌||◌, Bool, length, take}
use Rattle.lt_formula.specs.Limits.{most_variables}
use Rattle.lt_space.specs.CircuitView.{circuit_formulas, circuit_len}
use Rattle.lt_need.specs.inner.Uses.{AreOwned, AreOwners, UseTest, passes_some}
use Rattle.lt_need.proofs.uses.note_uses.Given as goal

-- the terms so far are noted
abbrev pub invariant-loop-place : goal.invariant-loop-place
invariant-loop-place l = record {
  owned : (used : UseTest → Bool) → AreOwned (circuit_formulas l.circuit) used l.fn.owners.items l.fn.shared.items
      → AreOwned (circuit_formulas l.circuit) (λ test. used test || passes_some test l.number (take l.place l.terms)) l.owners.items l.shared.items;
  gates : AreOwners (circuit_len l.circuit) l.owners.items;
  owners : length l.owners.items ≡ most_variables;
  shared : length l.shared.items ≡ most_variables;
}

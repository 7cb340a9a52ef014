use Rattle.std.proofs.Common.{◌≡◌, ◌≤◌, ◌+◌, drop}
use Rattle.lt_need.specs.Need.{variables_in}
use Rattle.lt_need.proofs.measuring.variables_in.Given as goal

-- those so far and those that are left are all
abbrev pub invariant-loop-place : goal.invariant-loop-place
invariant-loop-place l = record {
  whole : variables_in l.scope ≡ l.count + variables_in (drop l.place l.scope);
  most : l.count ≤ l.place;
}

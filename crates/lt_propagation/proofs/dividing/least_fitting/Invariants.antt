use Rattle.std.proofs.Common.{◌≡◌, ℤ, ◌+ℤ◌, ◌*ℤ◌, ◌≤ℤ◌}
use Rattle.lt_propagation.proofs.dividing.least_fitting.Given as goal

-- no value past the one at hand fits
abbrev pub invariant-loop : goal.invariant-loop
invariant-loop l = record {
  within : l.fn.range.low ≤ℤ l.low;
  kept : (value times : ℤ) → ((l.fn.remainder.coefficient *ℤ value) +ℤ l.fn.remainder.rest) ≡ l.fn.divisor *ℤ times → l.fn.range.low ≤ℤ value → value ≤ℤ l.fn.range.high → l.low ≤ℤ value;
}

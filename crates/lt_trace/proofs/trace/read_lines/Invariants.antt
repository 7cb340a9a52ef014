use Rattle.std.proofs.Common.{◌≡◌, ◌≤◌, ◌+◌, ◌-◌, ℕ, suc, length, map, take}
use Rattle.lt_trace.specs.Lines.{AreLines}
use Rattle.lt_trace.specs.View.{shape_view, step_view}
use Rattle.lt_trace.specs.inner.Stages.{IsSoFar, place_at}
use Rattle.lt_trace.proofs.trace.read_lines.Given as goal

-- so many lines lead to where the reader stands
abbrev pub invariant-loop-end : goal.invariant-loop-end
invariant-loop-end l = record {
  within : l.at ≤ length l.text;
  lines : (n : ℕ) × (l.number ≡ suc n) × AreLines (shape_view l.shape) (take l.at l.text) n (place_at l.stage (map step_view l.steps.items));
  so_far : IsSoFar l.stage (map step_view l.steps.items);
  small : l.number ≤ l.at + 1;
}

abbrev pub decreases-loop-end : goal.decreases-loop-end
decreases-loop-end l = length l.text - l.at

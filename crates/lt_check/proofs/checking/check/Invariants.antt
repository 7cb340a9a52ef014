use Rattle.std.proofs.Common.{◌≡◌}
use Rattle.lt_trace.specs.View.{told}
use Rattle.lt_check.specs.inner.ProgressView.{IsBehind, IsSound}
use Rattle.lt_check.proofs.checking.check.Given as goal

-- the check is behind the steps so far
abbrev pub invariant-loop-step : goal.invariant-loop-step
invariant-loop-step l = record {
  sound : IsSound l.progress;
  scenario : l.progress.moment.scenario.now ≡ l.scenario;
  number : l.number ≡ l.step-index;
  behind : IsBehind (told l.trace) l.budget l.step-index l.progress;
}

use Rattle.std.proofs.Common.{◌≡◌, ◌≤◌, ℕ, length}
use Rattle.lt_macros.specs.Denotation.{Denotation}
use Rattle.lt_macros.specs.inner.Reading.{Reading, environment, newest}
use Rattle.lt_macros.specs.inner.Rows.{rows}
use Rattle.lt_macros.proofs.scope.Scope.newest.Given as goal

-- the newest name is that of what is left
abbrev pub invariant-loop-environment : goal.invariant-loop-environment
invariant-loop-environment l =
    record {
      within : l.environment ≤ length (rows l.self);
      denotation : (r : Reading Denotation) → newest (environment r (rows l.self) l.number).names ≡ newest (environment r (rows l.self) l.environment).names;
      work : (r : Reading ℕ) → newest (environment r (rows l.self) l.number).names ≡ newest (environment r (rows l.self) l.environment).names;
    }

abbrev pub decreases-loop-environment : goal.decreases-loop-environment
decreases-loop-environment l = l.environment

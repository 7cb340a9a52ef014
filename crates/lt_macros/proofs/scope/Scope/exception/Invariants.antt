use Rattle.std.proofs.Common.{◌≡◌, ◌≤◌, length}
use Rattle.lt_macros.specs.Environment.{found_exception}
use Rattle.lt_macros.specs.Denotation.{Denotation}
use Rattle.lt_macros.specs.inner.Reading.{Reading, environment}
use Rattle.lt_macros.specs.inner.Rows.{rows}
use Rattle.lt_macros.proofs.scope.Scope.exception.Given as goal

-- the name stands for the same in what is left
abbrev pub invariant-loop-environment : goal.invariant-loop-environment
invariant-loop-environment l =
    record {
      within : l.environment ≤ length (rows l.self);
      denotation : (r : Reading Denotation) → found_exception (environment r (rows l.self) l.fn.environment).exceptions l.name ≡ found_exception (environment r (rows l.self) l.environment).exceptions l.name;
    }

abbrev pub decreases-loop-environment : goal.decreases-loop-environment
decreases-loop-environment l = l.environment

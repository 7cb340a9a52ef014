use Rattle.std.proofs.Common.{◌≡◌, ◌≤◌, ℕ, length}
use Rattle.lt_macros.specs.Environment.{found}
use Rattle.lt_macros.specs.Denotation.{Denotation}
use Rattle.lt_macros.specs.inner.Reading.{Reading, environment}
use Rattle.lt_macros.specs.inner.Rows.{rows}
use Rattle.lt_macros.proofs.scope.Scope.number.Given as goal

-- the name stands for the same in what is left
abbrev pub invariant-loop-environment : goal.invariant-loop-environment
invariant-loop-environment l =
    record {
      within : l.environment ≤ length (rows l.self);
      denotation : (r : Reading Denotation) → found (environment r (rows l.self) l.fn.environment).names l.name ≡ found (environment r (rows l.self) l.environment).names l.name;
      work : (r : Reading ℕ) → found (environment r (rows l.self) l.fn.environment).names l.name ≡ found (environment r (rows l.self) l.environment).names l.name;
    }

abbrev pub decreases-loop-environment : goal.decreases-loop-environment
decreases-loop-environment l = l.environment

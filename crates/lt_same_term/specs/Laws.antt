-- Which terms are the same.
use Rattle.std.specs.Prelude.{◌≡◌, ℕ, true, IsTrue}
use Rattle.lt_formula.specs.Expression.{Expression}
use Rattle.lt_formula.specs.Table.{HasEachOnce, spelled}
use Rattle.lt_term.specs.Process.{Process, with_constraints}
use Rattle.lt_term.specs.Within.{Tests, passes}
use Rattle.lt_same_term.specs.Alike.{alike}

-- Two terms are alike exactly where they are the same.
abbrev pub AlikeIsSame : Type 0
AlikeIsSame =
    (s t : Process ℕ) → ((alike s t ≡ true) → s ≡ t) × ((s ≡ t) → alike s t ≡ true)

-- Where numbers that pass tests are told by what they stand for, terms of such numbers are told by
-- what they stand for, too.
abbrev pub ConstraintsTellTerms : Type 0
ConstraintsTellTerms =
    (tests : Tests ℕ) (meaning : ℕ → Expression) →
    ((c d : ℕ) → IsTrue (tests.constraint c) → IsTrue (tests.constraint d) → meaning c ≡ meaning d →
    c ≡ d) →
    (s t : Process ℕ) → IsTrue (passes tests s) → IsTrue (passes tests t) →
    with_constraints meaning s ≡ with_constraints meaning t → s ≡ t

-- Terms whose numbers are those of a scenario.
use Rattle.std.specs.Prelude.{ℕ, Bool, true, ◌&&◌, nat_lt}
use Rattle.lt_term.specs.Process.{Process, eps, dead, con, raise, seq, loop, count, any, pri, par, assert, exist, catch, try, Choices, no_choice, choice}

-- a test of each sort of number that a term has, of which constraints and weights are one
pub record Tests (C : Type 0) : Type 0 where
  pub constraint : C → Bool
  pub exception : ℕ → Bool
  pub local : ℕ → Bool
  pub counter : ℕ → Bool

-- whether the numbers of a term pass these tests
abbrev mutual
  pub passes : {C : Type 0} → Tests C → Process C → Bool
  passes tests eps = true
  passes tests dead = true
  passes tests (con c) = tests.constraint c
  passes tests (raise z) = tests.exception z
  passes tests (seq a b) = passes tests a && passes tests b
  passes tests (loop t) = passes tests t
  passes tests (count i done t) = tests.counter i && passes tests t
  passes tests (any cs) = each_passes tests cs
  passes tests (pri a b) = passes tests a && passes tests b
  passes tests (par a b) = passes tests a && passes tests b
  passes tests (assert c t) = tests.constraint c && passes tests t
  passes tests (exist x v t) = tests.local x && passes tests t
  passes tests (catch z t h) = tests.exception z && (passes tests t && passes tests h)
  passes tests (try t h) = passes tests t && passes tests h

  -- whether those of terms to choose from and of their weights do
  pub each_passes : {C : Type 0} → Tests C → Choices C → Bool
  each_passes tests no_choice = true
  each_passes tests (choice w t cs) = tests.constraint w && (passes tests t && each_passes tests cs)

-- whether constraints, weights and exceptions are among so many
abbrev pub is_within : ℕ → ℕ → Process ℕ → Bool
is_within expressions exceptions p = passes (record {
  constraint = λ c. nat_lt c expressions;
  exception = λ z. nat_lt z exceptions;
  local = λ x. true;
  counter = λ i. true;
}) p

-- tests whether numbers are among so many: expressions, exceptions, locals and counters
abbrev pub below : ℕ → ℕ → ℕ → ℕ → Tests ℕ
below expressions exceptions locals counters = record {
  constraint = λ c. nat_lt c expressions;
  exception = λ z. nat_lt z exceptions;
  local = λ x. nat_lt x locals;
  counter = λ i. nat_lt i counters;
}

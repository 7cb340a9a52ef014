-- How many turns of counted loops are done.
use Rattle.std.specs.Prelude.{◌≤◌, ℕ}
use Rattle.lt_formula.specs.Limits.{most_turns}
use Rattle.lt_term.specs.Process.{Process, eps, dead, con, raise, seq, loop, count, any, pri, par, assert, exist, catch, try, Choices, no_choice, choice}

-- no counted loop has more turns done than so many
abbrev mutual
  pub IsDoneTo : {C : Type 0} → ℕ → Process C → Type 0
  IsDoneTo k eps = Unit {0}
  IsDoneTo k dead = Unit {0}
  IsDoneTo k (con c) = Unit {0}
  IsDoneTo k (raise z) = Unit {0}
  IsDoneTo k (seq a b) = IsDoneTo k a × IsDoneTo k b
  IsDoneTo k (loop t) = IsDoneTo k t
  IsDoneTo k (count i done t) = (done ≤ k) × IsDoneTo k t
  IsDoneTo k (any cs) = AreDoneTo k cs
  IsDoneTo k (pri a b) = IsDoneTo k a × IsDoneTo k b
  IsDoneTo k (par a b) = IsDoneTo k a × IsDoneTo k b
  IsDoneTo k (assert c t) = IsDoneTo k t
  IsDoneTo k (exist x v t) = IsDoneTo k t
  IsDoneTo k (catch z t h) = IsDoneTo k t × IsDoneTo k h
  IsDoneTo k (try t h) = IsDoneTo k t × IsDoneTo k h

  pub AreDoneTo : {C : Type 0} → ℕ → Choices C → Type 0
  AreDoneTo k no_choice = Unit {0}
  AreDoneTo k (choice w t cs) = IsDoneTo k t × AreDoneTo k cs

-- none has more turns done than one may have
abbrev pub IsCounted : {C : Type 0} → Process C → Type 0
IsCounted p = IsDoneTo most_turns p

abbrev pub AreCounted : {C : Type 0} → Choices C → Type 0
AreCounted cs = AreDoneTo most_turns cs

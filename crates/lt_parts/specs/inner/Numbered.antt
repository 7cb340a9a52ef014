-- Terms whose constraints are numbers of a table.
use Rattle.std.specs.Prelude.{◌<◌, ℕ}
use Rattle.lt_term.specs.Process.{Process, eps, dead, con, raise, seq, loop, count, any, pri, par, assert, exist, catch, try, Choices, no_choice, choice}

-- the constraints of a term are below this number
abbrev mutual
  pub AreConstraintsBelow : ℕ → Process ℕ → Type 0
  AreConstraintsBelow n eps = Unit {0}
  AreConstraintsBelow n dead = Unit {0}
  AreConstraintsBelow n (con c) = c < n
  AreConstraintsBelow n (raise z) = Unit {0}
  AreConstraintsBelow n (seq a b) = AreConstraintsBelow n a × AreConstraintsBelow n b
  AreConstraintsBelow n (loop t) = AreConstraintsBelow n t
  AreConstraintsBelow n (count i done t) = AreConstraintsBelow n t
  AreConstraintsBelow n (any cs) = AreBelowAnywhere n cs
  AreConstraintsBelow n (pri a b) = AreConstraintsBelow n a × AreConstraintsBelow n b
  AreConstraintsBelow n (par a b) = AreConstraintsBelow n a × AreConstraintsBelow n b
  AreConstraintsBelow n (assert c t) = (c < n) × AreConstraintsBelow n t
  AreConstraintsBelow n (exist x v t) = AreConstraintsBelow n t
  AreConstraintsBelow n (catch z t h) = AreConstraintsBelow n t × AreConstraintsBelow n h
  AreConstraintsBelow n (try t h) = AreConstraintsBelow n t × AreConstraintsBelow n h

  -- those of terms to choose from
  pub AreBelowAnywhere : ℕ → Choices ℕ → Type 0
  AreBelowAnywhere n no_choice = Unit {0}
  AreBelowAnywhere n (choice w t cs) = AreConstraintsBelow n t × AreBelowAnywhere n cs

-- The last values of locals after an instant.
use Rattle.std.specs.Prelude.{ℕ, nat_eq, List, [], ◌∷◌, if◌then◌else◌}
use Rattle.lt_num.specs.declared.value.Value.{Value}
use Rattle.lt_term.specs.declared.last.Last.{Last}
use Rattle.lt_term.specs.declared.last.Last.TheVariants as last
use Rattle.lt_term.specs.Process.{Process, eps, dead, con, raise, seq, loop, count, any, pri, par, assert, exist, catch, try, Choices, no_choice, choice}

-- the value of a local among these, or the one that it has
abbrev pub value_among : List (ℕ × Value) → ℕ → Value → Value
value_among [] x v = v
value_among (l ∷ ls) x v = if nat_eq l.0 x then l.1 else value_among ls x v

-- The last value of a local after an instant with these values. A scope that isn't entered stays so.
abbrev pub next_last : List (ℕ × Value) → ℕ → Last → Last
next_last values x last.First = last.First
next_last values x (last.Kept v) = last.Kept (value_among values x v)

-- a term with the values of an instant in each open scope
abbrev mutual
  pub advanced : {C : Type 0} → List (ℕ × Value) → Process C → Process C
  advanced values eps = eps
  advanced values dead = dead
  advanced values (con c) = con c
  advanced values (raise z) = raise z
  advanced values (seq a b) = seq (advanced values a) (advanced values b)
  advanced values (loop t) = loop (advanced values t)
  advanced values (count i done t) = count i done (advanced values t)
  advanced values (any cs) = any (advanced_each values cs)
  advanced values (pri a b) = pri (advanced values a) (advanced values b)
  advanced values (par a b) = par (advanced values a) (advanced values b)
  advanced values (assert c t) = assert c (advanced values t)
  advanced values (exist x v t) = exist x (next_last values x v) (advanced values t)
  advanced values (catch z t h) = catch z (advanced values t) (advanced values h)
  advanced values (try t h) = try (advanced values t) (advanced values h)

  pub advanced_each : {C : Type 0} → List (ℕ × Value) → Choices C → Choices C
  advanced_each values no_choice = no_choice
  advanced_each values (choice w t cs) = choice w (advanced values t) (advanced_each values cs)

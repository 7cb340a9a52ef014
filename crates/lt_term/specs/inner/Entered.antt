-- Which scopes are entered.
use Rattle.std.specs.Prelude.{Bool, true, false, ◌||◌}
use Rattle.lt_term.specs.Process.{Process, eps, dead, con, raise, seq, loop, count, any, pri, par, assert, exist, catch, try, Choices, no_choice, choice}
use Rattle.lt_term.specs.declared.last.Last.{Last}
use Rattle.lt_term.specs.declared.last.Last.TheVariants as last

-- whether a local had a value in the instant before
abbrev pub has_value : Last → Bool
has_value last.First = false
has_value (last.Kept v) = true

-- whether a scope of a term is entered
abbrev mutual
  pub is_entered : {C : Type 0} → Process C → Bool
  is_entered eps = false
  is_entered dead = false
  is_entered (con c) = false
  is_entered (raise z) = false
  is_entered (seq a b) = is_entered a || is_entered b
  is_entered (loop t) = is_entered t
  is_entered (count i done t) = is_entered t
  is_entered (any cs) = is_entered_anywhere cs
  is_entered (pri a b) = is_entered a || is_entered b
  is_entered (par a b) = is_entered a || is_entered b
  is_entered (assert c t) = is_entered t
  is_entered (exist x v t) = has_value v || is_entered t
  is_entered (catch z t h) = is_entered t || is_entered h
  is_entered (try t h) = is_entered t || is_entered h

  pub is_entered_anywhere : {C : Type 0} → Choices C → Bool
  is_entered_anywhere no_choice = false
  is_entered_anywhere (choice w t cs) = is_entered t || is_entered_anywhere cs

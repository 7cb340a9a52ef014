-- Which scenarios have a constraint with too many atoms in one conjunct.
use Rattle.std.specs.Prelude.{Bool, false, ◌||◌}
use Rattle.lt_term.specs.Configuration.{scene_kinds}
use Rattle.lt_term.specs.Process.{Process, eps, dead, con, raise, seq, loop, count, any, pri, par, assert, exist, catch, try, Choices, no_choice, choice}
use Rattle.lt_term.specs.Scene.{Scene}
use Rattle.lt_parts.specs.Atoms.{is_crowded}

-- whether some constraint of a term passes a test, of an instant or of an assert; a weight is none
abbrev mutual
  pub has_constraint : {C : Type 0} → (C → Bool) → Process C → Bool
  has_constraint test eps = false
  has_constraint test dead = false
  has_constraint test (con c) = test c
  has_constraint test (raise z) = false
  has_constraint test (seq a b) = has_constraint test a || has_constraint test b
  has_constraint test (loop t) = has_constraint test t
  has_constraint test (count i done t) = has_constraint test t
  has_constraint test (any cs) = has_constraint_anywhere test cs
  has_constraint test (pri a b) = has_constraint test a || has_constraint test b
  has_constraint test (par a b) = has_constraint test a || has_constraint test b
  has_constraint test (assert c t) = test c || has_constraint test t
  has_constraint test (exist x v t) = has_constraint test t
  has_constraint test (catch z t h) = has_constraint test t || has_constraint test h
  has_constraint test (try t h) = has_constraint test t || has_constraint test h

  -- some constraint of terms to choose from
  pub has_constraint_anywhere : {C : Type 0} → (C → Bool) → Choices C → Bool
  has_constraint_anywhere test no_choice = false
  has_constraint_anywhere test (choice w t cs) =
      has_constraint test t || has_constraint_anywhere test cs

-- whether some constraint of a scenario has a conjunct of more atoms than it may have
abbrev pub has_too_many_atoms : Scene → Bool
has_too_many_atoms s = has_constraint (is_crowded (scene_kinds s)) s.body

-- Terms as contracts see them.
use Rattle.std.specs.Prelude.{ℕ}
use Rattle.lt_term.specs.declared.last.Last.{Last}

mutual
  -- What is still to be done. A constraint or a weight is a number of a table, or the expression that it spells.
  pub data Process (C : Type 0) : Type 0 where
    -- nothing
    eps : Process C
    -- a deadlock
    dead : Process C
    -- one instant in which the constraint holds
    con : C → Process C
    -- an exception
    raise : ℕ → Process C
    -- the first, and then the second
    seq : Process C → Process C → Process C
    -- one part over and over, for as long as it takes instants
    loop : Process C → Process C
    -- one part for each turn of a counter, of which so many are done
    count : ℕ → ℕ → Process C → Process C
    -- one of these
    any : Choices C → Process C
    -- the first, or the second where nothing can be done in the first
    pri : Process C → Process C → Process C
    -- both at once
    par : Process C → Process C → Process C
    -- a constraint that holds in each instant
    assert : C → Process C → Process C
    -- a local variable, and the value that it had in the instant before
    exist : ℕ → Last → Process C → Process C
    -- the second in place of the first's rest once the first raises the exception
    catch : ℕ → Process C → Process C → Process C
    -- the second in place of the first's rest once nothing can be done in the first
    try : Process C → Process C → Process C

  -- terms to choose from, each with its weight
  pub data Choices (C : Type 0) : Type 0 where
    no_choice : Choices C
    choice : C → Process C → Choices C → Choices C

-- a term with other constraints in place of its own
abbrev mutual
  pub with_constraints : {C D : Type 0} → (C → D) → Process C → Process D
  with_constraints f eps = eps
  with_constraints f dead = dead
  with_constraints f (con c) = con (f c)
  with_constraints f (raise z) = raise z
  with_constraints f (seq a b) = seq (with_constraints f a) (with_constraints f b)
  with_constraints f (loop t) = loop (with_constraints f t)
  with_constraints f (count i done t) = count i done (with_constraints f t)
  with_constraints f (any cs) = any (choices_with_constraints f cs)
  with_constraints f (pri a b) = pri (with_constraints f a) (with_constraints f b)
  with_constraints f (par a b) = par (with_constraints f a) (with_constraints f b)
  with_constraints f (assert c t) = assert (f c) (with_constraints f t)
  with_constraints f (exist x v t) = exist x v (with_constraints f t)
  with_constraints f (catch z t h) = catch z (with_constraints f t) (with_constraints f h)
  with_constraints f (try t h) = try (with_constraints f t) (with_constraints f h)

  pub choices_with_constraints : {C D : Type 0} → (C → D) → Choices C → Choices D
  choices_with_constraints f no_choice = no_choice
  choices_with_constraints f (choice w t cs) = choice (f w) (with_constraints f t) (choices_with_constraints f cs)

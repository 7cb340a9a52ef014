-- What leaves weigh that raise an exception.
use Rattle.std.specs.Prelude.{◌≡◌, ◌<◌, ◌≤◌, ◌^◌, ℕ, List, All, length}
use Rattle.lt_term.specs.Process.{Process, eps, dead, con, raise, seq, loop, count, any, pri, par, assert, exist, catch, try, Choices, no_choice, choice}

-- the handlers of a term are for exceptions below a number
abbrev mutual
  pub HandlesBelow : ℕ → Process ℕ → Type 0
  HandlesBelow n eps = Unit {0}
  HandlesBelow n dead = Unit {0}
  HandlesBelow n (con c) = Unit {0}
  HandlesBelow n (raise z) = Unit {0}
  HandlesBelow n (seq a b) = HandlesBelow n a × HandlesBelow n b
  HandlesBelow n (loop t) = HandlesBelow n t
  HandlesBelow n (count i done t) = HandlesBelow n t
  HandlesBelow n (any cs) = EachHandlesBelow n cs
  HandlesBelow n (pri a b) = HandlesBelow n a × HandlesBelow n b
  HandlesBelow n (par a b) = HandlesBelow n a × HandlesBelow n b
  HandlesBelow n (assert c t) = HandlesBelow n t
  HandlesBelow n (exist x v t) = HandlesBelow n t
  HandlesBelow n (catch z t h) = (z < n) × HandlesBelow n t × HandlesBelow n h
  HandlesBelow n (try t h) = HandlesBelow n t × HandlesBelow n h

  pub EachHandlesBelow : ℕ → Choices ℕ → Type 0
  EachHandlesBelow n no_choice = Unit {0}
  EachHandlesBelow n (choice w t cs) = HandlesBelow n t × EachHandlesBelow n cs

-- each exception that a term handles has a weight, which is 1
pub record IsRoomFor (p : Process ℕ) (zs : List ℕ) : Type 0 where
  pub ones : All (λ n. n ≡ 1) zs
  pub few : length zs ≤ 2 ^ 32
  pub handles : HandlesBelow (length zs) p

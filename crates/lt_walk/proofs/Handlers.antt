-- The exceptions that terms handle.
use Rattle.std.proofs.Common.{ℕ, ◌≤◌, arith}
use Rattle.lt_term.specs.Process.{Process, eps, dead, con, raise, seq, loop, count, any, pri, par, assert, exist, catch, try, Choices, no_choice, choice}
use Rattle.lt_walk.specs.Room.{HandlesBelow, EachHandlesBelow}

module _ (n m : ℕ) (l : n ≤ m) where
  mutual
    pub below_more : (p : Process ℕ) → HandlesBelow n p → HandlesBelow m p
    below_more eps h = tt
    below_more dead h = tt
    below_more (con c) h = tt
    below_more (raise z) h = tt
    below_more (seq a b) h = (below_more a h.0, below_more b h.1)
    below_more (loop t) h = below_more t h
    below_more (count i done t) h = below_more t h
    below_more (any cs) h = each_below_more cs h
    below_more (pri a b) h = (below_more a h.0, below_more b h.1)
    below_more (par a b) h = (below_more a h.0, below_more b h.1)
    below_more (assert c t) h = below_more t h
    below_more (exist x v t) h = below_more t h
    below_more (catch z t u) h = (omega (arith, h.0, l), below_more t h.1, below_more u h.2)
    below_more (try t u) h = (below_more t h.0, below_more u h.1)

    pub each_below_more : (cs : Choices ℕ) → EachHandlesBelow n cs → EachHandlesBelow m cs
    each_below_more no_choice h = tt
    each_below_more (choice w t cs) h = (below_more t h.0, each_below_more cs h.1)

pub below_greater : (n m : ℕ) (p : Process ℕ) → HandlesBelow n p → n ≤ m → HandlesBelow m p
below_greater n m p h l = below_more n m l p h

pub each_below_greater : (n m : ℕ) (cs : Choices ℕ) → EachHandlesBelow n cs → n ≤ m → EachHandlesBelow m cs
each_below_greater n m cs h l = each_below_more n m l cs h

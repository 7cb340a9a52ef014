-- A number of 64 bits for a term: the same term has the same one.
use Rattle.std.specs.Prelude.{ℕ, ◌+◌, ◌*◌, ◌%◌, ◌^◌, unsigned_abs}
use Rattle.lt_num.specs.Value.{raw_of}
use Rattle.lt_term.specs.Process.{Process, Choices, eps, dead, con, raise, seq, loop, count, any, pri, par, assert, exist, catch, try, no_choice, choice}
use Rattle.lt_term.specs.declared.last.Last.{Last}
use Rattle.lt_term.specs.declared.last.Last.TheVariants as lasts
use Rattle.lt_same_term.specs.Alike.{head_of}
use Rattle.lt_same_term.specs.declared.head.Head.{Head}

-- a hash with one number more
abbrev pub stirred : ℕ → ℕ → ℕ
stirred hash number = ((hash * 6364136223846793005) % 2 ^ 64 + number) % 2 ^ 64

-- a number for what a local was
abbrev pub last_number : Last → ℕ
last_number lasts.First = 0
last_number (lasts.Kept v) = unsigned_abs (raw_of v)

-- a hash with a head more
abbrev pub with_head : ℕ → Head → ℕ
with_head hash h =
    stirred (stirred (stirred (stirred hash h.kind) h.number) h.done) (last_number h.last)

-- a hash with a term more: its head, and then its parts
abbrev mutual
  pub with_term : ℕ → Process ℕ → ℕ
  with_term hash eps = with_head hash (head_of eps)
  with_term hash dead = with_head hash (head_of dead)
  with_term hash (con c) = with_head hash (head_of (con c))
  with_term hash (raise z) = with_head hash (head_of (raise z))
  with_term hash (seq a b) = with_term (with_term (with_head hash (head_of (seq a b))) a) b
  with_term hash (loop a) = with_term (with_head hash (head_of (loop a))) a
  with_term hash (count i done a) = with_term (with_head hash (head_of (count i done a))) a
  with_term hash (any cs) = with_choices (with_head hash (head_of (any cs))) cs
  with_term hash (pri a b) = with_term (with_term (with_head hash (head_of (pri a b))) a) b
  with_term hash (par a b) = with_term (with_term (with_head hash (head_of (par a b))) a) b
  with_term hash (assert c a) = with_term (with_head hash (head_of (assert c a))) a
  with_term hash (exist x v a) = with_term (with_head hash (head_of (exist x v a))) a
  with_term hash (catch z a b) = with_term (with_term (with_head hash (head_of (catch z a b))) a) b
  with_term hash (try a b) = with_term (with_term (with_head hash (head_of (try a b))) a) b

  pub with_choices : ℕ → Choices ℕ → ℕ
  with_choices hash no_choice = hash
  with_choices hash (choice w t cs) = with_choices (with_term (stirred hash w) t) cs

-- the hash of a term
abbrev pub hash_of : Process ℕ → ℕ
hash_of p = with_term 0 p

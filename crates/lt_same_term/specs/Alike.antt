-- Whether two terms are the same, as the code finds it.
use Rattle.std.specs.Prelude.{ℕ, Bool, true, false, ◌&&◌, nat_eq, not, if◌then◌else◌}
use Rattle.std.specs.Ordering.{int_eq}
use Rattle.lt_num.specs.declared.value.Value.{Value}
use Rattle.lt_num.specs.declared.value.Value.TheVariants as value
use Rattle.lt_term.specs.Process.{Process, Choices, eps, dead, con, raise, seq, loop, count, any, pri, par, assert, exist, catch, try, no_choice, choice}
use Rattle.lt_term.specs.declared.last.Last.{Last}
use Rattle.lt_term.specs.declared.last.Last.TheVariants as lasts
use Rattle.lt_same_term.specs.declared.head.Head.{Head}

-- the parts of a term
pub data Parts : Type 0 where
  no_part : Parts
  one_part : Process ℕ → Parts
  two_parts : Process ℕ → Process ℕ → Parts
  many_parts : Choices ℕ → Parts

-- a head with one number
abbrev pub plain : ℕ → ℕ → Head
plain k n = record { kind = k; number = n; done = 0; last = lasts.First }

-- what a term is but for its parts
abbrev pub head_of : Process ℕ → Head
head_of eps = plain 0 0
head_of dead = plain 1 0
head_of (con c) = plain 2 c
head_of (raise z) = plain 3 z
head_of (seq a b) = plain 4 0
head_of (loop t) = plain 5 0
head_of (count i done t) = record { kind = 6; number = i; done = done; last = lasts.First }
head_of (any cs) = plain 7 0
head_of (pri a b) = plain 8 0
head_of (par a b) = plain 9 0
head_of (assert c t) = plain 10 c
head_of (exist x v t) = record { kind = 11; number = x; done = 0; last = v }
head_of (catch z t h) = plain 12 z
head_of (try t h) = plain 13 0

-- its parts
abbrev pub parts_of : Process ℕ → Parts
parts_of eps = no_part
parts_of dead = no_part
parts_of (con c) = no_part
parts_of (raise z) = no_part
parts_of (seq a b) = two_parts a b
parts_of (loop t) = one_part t
parts_of (count i done t) = one_part t
parts_of (any cs) = many_parts cs
parts_of (pri a b) = two_parts a b
parts_of (par a b) = two_parts a b
parts_of (assert c t) = one_part t
parts_of (exist x v t) = one_part t
parts_of (catch z t h) = two_parts t h
parts_of (try t h) = two_parts t h

-- whether two values are the same
abbrev pub value_eq : Value → Value → Bool
value_eq (value.Bool b) (value.Bool c) = if b then c else not c
value_eq (value.Bool b) (value.Num n) = false
value_eq (value.Num m) (value.Bool c) = false
value_eq (value.Num m) (value.Num n) = int_eq m n

abbrev pub last_eq : Last → Last → Bool
last_eq lasts.First lasts.First = true
last_eq lasts.First (lasts.Kept v) = false
last_eq (lasts.Kept u) lasts.First = false
last_eq (lasts.Kept u) (lasts.Kept v) = value_eq u v

-- whether two heads are
abbrev pub head_eq : Head → Head → Bool
head_eq h k =
    nat_eq h.kind k.kind
    && (nat_eq h.number k.number && (nat_eq h.done k.done && last_eq h.last k.last))

-- whether parts are, by a test each
abbrev pub one_alike : (Process ℕ → Bool) → Parts → Bool
one_alike f (one_part t) = f t
one_alike f _ = false

abbrev pub two_alike : (Process ℕ → Bool) → (Process ℕ → Bool) → Parts → Bool
two_alike f g (two_parts a b) = f a && g b
two_alike f g _ = false

abbrev pub many_alike : (Choices ℕ → Bool) → Parts → Bool
many_alike f (many_parts cs) = f cs
many_alike f _ = false

-- whether two terms are
abbrev mutual
  pub alike : Process ℕ → Process ℕ → Bool
  alike eps y = head_eq (head_of eps) (head_of y)
  alike dead y = head_eq (head_of dead) (head_of y)
  alike (con c) y = head_eq (head_of (con c)) (head_of y)
  alike (raise z) y = head_eq (head_of (raise z)) (head_of y)
  alike (seq a b) y =
      head_eq (head_of (seq a b)) (head_of y)
      && two_alike (λ t. alike a t) (λ t. alike b t) (parts_of y)
  alike (loop a) y =
      head_eq (head_of (loop a)) (head_of y) && one_alike (λ t. alike a t) (parts_of y)
  alike (count i done a) y =
      head_eq (head_of (count i done a)) (head_of y) && one_alike (λ t. alike a t) (parts_of y)
  alike (any cs) y =
      head_eq (head_of (any cs)) (head_of y) && many_alike (λ ds. choices_alike cs ds) (parts_of y)
  alike (pri a b) y =
      head_eq (head_of (pri a b)) (head_of y)
      && two_alike (λ t. alike a t) (λ t. alike b t) (parts_of y)
  alike (par a b) y =
      head_eq (head_of (par a b)) (head_of y)
      && two_alike (λ t. alike a t) (λ t. alike b t) (parts_of y)
  alike (assert c a) y =
      head_eq (head_of (assert c a)) (head_of y) && one_alike (λ t. alike a t) (parts_of y)
  alike (exist x v a) y =
      head_eq (head_of (exist x v a)) (head_of y) && one_alike (λ t. alike a t) (parts_of y)
  alike (catch z a b) y =
      head_eq (head_of (catch z a b)) (head_of y)
      && two_alike (λ t. alike a t) (λ t. alike b t) (parts_of y)
  alike (try a b) y =
      head_eq (head_of (try a b)) (head_of y)
      && two_alike (λ t. alike a t) (λ t. alike b t) (parts_of y)

  pub choices_alike : Choices ℕ → Choices ℕ → Bool
  choices_alike no_choice no_choice = true
  choices_alike no_choice (choice w t cs) = false
  choices_alike (choice v a cs) no_choice = false
  choices_alike (choice v a cs) (choice w b ds) = nat_eq v w && (alike a b && choices_alike cs ds)

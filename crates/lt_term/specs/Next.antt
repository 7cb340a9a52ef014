-- What comes after an instant. Round a term that is over there is nothing.
use Rattle.std.specs.Prelude.{ℕ}
use Rattle.lt_num.specs.declared.value.Value.{Value}
use Rattle.lt_term.specs.declared.last.Last.{Last}
use Rattle.lt_term.specs.declared.last.Last.TheVariants as last
use Rattle.lt_term.specs.Process.{Process, eps, seq, par, assert, exist, catch, try}

-- the second after the first, and the second alone where the first is over
abbrev pub followed_by : {C : Type 0} → Process C → Process C → Process C
followed_by eps b = b
followed_by a b = seq a b

-- both at once, and one alone where the other is over
abbrev pub beside : {C : Type 0} → Process C → Process C → Process C
beside eps b = b
beside a eps = a
beside a b = par a b

-- with a constraint in each instant
abbrev pub asserting : {C : Type 0} → C → Process C → Process C
asserting c eps = eps
asserting c t = assert c t

-- with a local variable
abbrev pub with_scope : {C : Type 0} → ℕ → Last → Process C → Process C
with_scope x v eps = eps
with_scope x v t = exist x v t

-- with a handler of an exception
abbrev pub catching : {C : Type 0} → ℕ → Process C → Process C → Process C
catching z eps h = eps
catching z t h = catch z t h

-- with another term for where nothing can be done
abbrev pub trying : {C : Type 0} → Process C → Process C → Process C
trying eps h = eps
trying t h = try t h

-- What a local keeps until its next value is known: the value that it had, or this one where it had none.
abbrev pub kept : Value → Last → Last
kept start last.First = last.Kept start
kept start (last.Kept v) = last.Kept v

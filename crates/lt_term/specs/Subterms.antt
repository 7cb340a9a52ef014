-- The parts of a term, and what of them is told once for all.
use Rattle.std.specs.Prelude.{ℕ, zero, suc, Bool, true, false, nat_eq, nat_le, List, [], ◌∷◌, ◌++◌}
use Rattle.std.specs.List.{flat_map, list_all}
use Rattle.lt_formula.specs.Limits.{most_alternatives}
use Rattle.lt_term.specs.Process.{Process, eps, dead, con, raise, seq, loop, count, any, pri, par, assert, exist, catch, try, Choices, no_choice, choice}
use Rattle.lt_term.specs.declared.last.Last.{Last}
use Rattle.lt_term.specs.declared.last.Last.TheVariants as last

-- A term and all terms in it, in preorder: each before those in it, and these from left to right.
abbrev mutual
  pub subterms : {C : Type 0} → Process C → List (Process C)
  subterms eps = eps ∷ []
  subterms dead = dead ∷ []
  subterms (con c) = con c ∷ []
  subterms (raise z) = raise z ∷ []
  subterms (seq a b) = seq a b ∷ (subterms a ++ subterms b)
  subterms (loop t) = loop t ∷ subterms t
  subterms (count i done t) = count i done t ∷ subterms t
  subterms (any cs) = any cs ∷ subterms_of_each cs
  subterms (pri a b) = pri a b ∷ (subterms a ++ subterms b)
  subterms (par a b) = par a b ∷ (subterms a ++ subterms b)
  subterms (assert c t) = assert c t ∷ subterms t
  subterms (exist x v t) = exist x v t ∷ subterms t
  subterms (catch z t h) = catch z t h ∷ (subterms t ++ subterms h)
  subterms (try t h) = try t h ∷ (subterms t ++ subterms h)

  pub subterms_of_each : {C : Type 0} → Choices C → List (Process C)
  subterms_of_each no_choice = []
  subterms_of_each (choice w t cs) = subterms t ++ subterms_of_each cs

-- the local whose scope a term is, if it is one
abbrev pub local_at : {C : Type 0} → Process C → List ℕ
local_at (exist x v t) = x ∷ []
local_at other = []

-- the counter of a counted loop
abbrev pub counter_at : {C : Type 0} → Process C → List ℕ
counter_at (count i done t) = i ∷ []
counter_at other = []

-- the locals of a term, in preorder
abbrev pub locals_in : {C : Type 0} → Process C → List ℕ
locals_in p = flat_map local_at (subterms p)

-- its counters, in preorder
abbrev pub counters_in : {C : Type 0} → Process C → List ℕ
counters_in p = flat_map counter_at (subterms p)

-- so many numbers, each one more than the one before, from this one on
abbrev pub numbers_from : ℕ → ℕ → List ℕ
numbers_from i zero = []
numbers_from i (suc n) = i ∷ numbers_from (suc i) n

-- whether a local has had no value yet
abbrev pub is_first : Last → Bool
is_first last.First = true
is_first (last.Kept v) = false

-- whether a scope isn't entered yet, and a counted loop has done no turn
abbrev pub is_unbegun : {C : Type 0} → Process C → Bool
is_unbegun (exist x v t) = is_first v
is_unbegun (count i done t) = nat_eq done 0
is_unbegun other = true

-- whether no scope of a term is entered, and none of its counted loops has done a turn
abbrev pub is_at_start : {C : Type 0} → Process C → Bool
is_at_start p = list_all is_unbegun (subterms p)

-- how many alternatives there are
abbrev pub alternatives : {C : Type 0} → Choices C → ℕ
alternatives no_choice = 0
alternatives (choice w t cs) = suc (alternatives cs)

-- whether a weighted choice has few enough of them
abbrev pub is_narrow_choice : {C : Type 0} → Process C → Bool
is_narrow_choice (any cs) = nat_le (alternatives cs) most_alternatives
is_narrow_choice other = true

-- whether each weighted choice of a term has few enough alternatives
abbrev pub is_narrow : {C : Type 0} → Process C → Bool
is_narrow p = list_all is_narrow_choice (subterms p)

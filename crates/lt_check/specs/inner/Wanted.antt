-- Which leaves are wanted, as a test.
use Rattle.std.specs.Prelude.{ℕ, suc, nat_eq, Bool, true, false, not, ◌&&◌, if◌then◌else◌, List, [], ◌∷◌, ℤ}
use Rattle.std.specs.Cmp.Lexicographic.{pointwise}
use Rattle.lt_num.specs.declared.fault.Arith.{Arith}
use Rattle.lt_num.specs.declared.fault.Arith.TheVariants.{DivisionByZero, NegativeWeight, NoPrevious, Overflow}
use Rattle.lt_space.specs.Formula.{Formula}
use Rattle.lt_term.specs.Evaluated.{faulty, go, nothing, raised, vanish}
use Rattle.lt_term.specs.Scene.{Scene}
use Rattle.lt_term.specs.Tree.{Lasts}
use Rattle.lt_instant.specs.Instant.{Leaf}
use Rattle.lt_instant.specs.Solved.{holds_of, is_in_scope}
use Rattle.lt_legal.specs.LegalRun.{name_of}

-- a test of leaves, a part for each sort of them
pub record Wanted : Type 0 where
  pub vanish : Bool
  pub raise : ℕ → Bool
  pub fault : Arith → Bool
  pub instant : Formula → Lasts → Bool

-- whether a leaf is wanted
abbrev pub is_wanted : Wanted → Leaf → Bool
is_wanted w vanish = w.vanish
is_wanted w nothing = false
is_wanted w (raised z) = w.raise z
is_wanted w (faulty fault) = w.fault fault
is_wanted w (go f ls n) = w.instant f ls

-- whether two truths are one
abbrev pub same_truth : Bool → Bool → Bool
same_truth a b = if a then b else not b

-- whether exactly the locals with a mark are in scope, the first of which has this number
abbrev pub has_scope : Lasts → ℕ → List Bool → Bool
has_scope ls x [] = true
has_scope ls x (mark ∷ marks) = same_truth (is_in_scope ls x) mark && has_scope ls (suc x) marks

-- whether two exceptions of a scenario have one name
abbrev pub same_name : Scene → ℕ → ℕ → Bool
same_name s y z = pointwise nat_eq (name_of s y) (name_of s z)

-- whether two faults are one
abbrev pub same_fault : Arith → Arith → Bool
same_fault NoPrevious NoPrevious = true
same_fault DivisionByZero DivisionByZero = true
same_fault Overflow Overflow = true
same_fault NegativeWeight NegativeWeight = true
same_fault _ _ = false

-- an instant with these raw numbers, in which exactly the locals with a mark are in scope
abbrev pub for_step : Scene → List ℤ → List Bool → Wanted
for_step s raws marks = record {
  vanish = false;
  raise = λ z. false;
  fault = λ f. false;
  instant = λ f ls. has_scope ls 0 marks && holds_of s f raws;
}

-- the end of the scenario
abbrev pub for_normal : Wanted
for_normal = record { vanish = true; raise = λ z. false; fault = λ f. false; instant = λ f ls. false }

-- an exception that has the name of this one
abbrev pub for_raise : Scene → ℕ → Wanted
for_raise s exception = record {
  vanish = false;
  raise = λ z. same_name s z exception;
  fault = λ f. false;
  instant = λ f ls. false;
}

-- this fault
abbrev pub for_fault : Arith → Wanted
for_fault wanted = record {
  vanish = false;
  raise = λ z. false;
  fault = λ f. same_fault f wanted;
  instant = λ f ls. false;
}

-- what is live whatever values there are
abbrev pub for_free : Wanted
for_free = record { vanish = true; raise = λ z. true; fault = λ f. true; instant = λ f ls. false }

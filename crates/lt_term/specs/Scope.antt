-- Where locals are named: only in the terms that are their scopes.
use Rattle.std.specs.Prelude.{ℕ, Bool, true, ◌&&◌, nat_eq, List, ◌∷◌}
use Rattle.std.specs.List.{list_any}
use Rattle.lt_formula.specs.Expression as e
use Rattle.lt_formula.specs.Expression.{Expression}
use Rattle.lt_formula.specs.declared.role.Role.{Role}
use Rattle.lt_formula.specs.declared.role.Role.TheVariants as role
use Rattle.lt_term.specs.Process.{Process, eps, dead, con, raise, seq, loop, count, any, pri, par, assert, exist, catch, try, Choices, no_choice, choice}

-- whether a variable, if it is a local, is one of these
abbrev pub is_open : List ℕ → Role → ℕ → Bool
is_open xs role.Input i = true
is_open xs role.Output i = true
is_open xs role.Local i = list_any (nat_eq i) xs

-- whether an expression names no other locals than these, also as they were in the instant before
abbrev pub names_only : List ℕ → Expression → Bool
names_only xs (e.constant k v) = true
names_only xs (e.variable r i) = is_open xs r i
names_only xs (e.previous r i) = is_open xs r i
names_only xs (e.unary op d) = names_only xs d
names_only xs (e.binary op d f) = names_only xs d && names_only xs f
names_only xs (e.choice c d f) = names_only xs c && (names_only xs d && names_only xs f)

-- whether the expressions of a term name a local only in its scope, but for these locals
abbrev mutual
  pub are_named_inside : List ℕ → Process Expression → Bool
  are_named_inside xs eps = true
  are_named_inside xs dead = true
  are_named_inside xs (con c) = names_only xs c
  are_named_inside xs (raise z) = true
  are_named_inside xs (seq a b) = are_named_inside xs a && are_named_inside xs b
  are_named_inside xs (loop t) = are_named_inside xs t
  are_named_inside xs (count i done t) = are_named_inside xs t
  are_named_inside xs (any cs) = are_each_named_inside xs cs
  are_named_inside xs (pri a b) = are_named_inside xs a && are_named_inside xs b
  are_named_inside xs (par a b) = are_named_inside xs a && are_named_inside xs b
  are_named_inside xs (assert c t) = names_only xs c && are_named_inside xs t
  are_named_inside xs (exist x v t) = are_named_inside (x ∷ xs) t
  are_named_inside xs (catch z t h) = are_named_inside xs t && are_named_inside xs h
  are_named_inside xs (try t h) = are_named_inside xs t && are_named_inside xs h

  pub are_each_named_inside : List ℕ → Choices Expression → Bool
  are_each_named_inside xs no_choice = true
  are_each_named_inside xs (choice w t cs) = names_only xs w && (are_named_inside xs t && are_each_named_inside xs cs)

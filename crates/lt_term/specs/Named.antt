-- The expressions that a term names, and their parts.
use Rattle.std.specs.Prelude.{List, [], ◌∷◌, ◌++◌}
use Rattle.std.specs.List.{flat_map}
use Rattle.lt_formula.specs.Expression as e
use Rattle.lt_formula.specs.Expression.{Expression}
use Rattle.lt_term.specs.Process.{Process, eps, dead, con, raise, seq, loop, count, any, pri, par, assert, exist, catch, try, Choices, no_choice, choice}
use Rattle.lt_term.specs.Subterms.{subterms}

-- an expression and all parts of it, in preorder
abbrev pub with_parts : Expression → List Expression
with_parts (e.constant k v) = e.constant k v ∷ []
with_parts (e.variable r i) = e.variable r i ∷ []
with_parts (e.previous r i) = e.previous r i ∷ []
with_parts (e.unary op d) = e.unary op d ∷ with_parts d
with_parts (e.binary op d f) = e.binary op d f ∷ (with_parts d ++ with_parts f)
with_parts (e.choice c d f) = e.choice c d f ∷ (with_parts c ++ (with_parts d ++ with_parts f))

-- The constraints and weights of a term, in preorder, each time that it stands there.
abbrev mutual
  pub expressions_in : {C : Type 0} → Process C → List C
  expressions_in eps = []
  expressions_in dead = []
  expressions_in (con c) = c ∷ []
  expressions_in (raise z) = []
  expressions_in (seq a b) = expressions_in a ++ expressions_in b
  expressions_in (loop t) = expressions_in t
  expressions_in (count i done t) = expressions_in t
  expressions_in (any cs) = expressions_in_each cs
  expressions_in (pri a b) = expressions_in a ++ expressions_in b
  expressions_in (par a b) = expressions_in a ++ expressions_in b
  expressions_in (assert c t) = c ∷ expressions_in t
  expressions_in (exist x v t) = expressions_in t
  expressions_in (catch z t h) = expressions_in t ++ expressions_in h
  expressions_in (try t h) = expressions_in t ++ expressions_in h

  pub expressions_in_each : {C : Type 0} → Choices C → List C
  expressions_in_each no_choice = []
  expressions_in_each (choice w t cs) = w ∷ (expressions_in t ++ expressions_in_each cs)

-- the weights of alternatives
abbrev pub weights_of : {C : Type 0} → Choices C → List C
weights_of no_choice = []
weights_of (choice w t cs) = w ∷ weights_of cs

-- those of a weighted choice
abbrev pub weights_at : {C : Type 0} → Process C → List C
weights_at (any cs) = weights_of cs
weights_at other = []

-- those of all weighted choices of a term
abbrev pub weights_in : {C : Type 0} → Process C → List C
weights_in p = flat_map weights_at (subterms p)

-- the constraints and weights of a term and all their parts, each time that it stands there
abbrev pub parts_in : Process Expression → List Expression
parts_in p = flat_map with_parts (expressions_in p)

-- Where the constraints and weights of an expansion name its locals: only inside the traces that declare them.
use Rattle.std.specs.Prelude.{◌≡◌, ℕ, List, [], ◌∷◌, ◌⊎◌}
use Rattle.std.specs.declared.option.Option.{Option}
use Rattle.std.specs.declared.option.Option.TheVariants.{Some}
use Rattle.lt_ast.specs.Syntax.{Declaration}
use Rattle.lt_formula.specs.declared.role.Role.{Role}
use Rattle.lt_formula.specs.declared.role.Role.TheVariants as role
use Rattle.lt_macros.specs.Placed as p
use Rattle.lt_macros.specs.Placed.{Placed}
use Rattle.lt_macros.specs.Expanded.{Expanded, eps, dead, con, raise, seq, loop, count, any, pri, par, assert, exist, catch, try, Parts, no_part, part, Node}
use Rattle.lt_macros.specs.Expansion.{expanded_node}
use Rattle.lt_macros.specs.Preorder.{arguments_in}

-- A number is one of these.
abbrev pub IsOne : ℕ → List ℕ → Type 0
IsOne i [] = ⊥
IsOne i (k ∷ ks) = (i ≡ k) ⊎ IsOne i ks

-- A variable, if it is a local, is one of these.
abbrev pub IsOpen : List ℕ → Role → ℕ → Type 0
IsOpen xs role.Input i = Unit {0}
IsOpen xs role.Output i = Unit {0}
IsOpen xs role.Local i = IsOne i xs

-- An expression names no other locals than these.
abbrev pub NamesOnly : List ℕ → Placed → Type 0
NamesOnly xs (p.constant k v at) = Unit {0}
NamesOnly xs (p.variable r i at) = IsOpen xs r i
NamesOnly xs (p.previous r i at) = IsOpen xs r i
NamesOnly xs (p.unary op e at) = NamesOnly xs e
NamesOnly xs (p.binary op d e at) = NamesOnly xs d × NamesOnly xs e
NamesOnly xs (p.choice c d e at) = NamesOnly xs c × (NamesOnly xs d × NamesOnly xs e)

-- The constraints and weights of a trace name a local only inside the trace that declares it, but for these locals.
abbrev mutual
  pub AreInside : List ℕ → Expanded → Type 0
  AreInside xs eps = Unit {0}
  AreInside xs dead = Unit {0}
  AreInside xs (con e) = NamesOnly xs e
  AreInside xs (raise z) = Unit {0}
  AreInside xs (seq x y) = AreInside xs x × AreInside xs y
  AreInside xs (loop x) = AreInside xs x
  AreInside xs (count i b x) = AreInside xs x
  AreInside xs (any ps) = AreEachInside xs ps
  AreInside xs (pri x y) = AreInside xs x × AreInside xs y
  AreInside xs (par x y) = AreInside xs x × AreInside xs y
  AreInside xs (assert e x) = NamesOnly xs e × AreInside xs x
  AreInside xs (exist i d x) = AreInside (i ∷ xs) x
  AreInside xs (catch z x h) = AreInside xs x × AreInside xs h
  AreInside xs (try x h) = AreInside xs x × AreInside xs h

  pub AreEachInside : List ℕ → Parts → Type 0
  AreEachInside xs no_part = Unit {0}
  AreEachInside xs (part w x ps) = NamesOnly xs w × (AreInside xs x × AreEachInside xs ps)

-- Expressions name no locals.
abbrev pub NameNone : List Placed → Type 0
NameNone [] = Unit {0}
NameNone (e ∷ es) = NamesOnly [] e × NameNone es

-- So it is in what each node stands for, and arguments of runs name no locals.
abbrev pub LocalsAreInside : Type 0
LocalsAreInside =
    (decimals : ℕ) (wanted : Option (List ℕ)) (ds : List Declaration) (node : Node) →
    expanded_node decimals wanted ds ≡ Some node
    → AreInside [] node.body × NameNone (arguments_in node)

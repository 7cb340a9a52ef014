-- When all expressions of a node are well typed, by the kinds of the node's variables.
use Rattle.std.specs.Prelude.{List, [], ◌∷◌, map}
use Rattle.std.specs.declared.option.Option.{Option}
use Rattle.std.specs.declared.option.Option.TheVariants.{None, Some}
use Rattle.lt_num.specs.declared.kind.Kind.{Kind}
use Rattle.lt_num.specs.declared.kind.Kind.TheVariants as kind
use Rattle.lt_formula.specs.Expression.{variable}
use Rattle.lt_formula.specs.Kinds.{Kinds}
use Rattle.lt_formula.specs.declared.role.Role.TheVariants as role
use Rattle.lt_macros.specs.Placed.{Placed, bare}
use Rattle.lt_macros.specs.Expanded.{Declared, Bounds, between, around, Expanded, eps, dead, con, raise, seq, loop, count, any, pri, par, assert, exist, catch, try, Parts, no_part, part, Node, all_inputs}
use Rattle.lt_macros.specs.Preorder.{arguments_in, locals_in}
use Rattle.lt_term.specs.WellTyped.{HasKind}

-- the kinds of a node's variables
abbrev pub node_kinds : Node → Kinds
node_kinds node = record {
  inputs = map (λ d. d.kind) (all_inputs node);
  outputs = map (λ d. d.kind) node.outputs;
  locals = map (λ d. d.kind) (locals_in node);
}

-- an expression of an expansion is well typed, and has this kind
abbrev pub IsOfKind : Kinds → Placed → Kind → Type 0
IsOfKind kinds e k = HasKind kinds (bare e) k

-- so is the first value of a variable of this kind, where it has one
abbrev pub IsFirst : Kinds → Kind → Option Placed → Type 0
IsFirst kinds k None = Unit {0}
IsFirst kinds k (Some e) = IsOfKind kinds e k

-- so are the first values of variables
abbrev pub HaveFirsts : Kinds → List Declared → Type 0
HaveFirsts kinds [] = Unit {0}
HaveFirsts kinds (d ∷ ds) = IsFirst kinds d.kind d.first × HaveFirsts kinds ds

-- so are expressions, whatever their kinds are
abbrev pub HaveKinds : Kinds → List Placed → Type 0
HaveKinds kinds [] = Unit {0}
HaveKinds kinds (e ∷ es) = ((k : Kind) × IsOfKind kinds e k) × HaveKinds kinds es

-- the two numbers of a counted loop are ints
abbrev pub AreBounds : Kinds → Bounds → Type 0
AreBounds kinds (between d e) = IsOfKind kinds d kind.Int × IsOfKind kinds e kind.Int
AreBounds kinds (around d e) = IsOfKind kinds d kind.Int × IsOfKind kinds e kind.Int

-- All expressions of a trace are well typed: constraints are truths, weights and the numbers of loops are ints, each local stands
-- in its table with its kind, and its first value has that kind.
abbrev mutual
  pub IsTyped : Kinds → Expanded → Type 0
  IsTyped kinds eps = Unit {0}
  IsTyped kinds dead = Unit {0}
  IsTyped kinds (con e) = IsOfKind kinds e kind.Bool
  IsTyped kinds (raise z) = Unit {0}
  IsTyped kinds (seq x y) = IsTyped kinds x × IsTyped kinds y
  IsTyped kinds (loop x) = IsTyped kinds x
  IsTyped kinds (count i b x) = AreBounds kinds b × IsTyped kinds x
  IsTyped kinds (any ps) = AreTyped kinds ps
  IsTyped kinds (pri x y) = IsTyped kinds x × IsTyped kinds y
  IsTyped kinds (par x y) = IsTyped kinds x × IsTyped kinds y
  IsTyped kinds (assert e x) = IsOfKind kinds e kind.Bool × IsTyped kinds x
  IsTyped kinds (exist i d x) = HasKind kinds (variable role.Local i) d.kind × IsFirst kinds d.kind d.first × IsTyped kinds x
  IsTyped kinds (catch z x h) = IsTyped kinds x × IsTyped kinds h
  IsTyped kinds (try x h) = IsTyped kinds x × IsTyped kinds h

  pub AreTyped : Kinds → Parts → Type 0
  AreTyped kinds no_part = Unit {0}
  AreTyped kinds (part w x ps) = IsOfKind kinds w kind.Int × IsTyped kinds x × AreTyped kinds ps

-- All expressions of a node are well typed; the first values of what its runs give are those of other nodes.
pub record IsTypedNode (node : Node) : Type 0 where
  pub inputs : HaveFirsts (node_kinds node) node.inputs
  pub outputs : HaveFirsts (node_kinds node) node.outputs
  pub arguments : HaveKinds (node_kinds node) (arguments_in node)
  pub body : IsTyped (node_kinds node) node.body

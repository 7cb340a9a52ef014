-- What the arguments, constraints and weights of an expansion name is there: inputs and outputs are those of the node, and constants are
-- values of their kinds. The raw numbers of each variable are some that one of its kind may have.
use Rattle.std.specs.Prelude.{◌≡◌, ◌<◌, ℕ, List, [], ◌∷◌, length}
use Rattle.std.specs.declared.option.Option.{Option}
use Rattle.std.specs.declared.option.Option.TheVariants.{Some}
use Rattle.lt_ast.specs.Syntax.{Declaration}
use Rattle.lt_num.specs.Value.{raw_of, value_of}
use Rattle.lt_formula.specs.Domain.{IsDomain}
use Rattle.lt_formula.specs.declared.role.Role.{Role}
use Rattle.lt_formula.specs.declared.role.Role.TheVariants as role
use Rattle.lt_macros.specs.Placed as p
use Rattle.lt_macros.specs.Placed.{Placed}
use Rattle.lt_macros.specs.Expanded.{Declared, Expanded, eps, dead, con, raise, seq, loop, count, any, pri, par, assert, exist, catch, try, Parts, no_part, part, Node, all_inputs}
use Rattle.lt_macros.specs.Preorder.{arguments_in}
use Rattle.lt_macros.specs.Expansion.{expanded_node}

-- A variable, if it is an input or an output, is one of so many inputs or outputs.
abbrev pub IsOneOf : ℕ → ℕ → Role → ℕ → Type 0
IsOneOf ins outs role.Input i = i < ins
IsOneOf ins outs role.Output i = i < outs
IsOneOf ins outs role.Local i = Unit {0}

-- An expression names no other inputs and outputs, and its constants are values of their kinds.
abbrev pub IsNamed : ℕ → ℕ → Placed → Type 0
IsNamed ins outs (p.constant k v at) = value_of k (raw_of v) ≡ v
IsNamed ins outs (p.variable r i at) = IsOneOf ins outs r i
IsNamed ins outs (p.previous r i at) = IsOneOf ins outs r i
IsNamed ins outs (p.unary op e at) = IsNamed ins outs e
IsNamed ins outs (p.binary op d e at) = IsNamed ins outs d × IsNamed ins outs e
IsNamed ins outs (p.choice c d e at) = IsNamed ins outs c × (IsNamed ins outs d × IsNamed ins outs e)

-- So it is in expressions.
abbrev pub AreAllNamed : ℕ → ℕ → List Placed → Type 0
AreAllNamed ins outs [] = Unit {0}
AreAllNamed ins outs (e ∷ es) = IsNamed ins outs e × AreAllNamed ins outs es

-- So it is in the constraints and weights of a trace, and a variable of each local's kind may have the local's range.
abbrev mutual
  pub AreNamed : ℕ → ℕ → Expanded → Type 0
  AreNamed ins outs eps = Unit {0}
  AreNamed ins outs dead = Unit {0}
  AreNamed ins outs (con e) = IsNamed ins outs e
  AreNamed ins outs (raise z) = Unit {0}
  AreNamed ins outs (seq x y) = AreNamed ins outs x × AreNamed ins outs y
  AreNamed ins outs (loop x) = AreNamed ins outs x
  AreNamed ins outs (count i b x) = AreNamed ins outs x
  AreNamed ins outs (any ps) = AreEachNamed ins outs ps
  AreNamed ins outs (pri x y) = AreNamed ins outs x × AreNamed ins outs y
  AreNamed ins outs (par x y) = AreNamed ins outs x × AreNamed ins outs y
  AreNamed ins outs (assert e x) = IsNamed ins outs e × AreNamed ins outs x
  AreNamed ins outs (exist i d x) = IsDomain d.kind d.range × AreNamed ins outs x
  AreNamed ins outs (catch z x h) = AreNamed ins outs x × AreNamed ins outs h
  AreNamed ins outs (try x h) = AreNamed ins outs x × AreNamed ins outs h

  pub AreEachNamed : ℕ → ℕ → Parts → Type 0
  AreEachNamed ins outs no_part = Unit {0}
  AreEachNamed ins outs (part w x ps) = IsNamed ins outs w × (AreNamed ins outs x × AreEachNamed ins outs ps)

-- A variable of each one's kind may have its range.
abbrev pub HaveDomains : List Declared → Type 0
HaveDomains [] = Unit {0}
HaveDomains (d ∷ ds) = IsDomain d.kind d.range × HaveDomains ds

-- What the arguments, constraints and weights of a node name is there.
pub record NamesWhatIsThere (node : Node) : Type 0 where
  pub inputs : HaveDomains (all_inputs node)
  pub outputs : HaveDomains node.outputs
  pub arguments : AreAllNamed (length (all_inputs node)) (length node.outputs) (arguments_in node)
  pub body : AreNamed (length (all_inputs node)) (length node.outputs) node.body

-- So it is in what each node stands for.
abbrev pub NamesAreThere : Type 0
NamesAreThere = (decimals : ℕ) (wanted : Option (List ℕ)) (ds : List Declaration) (node : Node) → expanded_node decimals wanted ds ≡ Some node → NamesWhatIsThere node

-- The environment that the code has: names from the newest to the oldest.
use Rattle.std.specs.Prelude.{◌≡◌, ℕ, ◌≤◌, ◌-◌, List, [], ◌∷◌, map, drop, take, length, bytes_eq, if◌then◌else◌}
use Rattle.std.specs.declared.option.Option.{Option}
use Rattle.std.specs.declared.option.Option.TheVariants.{None, Some}
use Rattle.lt_num.specs.Bounds.{most_decimals}
use Rattle.lt_types.specs.Environment as e
use Rattle.lt_types.specs.Environment.{Environment, Binding, Parameter, Input, Node}
use Rattle.lt_types.specs.declared.entry.Entry.{Entry}
use Rattle.lt_types.specs.declared.entry.Entry.TheVariants as c
use Rattle.lt_types.specs.declared.entry.Param.{Param}
use Rattle.lt_types.specs.declared.entry.Role.{Role}
use Rattle.lt_types.specs.declared.entry.Role.TheVariants as r
use Rattle.lt_types.specs.declared.node_types.Input.{Input as InputType}
use Rattle.lt_types.specs.declared.node_types.NodeTypes.{NodeTypes}

-- a parameter
abbrev pub param_view : Param → Parameter
param_view p = e.parameter_of p.kind p.by_ref

-- what a name stands for
abbrev pub entry_view : Entry → e.Entry
entry_view (c.Variable k) = e.variable k
entry_view (c.Parameter k) = e.parameter k
entry_view (c.Macro ps k) = e.macro (map param_view ps.items) k

-- what a list of groups declares
abbrev pub role_view : Role → e.Role
role_view r.Inputs = e.inputs
role_view r.Variables = e.variables
role_view r.Parameters = e.parameters

-- an input of a node
abbrev pub input_view : InputType → Input
input_view i = record { kind = i.kind; ranged = i.ranged }

-- a node of this name
abbrev pub node_view : List ℕ → NodeTypes → Node
node_view name types = record {
  name = name;
  inputs = map input_view types.inputs.items;
  outputs = types.outputs.items;
}

-- nodes, each with its inputs and the types of its outputs
abbrev pub nodes_of : List (List ℕ) → List NodeTypes → List Node
nodes_of [] types = []
nodes_of (n ∷ ns) [] = []
nodes_of (n ∷ ns) (x ∷ xs) = node_view n x ∷ nodes_of ns xs

-- the place of the newest of these names that is the name; the oldest has place 0
abbrev pub newest : List (List ℕ) → List ℕ → Option ℕ
newest [] name = None
newest (n ∷ ns) name = if bytes_eq name n then Some (length ns) else newest ns name

-- the names but for the newest ones, so that so many are left
abbrev pub oldest : {X : Type 0} → ℕ → List X → List X
oldest count names = drop (length names - count) names

-- the names that were added since there were so many
abbrev pub since : {X : Type 0} → ℕ → List X → List X
since count names = take (length names - count) names

-- names, each with what it stands for
abbrev pub bindings : List (List ℕ) → List e.Entry → List Binding
bindings [] entries = []
bindings (n ∷ ns) [] = []
bindings (n ∷ ns) (x ∷ xs) = record { name = n; entry = x } ∷ bindings ns xs

-- the names that were declared since there were so many
abbrev pub declared_since : ℕ → Environment → List (List ℕ)
declared_since count env = map (λ b. b.name) (since count env.names)

-- the environment when there were so many names
abbrev pub with_oldest_names : ℕ → Environment → Environment
with_oldest_names count env = record env { names = oldest count env.names }

-- the environment when there were so many exceptions
abbrev pub with_oldest_exceptions : ℕ → Environment → Environment
with_oldest_exceptions count env = record env { exceptions = oldest count env.exceptions }

-- What a scope keeps to: each name has what it stands for, so has each node, and decimals are few.
pub record IsMatched (decimals : ℕ) (names : List (List ℕ)) (entries : List Entry)
    (nodes : List (List ℕ)) (types : List NodeTypes) : Type 0 where
  pub paired : length names ≡ length entries
  pub told : length nodes ≡ length types
  pub few : decimals ≤ most_decimals

-- What is known at a place of a text: the names that are visible there. Lists of names have the newest name first, so an
-- inner name hides an outer one.
use Rattle.std.specs.Prelude.{ℕ, Bool, true, false, not, is_none, List, [], ◌∷◌, ◌++◌, map, codes, bytes_eq, if◌then◌else◌}
use Rattle.std.specs.List.{list_any}
use Rattle.std.specs.declared.option.Option.{Option}
use Rattle.std.specs.declared.option.Option.TheVariants.{None, Some}
use Rattle.lt_ast.specs.declared.group.TypeName.{TypeName}
use Rattle.lt_ast.specs.Syntax as s
use Rattle.lt_ast.specs.Syntax.{Word, WrittenRange, Grouping, Groupings, Parameters, Macro, Run, Declaration}

-- a parameter of a macro: it stands for an expression or a trace of this type, or by `ref` for a variable
pub data Parameter : Type 0 where
  by_value : TypeName → Parameter
  by_ref : TypeName → Parameter

-- what a name stands for
pub data Entry : Type 0 where
  -- a variable, or a parameter by `ref`, which has all that a variable has
  variable : TypeName → Entry
  -- any other parameter
  parameter : TypeName → Entry
  -- a macro, with its parameters in order and its type
  macro : List Parameter → TypeName → Entry

-- a name and what it stands for
pub record Binding : Type 0 where
  pub name : List ℕ
  pub entry : Entry

-- an input of a node: its type, and whether a range is written for it
pub record Input : Type 0 where
  pub kind : TypeName
  pub ranged : Bool

-- a node that may be run: its name, its inputs in order, and the types of its outputs
pub record Node : Type 0 where
  pub name : List ℕ
  pub inputs : List Input
  pub outputs : List TypeName

-- the names that are visible, in three spaces, and the number of decimals that a real has
pub record Environment : Type 0 where
  pub decimals : ℕ
  -- variables, parameters and macros
  pub names : List Binding
  pub nodes : List Node
  pub exceptions : List (List ℕ)

-- before the first declaration of a text: an exception is there from the start
abbrev pub at_start : ℕ → Environment
at_start decimals = record { decimals = decimals; names = []; nodes = []; exceptions = codes "Deadlock" ∷ [] }

-- what this name stands for: its newest declaration counts
abbrev pub found : List Binding → List ℕ → Option Entry
found [] name = None
found (b ∷ bs) name = if bytes_eq name b.name then Some b.entry else found bs name

-- the node of this name
abbrev pub found_node : List Node → List ℕ → Option Node
found_node [] name = None
found_node (n ∷ ns) name = if bytes_eq name n.name then Some n else found_node ns name

-- the names of nodes
abbrev pub node_names : List Node → List (List ℕ)
node_names ns = map (λ n. n.name) ns

-- whether a name is one of these
abbrev pub is_among : List ℕ → List (List ℕ) → Bool
is_among name names = list_any (bytes_eq name) names

-- these names put before those one by one, so that the last one comes first
abbrev pub with_names : List Word → List (List ℕ) → List (List ℕ)
with_names [] names = names
with_names (w ∷ ws) names = with_names ws (w.text ∷ names)

-- bindings of these names, all to one entry, put before those one by one
abbrev pub with_bindings : Entry → List Word → List Binding → List Binding
with_bindings entry [] names = names
with_bindings entry (w ∷ ws) names = with_bindings entry ws (record { name = w.text; entry = entry } ∷ names)

-- what a list of groups declares: the inputs of a node, other variables, or the parameters of a macro
pub data Role : Type 0 where
  inputs : Role
  variables : Role
  parameters : Role

-- what the names of a group stand for
abbrev pub group_entry : Role → TypeName → Bool → Entry
group_entry inputs kind ref = variable kind
group_entry variables kind ref = variable kind
group_entry parameters kind true = variable kind
group_entry parameters kind false = parameter kind

-- what is known after a group
abbrev pub with_group : Role → Environment → Grouping → Environment
with_group role env (s.grouping ws kind ref range first) = record env { names = with_bindings (group_entry role kind ref) ws env.names }

-- what is known after groups
abbrev pub with_groups : Role → Environment → Groupings → Environment
with_groups role env s.no_groups = env
with_groups role env (s.one_group g gs) = with_groups role (with_group role env g) gs

-- the names of a group, put before the names that are taken already
abbrev pub with_group_names : Grouping → List (List ℕ) → List (List ℕ)
with_group_names (s.grouping ws kind ref range first) names = with_names ws names

-- the names of groups, put before the names that are taken already
abbrev pub with_groups_names : Groupings → List (List ℕ) → List (List ℕ)
with_groups_names s.no_groups names = names
with_groups_names (s.one_group g gs) names = with_groups_names gs (with_group_names g names)

-- a parameter of a type, by `ref` or not
abbrev pub parameter_of : TypeName → Bool → Parameter
parameter_of kind true = by_ref kind
parameter_of kind false = by_value kind

-- one parameter for each name of a group
abbrev pub group_parameters : Grouping → List Parameter
group_parameters (s.grouping ws kind ref range first) = map (λ w. parameter_of kind ref) ws

-- one for each name of the groups
abbrev pub groups_parameters : Groupings → List Parameter
groups_parameters s.no_groups = []
groups_parameters (s.one_group g gs) = group_parameters g ++ groups_parameters gs

-- the parameters of a macro: one without a list of them has none
abbrev pub parameters_of : Parameters → List Parameter
parameters_of s.no_parameters = []
parameters_of (s.parameters gs) = groups_parameters gs

-- what is known in the body of a macro
abbrev pub with_parameters : Environment → Parameters → Environment
with_parameters env s.no_parameters = env
with_parameters env (s.parameters gs) = with_groups parameters env gs

-- what is known after a macro: in its own body it isn't visible
abbrev pub with_macro : Environment → Macro → Environment
with_macro env (s.macro w ps kind m) = record env { names = record { name = w.text; entry = macro (parameters_of ps) kind } ∷ env.names }

-- an input of a type, with a range or without one
abbrev pub input_of : TypeName → Option WrittenRange → Input
input_of kind range = record { kind = kind; ranged = not (is_none range) }

-- one input for each name of a group
abbrev pub group_inputs : Grouping → List Input
group_inputs (s.grouping ws kind ref range first) = map (λ w. input_of kind range) ws

-- one for each name of the groups
abbrev pub groups_inputs : Groupings → List Input
groups_inputs s.no_groups = []
groups_inputs (s.one_group g gs) = group_inputs g ++ groups_inputs gs

-- one type for each name of a group
abbrev pub group_types : Grouping → List TypeName
group_types (s.grouping ws kind ref range first) = map (λ w. kind) ws

-- one for each name of the groups
abbrev pub groups_types : Groupings → List TypeName
groups_types s.no_groups = []
groups_types (s.one_group g gs) = group_types g ++ groups_types gs

-- a node as those after it know it
abbrev pub node_of : Word → Groupings → Groupings → Node
node_of w ins outs =
    record { name = w.text; inputs = groups_inputs ins; outputs = groups_types outs }

-- the types of the outputs of a node, where it is known
abbrev pub outputs_of : Option Node → List TypeName
outputs_of None = []
outputs_of (Some n) = n.outputs

-- bindings of names to variables of these types, in order and as far as both go, put before those one by one
abbrev pub with_variables : List Word → List TypeName → List Binding → List Binding
with_variables [] kinds names = names
with_variables (w ∷ ws) [] names = names
with_variables (w ∷ ws) (k ∷ ks) names =
    with_variables ws ks (record { name = w.text; entry = variable k } ∷ names)

-- what is known after a run: its names are variables of the types of the outputs
abbrev pub with_run : Environment → Run → Environment
with_run env r =
    let kinds = outputs_of (found_node env.nodes r.node.text) in
    record env { names = with_variables r.names kinds env.names }

-- what is known after runs
abbrev pub with_runs : Environment → List Run → Environment
with_runs env [] = env
with_runs env (r ∷ rs) = with_runs (with_run env r) rs

-- what is known after exceptions
abbrev pub with_exceptions : Environment → List Word → Environment
with_exceptions env ws = record env { exceptions = with_names ws env.exceptions }

-- what is known after a declaration of a text
abbrev pub with_declaration : Environment → Declaration → Environment
with_declaration env (s.node w ins outs rs x) =
    record env { nodes = node_of w ins outs ∷ env.nodes }
with_declaration env (s.macro_declaration m) = with_macro env m
with_declaration env (s.exception_declaration ws) = with_exceptions env ws

-- what is known in the body of a node
abbrev pub with_inputs_and_outputs : Environment → Groupings → Groupings → Environment
with_inputs_and_outputs env ins outs = with_groups variables (with_groups inputs env ins) outs

-- a name of a variable, with its type
pub record TypedName : Type 0 where
  pub name : List ℕ
  pub kind : TypeName

-- a name that stands for a variable of its type
abbrev pub binding_of : TypedName → Binding
binding_of v = record { name = v.name; entry = variable v.kind }

-- what is known where nothing is declared but variables; of equal names the first counts
abbrev pub with_variables_alone : ℕ → List TypedName → Environment
with_variables_alone decimals vs = record {
  decimals = decimals;
  names = map binding_of vs;
  nodes = [];
  exceptions = codes "Deadlock" ∷ [];
}

-- What the nodes of a text stand for.
use Rattle.std.specs.Prelude.{ℕ, suc, ◌+◌, Bool, true, List, [], ◌∷◌, ◌++◌, length, map, bytes_eq, if◌then◌else◌}
use Rattle.std.specs.declared.option.Option.{Option}
use Rattle.std.specs.declared.option.Option.TheVariants.{None, Some}
use Rattle.lt_ast.specs.Syntax as s
use Rattle.lt_ast.specs.Syntax.{Word, Grouping, Groupings, Trace, Macro, Run, Declaration}
use Rattle.lt_formula.specs.declared.role.Role.{Role}
use Rattle.lt_formula.specs.declared.role.Role.TheVariants as role
use Rattle.lt_macros.specs.Expanded.{Declared, Call, Node}
use Rattle.lt_macros.specs.Literals.{range_of}
use Rattle.lt_macros.specs.Environment.{macro, variable, Environment, at_start, with_name, with_variables, with_exceptions}
use Rattle.lt_macros.specs.Denotation.{Denotation, Numbers, as_expression, as_trace, declared_as, exp_denotation, first_of, group_names, macro_name, macro_denotation, trace_denotation}

-- the variables that a group declares
abbrev pub group_variables : Role → Environment Denotation → Grouping → List Declared
group_variables r env (s.grouping ws type ref range first) = map (declared_as r env type range (first_of env first)) ws

-- where the variables of a group are visible, the first of which has this place
abbrev pub with_group : Role → ℕ → Grouping → Environment Denotation → Environment Denotation
with_group r i (s.grouping ws type ref range first) env = with_variables r i ws env

-- the variables that groups declare, the first of which has this place; a first value sees the groups before
abbrev pub groups_variables : Role → ℕ → Environment Denotation → Groupings → List Declared
groups_variables r i env s.no_groups = []
groups_variables r i env (s.one_group g gs) = group_variables r env g ++ groups_variables r (i + length (group_names g)) (with_group r i g env) gs

-- where the variables of groups are visible
abbrev pub with_groups : Role → ℕ → Groupings → Environment Denotation → Environment Denotation
with_groups r i s.no_groups env = env
with_groups r i (s.one_group g gs) env = with_groups r (i + length (group_names g)) gs (with_group r i g env)

-- the outputs of a node; their first values see its inputs
abbrev pub outputs_in : Environment Denotation → Groupings → Groupings → List Declared
outputs_in env ins outs = groups_variables role.Output 0 (with_groups role.Input 0 ins env) outs

-- a node that may be run: its name, and its outputs
pub record Runnable : Type 0 where
  pub name : List ℕ
  pub outputs : List Declared

-- a node as those after it may run it
abbrev pub runnable_of : Environment Denotation → Word → Groupings → Groupings → Runnable
runnable_of env w ins outs = record { name = w.text; outputs = outputs_in env ins outs }

-- the outputs of the node of this name; none where there is no such node, which by the rules of types no text runs
abbrev pub outputs_of : List Runnable → List ℕ → List Declared
outputs_of [] name = []
outputs_of (n ∷ ns) name = if bytes_eq name n.name then n.outputs else outputs_of ns name

-- An output as an input of the node that runs it, by this name: it has the output's kind and first value, and no range of
-- its own.
abbrev pub given_as : ℕ → Word → Declared → Declared
given_as decimals w d = record {
  name = w.text;
  kind = d.kind;
  range = range_of decimals role.Input d.kind None;
  first = d.first;
}

-- outputs by these names, as far as both go
abbrev pub all_given_as : ℕ → List Word → List Declared → List Declared
all_given_as decimals [] ds = []
all_given_as decimals (w ∷ ws) [] = []
all_given_as decimals (w ∷ ws) (d ∷ ds) = given_as decimals w d ∷ all_given_as decimals ws ds

-- where variables of a role are visible that are declared so, the first of which has this place
abbrev pub with_declared :
    Role → ℕ → List Declared → Environment Denotation → Environment Denotation
with_declared r i [] env = env
with_declared r i (d ∷ ds) env = with_declared r (suc i) ds (with_name d.name (variable r i) env)

-- a run, where these nodes may be run
abbrev pub call_of : List Runnable → Environment Denotation → Run → Call
call_of known env r = record {
  node = r.node.text;
  arguments = map (λ e. as_expression (exp_denotation env e)) r.arguments;
  names = all_given_as env.decimals r.names (outputs_of known r.node.text);
}

-- where the names of runs are visible, the first of which has this place
abbrev pub with_calls : ℕ → List Call → Environment Denotation → Environment Denotation
with_calls i [] env = env
with_calls i (c ∷ cs) env =
    with_calls (i + length c.names) cs (with_declared role.Input i c.names env)

-- runs, the first name of which has this place; arguments see the names of the runs before
abbrev pub calls_of : List Runnable → ℕ → Environment Denotation → List Run → List Call
calls_of known i env [] = []
calls_of known i env (r ∷ rs) =
    let c = call_of known env r in
    c ∷ calls_of known (i + length c.names) (with_declared role.Input i c.names env) rs

-- a node, where these nodes may be run
abbrev pub node_of :
    List Runnable → Environment Denotation → Word → Groupings → Groupings → List Run → Trace → Node
node_of known env w ins outs rs t =
    let inputs = groups_variables role.Input 0 env ins in
    let inner = with_groups role.Output 0 outs (with_groups role.Input 0 ins env) in
    let calls = calls_of known (length inputs) inner rs in
    let inside = with_calls (length inputs) calls inner in
    let start : Numbers = record { term = 0; local = 0; counter = 0 } in
    record {
      name = w.text;
      inputs = inputs;
      outputs = outputs_in env ins outs;
      calls = calls;
      body = (as_trace (trace_denotation inside t) start).expanded;
    }

-- whether a node is the one that is asked for: where no name is given, each is
abbrev pub is_wanted : Option (List ℕ) → Word → Bool
is_wanted None w = true
is_wanted (Some name) w = bytes_eq name w.text

-- the first node that is asked for among declarations, where these nodes are declared before
abbrev pub node_among :
    List Runnable → Environment Denotation → Option (List ℕ) → List Declaration → Option Node
node_among known env wanted [] = None
node_among known env wanted (s.node w ins outs rs t ∷ ds) =
    if is_wanted wanted w then Some (node_of known env w ins outs rs t)
    else node_among (runnable_of env w ins outs ∷ known) env wanted ds
node_among known env wanted (s.macro_declaration m ∷ ds) =
    node_among known (with_name (macro_name m) (macro (macro_denotation env m)) env) wanted ds
node_among known env wanted (s.exception_declaration ws ∷ ds) =
    node_among known (with_exceptions 0 ws env) wanted ds

-- the node of a text that is asked for, where reals have so many decimals
abbrev pub expanded_node : ℕ → Option (List ℕ) → List Declaration → Option Node
expanded_node decimals wanted ds = node_among [] (at_start decimals) wanted ds

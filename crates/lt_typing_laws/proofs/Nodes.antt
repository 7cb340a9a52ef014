-- What a node of a well typed program stands for is well typed.
use Rattle.std.proofs.Common.{bytes_eq, flat_map, arith, ◌≡◌, ℕ, suc, ◌+◌, Bool, true, false, IsTrue, List, [], ◌∷◌, ◌++◌, length, map, if◌then◌else◌, refl, sym, ap, ◌∙◌, subst}
use Rattle.std.proofs.lemmas.List.{length-map, map-append}
use Rattle.std.specs.declared.option.Option.{Option}
use Rattle.std.specs.declared.option.Option.TheVariants.{Some}
use Rattle.lt_ast.specs.declared.group.TypeName.{TypeName}
use Rattle.lt_ast.specs.declared.group.TypeName.TheVariants as t
use Rattle.lt_ast.specs.Syntax as s
use Rattle.lt_ast.specs.Syntax.{Word, WrittenRange, Exp, Trace, Grouping, Groupings, MaybeExp, Macro, Run, Declaration}
use Rattle.lt_formula.specs.Expression as expression
use Rattle.lt_formula.specs.Kinds.{Kinds}
use Rattle.lt_formula.specs.declared.role.Role.{Role}
use Rattle.lt_formula.specs.declared.role.Role.TheVariants as role
use Rattle.lt_types.specs.Environment as types
use Rattle.lt_types.specs.Environment.{group_entry, with_bindings, found_node}
use Rattle.lt_types.specs.Operators.{is_value}
use Rattle.lt_types.specs.Typing as typing
use Rattle.lt_types.specs.Typing.{IsTrace, AreGroups, AreDeclarations, may_be_written}
use Rattle.lt_macros.specs.Placed.{Placed}
use Rattle.lt_macros.specs.Expanded.{Declared, Call, Node, given_inputs, all_inputs}
use Rattle.lt_macros.specs.Environment.{Environment, at_start, variable, macro, with_name, with_variables, with_exceptions}
use Rattle.lt_macros.specs.Expansion.{groups_variables, with_group, with_groups, Runnable, runnable_of, outputs_of, all_given_as, with_declared, call_of, with_calls, calls_of, node_of, is_wanted, node_among}
use Rattle.lt_macros.specs.Preorder.{arguments_in}
use Rattle.lt_macros.specs.Literals.{kind_of}
use Rattle.lt_macros.specs.Numbering.{PartsAreNumbered}
use Rattle.lt_macros.specs.Denotation.{Denotation, as_expression, exp_denotation, declared_as, first_of, group_names, macro_name, macro_denotation, trace_denotation}
use Rattle.lt_typing_laws.specs.Laws.{ExpansionKeepsTypes}
use Rattle.lt_typing_laws.specs.Macros.{FitInExps, FitInGroups, FitInRuns, FitInTrace, MacrosFitTheirTypes}
use Rattle.lt_typing_laws.specs.TypedNode.{node_kinds, IsFirst, HaveFirsts, HaveKinds, IsTypedNode}
use Rattle.lt_term.specs.WellTyped.{HasKind}
use Rattle.lt_typing_laws.proofs.Fitting.{AreBoundAs, as_expression_is_of, as_trace_is_typed, exceptions_bound}
use Rattle.lt_typing_laws.proofs.Locals.{AreDeclared, locals_declared}
use Rattle.lt_typing_laws.proofs.Tables.{StandFrom, stand_behind, first_stand, second_stand}
use Rattle.lt_typing_laws.proofs.Typed.{exp_typed, first_typed, macro_typed, trace_typed}

-- Groups of inputs and outputs.

-- their names stand for variables
abbrev DeclareVariables : types.Role → Type 0
DeclareVariables types.inputs = Unit {0}
DeclareVariables types.variables = Unit {0}
DeclareVariables types.parameters = ⊥

entry_of : (part : types.Role) (type : TypeName) (ref : Bool) → DeclareVariables part → group_entry part type ref ≡ types.variable type
entry_of types.inputs type ref v = refl
entry_of types.variables type ref v = refl
entry_of types.parameters type ref v = absurd v

-- and have values
value_of_group : (part : types.Role) (type : TypeName) (ref : Bool) (range : Option WrittenRange) (first : MaybeExp) → DeclareVariables part → IsTrue (may_be_written part type ref range first) → IsTrue (is_value type)
value_of_group part t.Bool ref range first v h = refl
value_of_group part t.Int ref range first v h = refl
value_of_group part t.Real ref range first v h = refl
value_of_group types.inputs t.Trace ref range first v h = absurd (cc)
value_of_group types.variables t.Trace ref range first v h = absurd (cc)
value_of_group types.parameters t.Trace ref range first v h = absurd v

-- the variables of a group are bound as their type says, where they stand in their table
variables_bound : (kinds : Kinds) (r : Role) (i : ℕ) (outer : Environment Denotation) (type : TypeName) (range : Option WrittenRange) (first : Option Placed) (ws : List Word) (xs : List types.Binding) (env : Environment Denotation)
    → StandFrom kinds r i (map (declared_as r outer type range first) ws) → AreBoundAs kinds xs env.names → AreBoundAs kinds (with_bindings (types.variable type) ws xs) (with_variables r i ws env).names
variables_bound kinds r i outer type range first [] xs env g b = b
variables_bound kinds r i outer type range first (w ∷ ws) xs env g b =
    variables_bound kinds r (suc i) outer type range first ws (record { name = w.text; entry = types.variable type } ∷ xs) (with_name w.text (variable r i) env) g.1 (refl, g.0, b)

-- each has the first value of the group
words_have_firsts : (kinds : Kinds) (r : Role) (outer : Environment Denotation) (type : TypeName) (range : Option WrittenRange) (first : Option Placed) (ws : List Word) → IsFirst kinds (kind_of type) first
    → HaveFirsts kinds (map (declared_as r outer type range first) ws)
words_have_firsts kinds r outer type range first [] f = tt
words_have_firsts kinds r outer type range first (w ∷ ws) f = (f, words_have_firsts kinds r outer type range first ws f)

both_have_firsts : (kinds : Kinds) (ds es : List Declared) → HaveFirsts kinds ds → HaveFirsts kinds es → HaveFirsts kinds (ds ++ es)
both_have_firsts kinds [] es f g = g
both_have_firsts kinds (d ∷ ds) es f g = (f.0, both_have_firsts kinds ds es f.1 g)

-- a variable for each name
same_many : (i : ℕ) (f : Word → Declared) (ws : List Word) → i + length (map f ws) ≡ i + length (map (λ w. w.text) ws)
same_many i f ws = ap (λ n. i + n) (length-map ws f ∙ sym (length-map ws (λ w. w.text)))

-- Groups of variables that stand in their table are well typed, and their names are bound as their types say.
groups_typed : (kinds : Kinds) (r : Role) (part : types.Role) (i : ℕ) (env : Environment Denotation) (outer : types.Environment) (taken : List (List ℕ)) (gs : Groupings)
    → DeclareVariables part → AreBoundAs kinds outer.names env.names → FitInGroups gs → AreGroups part outer taken gs → StandFrom kinds r i (groups_variables r i env gs)
    → HaveFirsts kinds (groups_variables r i env gs) × AreBoundAs kinds (types.with_groups part outer gs).names (with_groups r i gs env).names
groups_typed kinds r part i env outer taken s.no_groups v b m h g = (tt, b)
groups_typed kinds r part i env outer taken (s.one_group (s.grouping ws type ref range first) gs) v b m h g =
    let one : Grouping = s.grouping ws type ref range first in
    let ds : List Declared = map (declared_as r env type range (first_of env first)) ws in
    let next : ℕ = i + length (group_names one) in
    let es : List Declared = groups_variables r next (with_group r i one env) gs in
    let bound : AreBoundAs kinds (types.with_group part outer one).names (with_group r i one env).names =
    subst (λ x. AreBoundAs kinds (with_bindings x ws outer.names) (with_variables r i ws env).names) (sym (entry_of part type ref v))
    (variables_bound kinds r i env type range (first_of env first) ws outer.names env (first_stand kinds r i ds es g) b) in
    let rest : HaveFirsts kinds es × AreBoundAs kinds (types.with_groups part (types.with_group part outer one) gs).names (with_groups r next gs (with_group r i one env)).names =
    groups_typed kinds r part next (with_group r i one env) (types.with_group part outer one) (types.with_group_names one taken) gs v bound m.1 h.1
    (subst (λ n. StandFrom kinds r n es) (same_many i (declared_as r env type range (first_of env first)) ws) (second_stand kinds r i ds es g)) in (
      both_have_firsts kinds ds es
          (words_have_firsts kinds r env type range (first_of env first) ws (first_typed kinds env outer type first (value_of_group part type ref range first v h.0.3) b m.0 h.0.2)) rest.0,
      rest.1,
    )

-- Nodes.

-- names that are bound as their types say, whatever node they are used in
abbrev AreGlobal : types.Environment → Environment Denotation → Type 0
AreGlobal outer env = (kinds : Kinds) → AreBoundAs kinds outer.names env.names

-- A node is well typed where its locals stand in their table.
abbrev IsTypedWithLocals : Node → Type 0
IsTypedWithLocals node = AreDeclared (node_kinds node) node.body → IsTypedNode node

-- Runs.

-- each input has a type with values
abbrev HaveValues : List types.Input → Type 0
HaveValues [] = Unit {0}
HaveValues (i ∷ js) = IsTrue (is_value i.kind) × HaveValues js

-- Nodes that may be run are those that are known by their types: their outputs are of the kinds of these.
abbrev AreKnown : List types.Node → List Runnable → Type 0
AreKnown [] [] = Unit {0}
AreKnown [] (r ∷ rs) = ⊥
AreKnown (n ∷ ns) [] = ⊥
AreKnown (n ∷ ns) (r ∷ rs) = (r.name ≡ n.name) × (map (λ d. d.kind) r.outputs ≡ map kind_of n.outputs) × HaveValues n.inputs × AreKnown ns rs

-- what is known of the node of a name
abbrev IsKnownAs : types.Node → List Declared → Type 0
IsKnownAs n ds = (map (λ d. d.kind) ds ≡ map kind_of n.outputs) × HaveValues n.inputs

known_by : (b : Bool) (n node : types.Node) (found : Option types.Node) (ds es : List Declared) → IsKnownAs n ds → (found ≡ Some node → IsKnownAs node es) → (if b then Some n else found) ≡ Some node
    → IsKnownAs node (if b then ds else es)
known_by true n node found ds es h k e = let same : n ≡ node = cc in subst (λ m. IsKnownAs m ds) same h
known_by false n node found ds es h k e = k e

known_as : (ns : List types.Node) (known : List Runnable) (name : List ℕ) (n : types.Node) → AreKnown ns known → found_node ns name ≡ Some n → IsKnownAs n (outputs_of known name)
known_as [] [] name n k e = absurd (cc)
known_as [] (r ∷ rs) name n k e = absurd k
known_as (m ∷ ns) [] name n k e = absurd k
known_as (m ∷ ns) (r ∷ rs) name n k e =
    subst (λ l. IsKnownAs n (if bytes_eq name l then r.outputs else outputs_of rs name)) (sym k.0)
    (known_by (bytes_eq name m.name) m n (found_node ns name) r.outputs (outputs_of rs name) (k.1, k.2) (known_as ns rs name n k.3) e)

-- the types of groups
words_kinds : (r : Role) (env : Environment Denotation) (type : TypeName) (range : Option WrittenRange) (first : Option Placed) (ws : List Word)
    → map (λ (d : Declared). d.kind) (map (declared_as r env type range first) ws) ≡ map kind_of (map (λ (w : Word). type) ws)
words_kinds r env type range first [] = refl
words_kinds r env type range first (w ∷ ws) = ap (λ ks. kind_of type ∷ ks) (words_kinds r env type range first ws)

groups_kinds : (r : Role) (i : ℕ) (env : Environment Denotation) (gs : Groupings) → map (λ (d : Declared). d.kind) (groups_variables r i env gs) ≡ map kind_of (types.groups_types gs)
groups_kinds r i env s.no_groups = refl
groups_kinds r i env (s.one_group (s.grouping ws type ref range first) gs) =
    let one : Grouping = s.grouping ws type ref range first in
    let next : ℕ = i + length (group_names one) in
    map-append (λ (d : Declared). d.kind) (map (declared_as r env type range (first_of env first)) ws) (groups_variables r next (with_group r i one env) gs)
    ∙ ap (λ ks. ks ++ map (λ (d : Declared). d.kind) (groups_variables r next (with_group r i one env) gs)) (words_kinds r env type range (first_of env first) ws)
    ∙ ap (λ ks. map kind_of (map (λ (w : Word). type) ws) ++ ks) (groups_kinds r next (with_group r i one env) gs)
    ∙ sym (map-append kind_of (map (λ (w : Word). type) ws) (types.groups_types gs))

-- inputs have values
values_of_words : (type : TypeName) (range : Option WrittenRange) (ws : List Word) (js : List types.Input) → IsTrue (is_value type) → HaveValues js → HaveValues (map (λ (w : Word). types.input_of type range) ws ++ js)
values_of_words type range [] js h k = k
values_of_words type range (w ∷ ws) js h k = (h, values_of_words type range ws js h k)

values_of_inputs : (outer : types.Environment) (taken : List (List ℕ)) (gs : Groupings) → AreGroups types.inputs outer taken gs → HaveValues (types.groups_inputs gs)
values_of_inputs outer taken s.no_groups h = tt
values_of_inputs outer taken (s.one_group (s.grouping ws type ref range first) gs) h =
    let one : Grouping = s.grouping ws type ref range first in
    values_of_words type range ws (types.groups_inputs gs) (value_of_group types.inputs type ref range first tt h.0.3)
    (values_of_inputs (types.with_group types.inputs outer one) (types.with_group_names one taken) gs h.1)

-- what a run is given has kinds
arguments_typed : (kinds : Kinds) (env : Environment Denotation) (outer : types.Environment) (es : List Exp) (js : List types.Input) → AreBoundAs kinds outer.names env.names → HaveValues js → FitInExps es
    → typing.AreGiven outer es js → HaveKinds kinds (map (λ e. as_expression (exp_denotation env e)) es)
arguments_typed kinds env outer [] [] b v m h = tt
arguments_typed kinds env outer [] (i ∷ js) b v m h = absurd h
arguments_typed kinds env outer (e ∷ es) [] b v m h = absurd h
arguments_typed kinds env outer (e ∷ es) (i ∷ js) b v m h = (
  (kind_of i.kind, as_expression_is_of kinds i.kind (exp_denotation env e) v.0 (exp_typed kinds env outer e i.kind b m.0 h.0)),
  arguments_typed kinds env outer es js b v.1 m.1 h.2,
)

-- its names are bound as the outputs' types say, where they stand in their table
run_bound : (kinds : Kinds) (i decimals : ℕ) (ws : List Word) (ds : List Declared) (ks : List TypeName) (xs : List types.Binding) (env : Environment Denotation)
    → map (λ d. d.kind) ds ≡ map kind_of ks → StandFrom kinds role.Input i (all_given_as decimals ws ds) → AreBoundAs kinds xs env.names
    → AreBoundAs kinds (types.with_variables ws ks xs) (with_declared role.Input i (all_given_as decimals ws ds) env).names
run_bound kinds i decimals [] ds ks xs env e g b = b
run_bound kinds i decimals (w ∷ ws) [] [] xs env e g b = b
run_bound kinds i decimals (w ∷ ws) [] (k ∷ ks) xs env e g b = absurd (cc)
run_bound kinds i decimals (w ∷ ws) (d ∷ ds) [] xs env e g b = absurd (cc)
run_bound kinds i decimals (w ∷ ws) (d ∷ ds) (k ∷ ks) xs env e g b =
    let one : d.kind ≡ kind_of k = cc in
    let rest : map (λ (d : Declared). d.kind) ds ≡ map kind_of ks = cc in
    run_bound kinds (suc i) decimals ws ds ks (record { name = w.text; entry = types.variable k } ∷ xs) (with_name w.text (variable role.Input i) env) rest g.1
    (refl, subst (λ m. HasKind kinds (expression.variable role.Input i) m) one g.0, b)

both_have_kinds : (kinds : Kinds) (ds es : List Placed) → HaveKinds kinds ds → HaveKinds kinds es → HaveKinds kinds (ds ++ es)
both_have_kinds kinds [] es h g = g
both_have_kinds kinds (d ∷ ds) es h g = (h.0, both_have_kinds kinds ds es h.1 g)

-- Runs are given expressions of some kinds, and their names are bound as their types say.
runs_typed : (kinds : Kinds) (known : List Runnable) (i : ℕ) (env : Environment Denotation) (outer : types.Environment) (taken : List (List ℕ)) (rs : List Run) → AreKnown outer.nodes known
    → AreBoundAs kinds outer.names env.names → FitInRuns rs → typing.AreRuns outer taken rs → StandFrom kinds role.Input i (flat_map (λ (c : Call). c.names) (calls_of known i env rs))
    → HaveKinds kinds (flat_map (λ (c : Call). c.arguments) (calls_of known i env rs)) × AreBoundAs kinds (types.with_runs outer rs).names (with_calls i (calls_of known i env rs) env).names
runs_typed kinds known i env outer taken [] k b m h g = (tt, b)
runs_typed kinds known i env outer taken (r ∷ rs) k b m h g =
    let c : Call = call_of known env r in
    let n : types.Node = h.0.1 in
    let inner : Environment Denotation = with_declared role.Input i c.names env in
    let cs : List Call = calls_of known (i + length c.names) inner rs in
    let given : List Declared = flat_map (λ (c : Call). c.names) cs in
    let node : IsKnownAs n (outputs_of known r.node.text) = known_as outer.nodes known r.node.text n k h.0.2 in
    let bound : AreBoundAs kinds (types.with_run outer r).names inner.names =
    subst (λ o. AreBoundAs kinds (types.with_variables r.names (types.outputs_of o) outer.names) inner.names) (sym h.0.2)
    (run_bound kinds i env.decimals r.names (outputs_of known r.node.text) n.outputs outer.names env node.0 (first_stand kinds role.Input i c.names given g) b) in
    let rest = runs_typed kinds known (i + length c.names) inner (types.with_run outer r) (types.with_names r.names taken) rs k bound m.1 h.1 (second_stand kinds role.Input i c.names given g) in (
      both_have_kinds kinds c.arguments (flat_map (λ (c : Call). c.arguments) cs) (arguments_typed kinds env outer r.arguments n.inputs b node.1 m.0 h.0.4) rest.0,
      rest.1,
    )

-- A whole node.

-- groups declare no node
group_nodes : (part : types.Role) (outer : types.Environment) (g : Grouping) → (types.with_group part outer g).nodes ≡ outer.nodes
group_nodes part outer (s.grouping ws type ref range first) = refl

groups_nodes : (part : types.Role) (outer : types.Environment) (gs : Groupings) → (types.with_groups part outer gs).nodes ≡ outer.nodes
groups_nodes part outer s.no_groups = refl
groups_nodes part outer (s.one_group g gs) = groups_nodes part (types.with_group part outer g) gs ∙ group_nodes part outer g

inside_nodes : (outer : types.Environment) (ins outs : Groupings) → (types.with_inputs_and_outputs outer ins outs).nodes ≡ outer.nodes
inside_nodes outer ins outs = groups_nodes types.variables (types.with_groups types.inputs outer ins) outs ∙ groups_nodes types.inputs outer ins

node_typed : (known : List Runnable) (env : Environment Denotation) (outer : types.Environment) (w : Word) (ins outs : Groupings) (rs : List Run) (x : Trace) → AreKnown outer.nodes known → AreGlobal outer env
    → FitInGroups ins × FitInGroups outs × FitInRuns rs × FitInTrace x
    → AreGroups types.inputs outer [] ins
    → AreGroups types.variables (types.with_groups types.inputs outer ins) (types.with_groups_names ins []) outs
    → typing.AreRuns (types.with_inputs_and_outputs outer ins outs) (types.with_groups_names outs (types.with_groups_names ins [])) rs
    → IsTrace (types.with_runs (types.with_inputs_and_outputs outer ins outs) rs) x
    → IsTypedWithLocals (node_of known env w ins outs rs x)
node_typed known env outer w ins outs rs x q b m h k l g locals =
    let node : Node = node_of known env w ins outs rs x in
    let kinds : Kinds = node_kinds node in
    let inputs : Environment Denotation = with_groups role.Input 0 ins env in
    let inner : Environment Denotation = with_groups role.Output 0 outs inputs in
    let inside : Environment Denotation = with_calls (length node.inputs) node.calls inner in
    let all : StandFrom kinds role.Input 0 (node.inputs ++ given_inputs node) = stand_behind kinds role.Input [] (all_inputs node) refl in
    let first : HaveFirsts kinds node.inputs × AreBoundAs kinds (types.with_groups types.inputs outer ins).names inputs.names =
    groups_typed kinds role.Input types.inputs 0 env outer [] ins tt (b kinds) m.0 h (first_stand kinds role.Input 0 node.inputs (given_inputs node) all) in
    let second : HaveFirsts kinds node.outputs × AreBoundAs kinds (types.with_inputs_and_outputs outer ins outs).names inner.names =
    groups_typed kinds role.Output types.variables 0 inputs (types.with_groups types.inputs outer ins) (types.with_groups_names ins []) outs tt first.1 m.1 k (stand_behind kinds role.Output [] node.outputs refl) in
    let from : 0 + length node.inputs ≡ length node.inputs = omega arith in
    let third : HaveKinds kinds (arguments_in node) × AreBoundAs kinds (types.with_runs (types.with_inputs_and_outputs outer ins outs) rs).names inside.names =
    runs_typed kinds known (length node.inputs) inner (types.with_inputs_and_outputs outer ins outs) (types.with_groups_names outs (types.with_groups_names ins [])) rs
    (subst (λ ns. AreKnown ns known) (sym (inside_nodes outer ins outs)) q) second.1 m.2 l
    (subst (λ i. StandFrom kinds role.Input i (given_inputs node)) from (second_stand kinds role.Input 0 node.inputs (given_inputs node) all)) in
    record {
      inputs = first.0;
      outputs = second.0;
      arguments = third.0;
      body = as_trace_is_typed kinds (trace_denotation inside x) (trace_typed kinds inside (types.with_runs (types.with_inputs_and_outputs outer ins outs) rs) x third.1 m.3 g) (record { term = 0; local = 0; counter = 0 }) locals;
    }

one_holds : (P : Node → Type 0) (b : Bool) (one node : Node) (other : Option Node) → P one → (other ≡ Some node → P node) → (if b then Some one else other) ≡ Some node → P node
one_holds P true one node other p q e = let same : one ≡ node = cc in subst P same p
one_holds P false one node other p q e = q e

-- nor does a macro
macro_nodes : (outer : types.Environment) (x : Macro) → (types.with_macro outer x).nodes ≡ outer.nodes
macro_nodes outer (s.macro w ps type y) = refl

typed_among : (known : List Runnable) (env : Environment Denotation) (outer : types.Environment) (wanted : Option (List ℕ)) (ds : List Declaration) (node : Node) → AreKnown outer.nodes known → AreGlobal outer env
    → MacrosFitTheirTypes ds → AreDeclarations outer ds → node_among known env wanted ds ≡ Some node → IsTypedWithLocals node
typed_among known env outer wanted [] node q b m h e = absurd (cc)
typed_among known env outer wanted (s.node w ins outs rs x ∷ ds) node q b m h e =
    one_holds IsTypedWithLocals (is_wanted wanted w) (node_of known env w ins outs rs x) node (node_among (runnable_of env w ins outs ∷ known) env wanted ds)
    (node_typed known env outer w ins outs rs x q b m.0 h.0.1 h.0.2 h.0.3 h.0.4)
    (typed_among (runnable_of env w ins outs ∷ known) env (types.with_declaration outer (s.node w ins outs rs x)) wanted ds node
    (refl, groups_kinds role.Output 0 (with_groups role.Input 0 ins env) outs, values_of_inputs outer [] ins h.0.1, q) b m.1 h.1)
    e
typed_among known env outer wanted (s.macro_declaration x ∷ ds) node q b m h e =
    typed_among known (with_name (macro_name x) (macro (macro_denotation env x)) env) (types.with_macro outer x) wanted ds node (subst (λ ns. AreKnown ns known) (sym (macro_nodes outer x)) q)
    (λ kinds. macro_typed kinds env outer x (b kinds) m.0 h.0.1) m.1 h.1 e
typed_among known env outer wanted (s.exception_declaration ws ∷ ds) node q b m h e =
    typed_among known (with_exceptions 0 ws env) (types.with_exceptions outer ws) wanted ds node q (λ kinds. exceptions_bound kinds outer.names 0 ws env (b kinds)) m.1 h.1 e

pub expansion_keeps_types : PartsAreNumbered → ExpansionKeepsTypes
expansion_keeps_types numbered decimals wanted ds node h m e =
    typed_among [] (at_start decimals) (types.at_start decimals) wanted ds node tt (λ kinds. tt) m h.0 e (locals_declared node (numbered decimals wanted ds node e))

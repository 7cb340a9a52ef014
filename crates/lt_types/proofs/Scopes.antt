-- What scopes are before and after a list of names.
use Rattle.std.proofs.Common.{◌≡◌, ℕ, ◌+◌, ◌-◌, ◌<◌, ◌≤◌, Option, Some, None, nat_eq, eqb-true, get_or, List, [], ◌∷◌, ◌++◌, map, take, drop, length, refl, ap, sym, ◌∙◌, subst, arith}
use Rattle.lt_ast.specs.declared.group.Group.{Group}
use Rattle.lt_ast.specs.declared.group.TypeName.{TypeName}
use Rattle.lt_ast.specs.declared.group.Groups.{Groups, out-Groups}
use Rattle.lt_ast.specs.declared.program.RunDecl.{RunDecl}
use Rattle.lt_ast.specs.declared.trace.MacroDecl.{MacroDecl, MacroDecl', out-MacroDecl, view-MacroDecl-params, Held-MacroDecl-params, MacroDecl-params-None', MacroDecl-params-Some'}
use denote.Hole.Carrier.{out}
use Rattle.lt_ast.specs.inner.Lists.{groups_of}
use Rattle.lt_ast.specs.inner.Rows.{group_of}
use Rattle.lt_ast.specs.Syntax as s
use Rattle.lt_ast.specs.Syntax.{Word, Grouping, Groupings, Parameters, Macro, Run}
use Rattle.lt_ast.specs.View.{word, groupings, meaning, macro as macro_seen, parameters as parameters_held, run}
use Rattle.lt_ast.proofs.Public.{groups_list}
use Rattle.lt_types.specs.Environment.{Environment, Binding, Entry, Role, inputs, variables, with_bindings, with_variables, with_names, with_group, with_groups, with_group_names, with_parameters, with_macro, with_exceptions, group_entry}
use Rattle.lt_types.specs.Environment as e
use Rattle.lt_types.specs.inner.Given.{parameters_view}
use Rattle.lt_types.specs.Refusals.{unless, new_names, group_refusals, groups_refusals, macro_refusals, parameters_refusals, known_node, exps_refusals, all_given_misfit, counts_agree, applied_node, run_refusals, runs_refusals}
use Rattle.lt_types.specs.inner.Scoping.{oldest, since, declared_since, with_oldest_names, with_oldest_exceptions}
use Rattle.lt_types.specs.Answer.{Leads}
use Rattle.lt_types.specs.declared.refusal.TypeRefusal.{TypeRefusal}
use Rattle.lt_types.specs.declared.refusal.TypeRefusal.TheVariants.{Arity}
use Rattle.lt_types.proofs.Leading.{Leads_more}
use Rattle.lt_types.proofs.Agreeing.{nil_left, nil_right, unless_back, and-left}
use Rattle.lt_types.proofs.Stacks.{drop_next, oldest_all, oldest_more, since_more}

-- NAMES

-- none yet
since_nothing : {X : Type 0} (xs : List X) → since (length xs) xs ≡ []
since_nothing xs = let none : length xs - length xs ≡ 0 = omega arith in ap (λ k. take k xs) none

-- BINDINGS

bindings_more : (entry : Entry) (ws : List Word) (names : List Binding) → length names ≤ length (with_bindings entry ws names)
bindings_more entry [] names = omega arith
bindings_more entry (w ∷ ws) names = omega (arith, bindings_more entry ws (record { name = w.text; entry = entry } ∷ names))

bindings_oldest : (count : ℕ) (entry : Entry) (ws : List Word) (names : List Binding) → count ≤ length names → oldest count (with_bindings entry ws names) ≡ oldest count names
bindings_oldest count entry [] names h = refl
bindings_oldest count entry (w ∷ ws) names h =
    bindings_oldest count entry ws (record { name = w.text; entry = entry } ∷ names) (omega arith) ∙ oldest_more count (record { name = w.text; entry = entry }) names h

bindings_since : (from : ℕ) (entry : Entry) (ws : List Word) (names : List Binding) → from ≤ length names
    → map (λ (b : Binding). b.name) (since from (with_bindings entry ws names)) ≡ with_names ws (map (λ (b : Binding). b.name) (since from names))
bindings_since from entry [] names h = refl
bindings_since from entry (w ∷ ws) names h =
    bindings_since from entry ws (record { name = w.text; entry = entry } ∷ names) (omega arith)
    ∙ ap (λ l. with_names ws (map (λ (b : Binding). b.name) l)) (since_more from (record { name = w.text; entry = entry }) names h)

-- GROUPS

-- no name is lost
pub group_more : (role : Role) (env : Environment) (g : Grouping) → length env.names ≤ length (with_group role env g).names
group_more role env (s.grouping ws kind ref range first) = bindings_more (group_entry role kind ref) ws env.names

pub groups_more : (role : Role) (env : Environment) (gs : Groupings) → length env.names ≤ length (with_groups role env gs).names
groups_more role env s.no_groups = omega arith
groups_more role env (s.one_group g gs) = omega (arith, group_more role env g, groups_more role (with_group role env g) gs)

-- nor is an older one changed
group_oldest : (count : ℕ) (role : Role) (env : Environment) (g : Grouping) → count ≤ length env.names → with_oldest_names count (with_group role env g) ≡ with_oldest_names count env
group_oldest count role env (s.grouping ws kind ref range first) h = ap (λ names. record env { names = names }) (bindings_oldest count (group_entry role kind ref) ws env.names h)

pub groups_oldest : (count : ℕ) (role : Role) (env : Environment) (gs : Groupings) → count ≤ length env.names → with_oldest_names count (with_groups role env gs) ≡ with_oldest_names count env
groups_oldest count role env s.no_groups h = refl
groups_oldest count role env (s.one_group g gs) h =
    groups_oldest count role (with_group role env g) gs (omega (arith, group_more role env g)) ∙ group_oldest count role env g h

-- those that were declared meanwhile
pub group_since : (from : ℕ) (role : Role) (env : Environment) (g : Grouping) → from ≤ length env.names
    → declared_since from (with_group role env g) ≡ with_group_names g (declared_since from env)
group_since from role env (s.grouping ws kind ref range first) h = bindings_since from (group_entry role kind ref) ws env.names h

pub groups_since : (from : ℕ) (role : Role) (env : Environment) (gs : Groupings) → from ≤ length env.names
    → declared_since from (with_groups role env gs) ≡ e.with_groups_names gs (declared_since from env)
groups_since from role env s.no_groups h = refl
groups_since from role env (s.one_group g gs) h =
    groups_since from role (with_group role env g) gs (omega (arith, group_more role env g))
    ∙ ap (e.with_groups_names gs) (group_since from role env g h)

-- none yet
pub declared_nothing : (env : Environment) → declared_since (length env.names) env ≡ []
declared_nothing env = ap (map (λ (b : Binding). b.name)) (since_nothing env.names)

pub exceptions_nothing : (names : List (List ℕ)) → since (length names) names ≡ []
exceptions_nothing names = since_nothing names

-- RUNS

-- variables
variables_more : (ws : List Word) (kinds : List TypeName) (names : List Binding) → length names ≤ length (with_variables ws kinds names)
variables_more [] kinds names = omega arith
variables_more (w ∷ ws) [] names = omega arith
variables_more (w ∷ ws) (k ∷ ks) names = omega (arith, variables_more ws ks (record { name = w.text; entry = e.variable k } ∷ names))

variables_oldest : (count : ℕ) (ws : List Word) (kinds : List TypeName) (names : List Binding) → count ≤ length names → oldest count (with_variables ws kinds names) ≡ oldest count names
variables_oldest count [] kinds names h = refl
variables_oldest count (w ∷ ws) [] names h = refl
variables_oldest count (w ∷ ws) (k ∷ ks) names h =
    variables_oldest count ws ks (record { name = w.text; entry = e.variable k } ∷ names) (omega arith) ∙ oldest_more count (record { name = w.text; entry = e.variable k }) names h

variables_since : (from : ℕ) (ws : List Word) (kinds : List TypeName) (names : List Binding) → length ws ≡ length kinds → from ≤ length names
    → map (λ (b : Binding). b.name) (since from (with_variables ws kinds names)) ≡ with_names ws (map (λ (b : Binding). b.name) (since from names))
variables_since from [] kinds names c h = refl
variables_since from (w ∷ ws) [] names c h = absurd (omega arith)
variables_since from (w ∷ ws) (k ∷ ks) names c h =
    variables_since from ws ks (record { name = w.text; entry = e.variable k } ∷ names) (omega arith) (omega arith)
    ∙ ap (λ l. with_names ws (map (λ (b : Binding). b.name) l)) (since_more from (record { name = w.text; entry = e.variable k }) names h)

-- no name is lost, nor is an older one changed
pub run_more : (env : Environment) (r : Run) → length env.names ≤ length (e.with_run env r).names
run_more env r = variables_more r.names (e.outputs_of (e.found_node env.nodes r.node.text)) env.names

pub runs_more : (env : Environment) (rs : List Run) → length env.names ≤ length (e.with_runs env rs).names
runs_more env [] = omega arith
runs_more env (r ∷ rs) = omega (arith, run_more env r, runs_more (e.with_run env r) rs)

pub runs_oldest : (count : ℕ) (env : Environment) (rs : List Run) → count ≤ length env.names → with_oldest_names count (e.with_runs env rs) ≡ with_oldest_names count env
runs_oldest count env [] h = refl
runs_oldest count env (r ∷ rs) h =
    runs_oldest count (e.with_run env r) rs (omega (arith, run_more env r))
    ∙ ap (λ names. record env { names = names }) (variables_oldest count r.names (e.outputs_of (e.found_node env.nodes r.node.text)) env.names h)

-- a run that is as it should be has as many names as its node has outputs
outputs_agree : (env : Environment) (r : Run) (o : Option e.Node) → known_node r.node o ++ (exps_refusals env r.arguments ++ applied_node env r o) ≡ [] → length r.names ≡ length (e.outputs_of o)
outputs_agree env r None h = absurd (cc)
outputs_agree env r (Some n) h =
    let applied = nil_right (exps_refusals env r.arguments) (applied_node env r (Some n)) h in
    let counts = unless_back (counts_agree r n) (Arity r.node.span) (nil_left (unless (counts_agree r n) (Arity r.node.span)) (all_given_misfit env r.arguments n.inputs) applied) in
    eqb-true (length r.names) (length n.outputs) (and-left (nat_eq (length r.names) (length n.outputs)) (nat_eq (length r.arguments) (length n.inputs)) counts)

-- its names are those that were declared meanwhile
pub run_since : (from : ℕ) (env : Environment) (taken : List (List ℕ)) (r : Run) → run_refusals env taken r ≡ [] → from ≤ length env.names
    → declared_since from (e.with_run env r) ≡ with_names r.names (declared_since from env)
run_since from env taken r h k =
    let node = e.found_node env.nodes r.node.text in
    variables_since from r.names (e.outputs_of node) env.names (outputs_agree env r node (nil_right (new_names taken r.names) _ h)) k

-- ENDS OF SCOPES

-- after groups
pub groups_end : (role : Role) (env : Environment) (gs : Groupings) → with_oldest_names (length env.names) (with_groups role env gs) ≡ env
groups_end role env gs = groups_oldest (length env.names) role env gs (omega arith) ∙ ap (λ names. record env { names = names }) (oldest_all env.names)

-- after parameters
pub parameters_end : (env : Environment) (ps : Parameters) → with_oldest_names (length env.names) (with_parameters env ps) ≡ env
parameters_end env s.no_parameters = ap (λ names. record env { names = names }) (oldest_all env.names)
parameters_end env (s.parameters gs) = groups_end e.parameters env gs

pub parameters_more : (env : Environment) (ps : Parameters) → length env.names ≤ length (with_parameters env ps).names
parameters_more env s.no_parameters = omega arith
parameters_more env (s.parameters gs) = groups_more e.parameters env gs

-- after a macro
pub macro_end : (env : Environment) (m : Macro) → with_oldest_names (length env.names) (with_macro env m) ≡ env
macro_end env (s.macro w ps kind m) = ap (λ names. record env { names = names }) (oldest_more (length env.names) _ env.names (omega arith) ∙ oldest_all env.names)

pub macro_more : (env : Environment) (m : Macro) → length env.names ≤ length (with_macro env m).names
macro_more env (s.macro w ps kind m) = omega arith

-- after exceptions
names_more : (ws : List Word) (names : List (List ℕ)) → length names ≤ length (with_names ws names)
names_more [] names = omega arith
names_more (w ∷ ws) names = omega (arith, names_more ws (w.text ∷ names))

names_oldest : (count : ℕ) (ws : List Word) (names : List (List ℕ)) → count ≤ length names → oldest count (with_names ws names) ≡ oldest count names
names_oldest count [] names h = refl
names_oldest count (w ∷ ws) names h = names_oldest count ws (w.text ∷ names) (omega arith) ∙ oldest_more count w.text names h

pub exceptions_end : (env : Environment) (ws : List Word) → with_oldest_exceptions (length env.exceptions) (with_exceptions env ws) ≡ env
exceptions_end env ws = ap (λ names. record env { exceptions = names }) (names_oldest (length env.exceptions) ws env.exceptions (omega arith) ∙ oldest_all env.exceptions)

pub exceptions_more : (env : Environment) (ws : List Word) → length env.exceptions ≤ length (with_exceptions env ws).exceptions
exceptions_more env ws = names_more ws env.exceptions

pub ruleset scope_ends = (groups_end, groups_more, groups_since, runs_more, parameters_end, parameters_more, macro_end, macro_more, exceptions_end, exceptions_more, declared_nothing, exceptions_nothing)

-- GROUPS OF A LIST

-- as the code has them
pub groups_refusals_list : (role : Role) (env : Environment) (taken : List (List ℕ)) (g : Groups)
    → groups_refusals role env taken (groupings g) ≡ groups_refusals role env taken (groups_of (map group_of (out-Groups g).items.items))
groups_refusals_list role env taken g = ap (groups_refusals role env taken) (groups_list g)

pub with_groups_list : (role : Role) (env : Environment) (g : Groups) → with_groups role env (groupings g) ≡ with_groups role env (groups_of (map group_of (out-Groups g).items.items))
with_groups_list role env g = ap (with_groups role env) (groups_list g)

-- the next one, with the environment after it
pub groups_next : (role : Role) (from : ℕ) (env behind : Environment) (items : List Group) (i : ℕ) (x : Group) → i < length items → x ≡ get_or items i x → from ≤ length env.names
    → group_refusals role env (declared_since from env) (group_of x) ≡ [] → behind ≡ with_group role env (group_of x)
    → groups_refusals role env (declared_since from env) (groups_of (map group_of (drop i items))) ≡ groups_refusals role behind (declared_since from behind) (groups_of (map group_of (drop (i + 1) items)))
groups_next role from env behind items i x h is k none e =
    let rest = groups_of (map group_of (drop (i + 1) items)) in
    ap (λ l. groups_refusals role env (declared_since from env) (groups_of (map group_of l))) (drop_next items i x h is)
    ∙ ap (λ rs. rs ++ groups_refusals role (with_group role env (group_of x)) (with_group_names (group_of x) (declared_since from env)) rest) none
    ∙ ap (λ taken. groups_refusals role (with_group role env (group_of x)) taken rest) (sym (group_since from role env (group_of x) k))
    ∙ ap (λ env'. groups_refusals role env' (declared_since from env') rest) (sym e)

pub with_groups_next : (role : Role) (env behind : Environment) (items : List Group) (i : ℕ) (x : Group) → i < length items → x ≡ get_or items i x → behind ≡ with_group role env (group_of x)
    → with_groups role env (groups_of (map group_of (drop i items))) ≡ with_groups role behind (groups_of (map group_of (drop (i + 1) items)))
with_groups_next role env behind items i x h is e =
    ap (λ l. with_groups role env (groups_of (map group_of l))) (drop_next items i x h is)
    ∙ ap (λ env'. with_groups role env' (groups_of (map group_of (drop (i + 1) items)))) (sym e)

-- the names that are there
pub group_from : (role : Role) (from : ℕ) (env behind : Environment) (g : Grouping) → from ≤ length env.names → behind ≡ with_group role env g → from ≤ length behind.names
group_from role from env behind g h e = omega (arith, group_more role env g, ap (λ env'. length env'.names) e)

pub ruleset groups_steps = (groups_refusals_list, with_groups_list, groups_next, with_groups_next, drop_next, group_more)

-- the parameters of a list
pub groups_parameters_list : (g : Groups) → e.groups_parameters (groupings g) ≡ e.groups_parameters (groups_of (map group_of (out-Groups g).items.items))
groups_parameters_list g = ap e.groups_parameters (groups_list g)

-- the inputs and the types of a list
pub groups_inputs_list : (g : Groups) → e.groups_inputs (groupings g) ≡ e.groups_inputs (groups_of (map group_of (out-Groups g).items.items))
groups_inputs_list g = ap e.groups_inputs (groups_list g)

pub groups_types_list : (g : Groups) → e.groups_types (groupings g) ≡ e.groups_types (groups_of (map group_of (out-Groups g).items.items))
groups_types_list g = ap e.groups_types (groups_list g)

parameters_held_seen : (ps : Held-MacroDecl-params) → parameters_held ps ≡ parameters_view (view-MacroDecl-params ps)
parameters_held_seen MacroDecl-params-None' = refl
parameters_held_seen (MacroDecl-params-Some' gs) = refl

-- a macro, as the code has it
pub macro_parts : (d : MacroDecl)
    → macro_seen d ≡ s.macro (word (out-MacroDecl d).name) (parameters_view (out-MacroDecl d).params) (out-MacroDecl d).result (meaning (out-MacroDecl d).body)
unfolding out-MacroDecl out
macro_parts (MacroDecl' n ps kind b) = ap (λ p. s.macro (word n) p kind (meaning b)) (parameters_held_seen ps)

-- what its parameters break, it does
pub macro_params_first : (env : Environment) (d : MacroDecl) (r : TypeRefusal) → Leads r (parameters_refusals env (parameters_view (out-MacroDecl d).params)) → Leads r (macro_refusals env (macro_seen d))
macro_params_first env d r h = subst (λ m. Leads r (macro_refusals env m)) (sym (macro_parts d)) (Leads_more _ h)

-- RUNS OF A LIST

-- what is left after one of them breaks the rules that it does before
pub runs_next : (from : ℕ) (env behind : Environment) (items : List RunDecl) (i : ℕ) (x : RunDecl) → i < length items → x ≡ get_or items i x → from ≤ length env.names
    → run_refusals env (declared_since from env) (run x) ≡ [] → behind ≡ e.with_run env (run x)
    → runs_refusals env (declared_since from env) (map run (drop i items)) ≡ runs_refusals behind (declared_since from behind) (map run (drop (i + 1) items))
runs_next from env behind items i x h is k clean e' =
    ap (λ l. runs_refusals env (declared_since from env) (map run l)) (drop_next items i x h is)
    ∙ ap (λ l. l ++ runs_refusals (e.with_run env (run x)) (with_names (run x).names (declared_since from env)) (map run (drop (i + 1) items))) clean
    ∙ ap (λ l. runs_refusals (e.with_run env (run x)) l (map run (drop (i + 1) items))) (sym (run_since from env (declared_since from env) (run x) clean k))
    ∙ ap (λ env'. runs_refusals env' (declared_since from env') (map run (drop (i + 1) items))) (sym e')

-- one that breaks a rule is refused first
pub runs_first : (env : Environment) (taken : List (List ℕ)) (items : List RunDecl) (i : ℕ) (x : RunDecl) (r : TypeRefusal) → i < length items → x ≡ get_or items i x
    → Leads r (run_refusals env taken (run x)) → Leads r (runs_refusals env taken (map run (drop i items)))
runs_first env taken items i x r h is l =
    subst (λ rs. Leads r (runs_refusals env taken (map run rs))) (sym (drop_next items i x h is)) (Leads_more _ l)

pub with_runs_next : (env behind : Environment) (items : List RunDecl) (i : ℕ) (x : RunDecl) → i < length items → x ≡ get_or items i x → behind ≡ e.with_run env (run x)
    → e.with_runs env (map run (drop i items)) ≡ e.with_runs behind (map run (drop (i + 1) items))
with_runs_next env behind items i x h is e' =
    ap (λ l. e.with_runs env (map run l)) (drop_next items i x h is) ∙ ap (λ env'. e.with_runs env' (map run (drop (i + 1) items))) (sym e')

-- the names that are there
pub run_from : (from : ℕ) (env behind : Environment) (r : Run) → from ≤ length env.names → behind ≡ e.with_run env r → from ≤ length behind.names
run_from from env behind r h e' = omega (arith, run_more env r, ap (λ env'. length env'.names) e')

-- after a node
pub node_oldest : (env : Environment) (ins outs : Groupings) (rs : List Run) → with_oldest_names (length env.names) (e.with_runs (e.with_inputs_and_outputs env ins outs) rs) ≡ env
node_oldest env ins outs rs =
    runs_oldest (length env.names) (e.with_inputs_and_outputs env ins outs) rs (omega (arith, groups_more inputs env ins, groups_more variables (with_groups inputs env ins) outs))
    ∙ groups_oldest (length env.names) variables (with_groups inputs env ins) outs (groups_more inputs env ins) ∙ groups_end inputs env ins

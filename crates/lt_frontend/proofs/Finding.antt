-- The runs of the node that is asked for are found by its place.
use Rattle.std.proofs.Common.{◌≡◌, ◌≤◌, ℕ, length, zero, suc, ◌+◌, Bool, true, false, List, [], ◌∷◌, Option, Some, None, map, slice_get, bytes_eq, if◌then◌else◌, refl, ap, sym, ◌∙◌, subst, arith}
use Rattle.lt_ast.specs.Syntax as s
use Rattle.lt_ast.specs.Syntax.{Word, Grouping, Groupings, Macro, Run, Declaration}
use Rattle.lt_ast.specs.View.{declaration}
use Rattle.lt_ast.specs.declared.program.Decl.{Decl}
use Rattle.lt_expand.specs.Nesting.{node_place}
use Rattle.lt_types.specs.Environment as types
use Rattle.lt_types.specs.Environment.{Environment, Role, found_node}
use Rattle.lt_types.specs.Typing.{AreDeclarations, AreRuns}
use Rattle.lt_frontend.specs.Nest.{runs_at, runs_of}
use Rattle.lt_frontend.specs.inner.Found.{runs_in_declaration}

-- At a place.

at_zero : (d : Declaration) (ds : List Declaration) → runs_at (d ∷ ds) zero ≡ runs_in_declaration d
at_zero (s.node w ins outs rs x) ds = refl
at_zero (s.macro_declaration m) ds = refl
at_zero (s.exception_declaration ws) ds = refl

at_suc : (d : Declaration) (ds : List Declaration) (i : ℕ) → runs_at (d ∷ ds) (suc i) ≡ runs_at ds i
at_suc (s.node w ins outs rs x) ds i = refl
at_suc (s.macro_declaration m) ds i = refl
at_suc (s.exception_declaration ws) ds i = refl

pub runs_there : (ds : List Decl) (i : ℕ) (d : Decl) → slice_get ds i ≡ Some d → runs_at (map declaration ds) i ≡ runs_in_declaration (declaration d)
runs_there [] i d e = absurd (cc)
runs_there (x ∷ xs) zero d e = let same : x ≡ d = cc in at_zero (declaration x) (map declaration xs) ∙ ap (λ y. runs_in_declaration (declaration y)) same
runs_there (x ∷ xs) (suc i) d e = at_suc (declaration x) (map declaration xs) i ∙ runs_there xs i d e

pub no_runs_past : (ds : List Decl) (i : ℕ) → length ds ≤ i → runs_at (map declaration ds) i ≡ []
no_runs_past [] i h = refl
no_runs_past (x ∷ xs) zero h = absurd (omega arith)
no_runs_past (x ∷ xs) (suc i) h = at_suc (declaration x) (map declaration xs) i ∙ no_runs_past xs i (omega arith)

-- By a name.

-- the place that is found, counted from the first of these declarations
pub record IsAt (name : List ℕ) (i : ℕ) (ds : List Declaration) (place : ℕ) : Type 0 where
  pub steps : ℕ
  pub further : place ≡ i + steps
  pub runs : runs_of (Some name) ds ≡ runs_at ds steps

later : (name : List ℕ) (i : ℕ) (d : Declaration) (ds : List Declaration) (place : ℕ) → runs_of (Some name) (d ∷ ds) ≡ runs_of (Some name) ds → IsAt name (suc i) ds place → IsAt name i (d ∷ ds) place
later name i d ds place e h = let f = h.further in record { steps = suc h.steps; further = omega arith; runs = e ∙ h.runs ∙ sym (at_suc d ds h.steps) }

skipped : (b : Bool) (rs others : List Run) → b ≡ false → (if b then rs else others) ≡ others
skipped true rs others e = absurd (cc)
skipped false rs others e = refl

taken : (b : Bool) (rs others : List Run) → b ≡ true → (if b then rs else others) ≡ rs
taken true rs others e = refl
taken false rs others e = absurd (cc)

node_at : (b : Bool) (name : List ℕ) (i : ℕ) (w : Word) (ins outs : Groupings) (rs : List Run) (x : s.Trace) (ds : List Declaration) (place : ℕ) (other : Option ℕ) → bytes_eq name w.text ≡ b
    → (other ≡ Some place → IsAt name (suc i) ds place) → (if b then Some i else other) ≡ Some place → IsAt name i (s.node w ins outs rs x ∷ ds) place
node_at true name i w ins outs rs x ds place other t h e =
    let same : i ≡ place = cc in
    record { steps = 0; further = omega arith; runs = taken (bytes_eq name w.text) rs (runs_of (Some name) ds) t }
node_at false name i w ins outs rs x ds place other t h e = later name i (s.node w ins outs rs x) ds place (skipped (bytes_eq name w.text) rs (runs_of (Some name) ds) t) (h e)

place_at : (name : List ℕ) (i : ℕ) (ds : List Declaration) (place : ℕ) → node_place name i ds ≡ Some place → IsAt name i ds place
place_at name i [] place e = absurd (cc)
place_at name i (s.node w ins outs rs x ∷ ds) place e = node_at (bytes_eq name w.text) name i w ins outs rs x ds place (node_place name (suc i) ds) refl (place_at name (suc i) ds place) e
place_at name i (s.macro_declaration m ∷ ds) place e = later name i (s.macro_declaration m) ds place refl (place_at name (suc i) ds place e)
place_at name i (s.exception_declaration ws ∷ ds) place e = later name i (s.exception_declaration ws) ds place refl (place_at name (suc i) ds place e)

pub runs_found : (name : List ℕ) (ds : List Declaration) (place : ℕ) → node_place name 0 ds ≡ Some place → runs_at ds place ≡ runs_of (Some name) ds
runs_found name ds place e =
    let h = place_at name 0 ds place e in
    let f = h.further in
    let same : place ≡ h.steps = omega arith in
    ap (runs_at ds) same ∙ sym h.runs

no_node : (b : Bool) (rs others : List Run) (i : ℕ) (other : Option ℕ) → (if b then Some i else other) ≡ None → (other ≡ None → others ≡ []) → (if b then rs else others) ≡ []
no_node true rs others i other e h = absurd (cc)
no_node false rs others i other e h = h e

pub no_runs_found : (name : List ℕ) (i : ℕ) (ds : List Declaration) → node_place name i ds ≡ None → runs_of (Some name) ds ≡ []
no_runs_found name i [] e = refl
no_runs_found name i (s.node w ins outs rs x ∷ ds) e = no_node (bytes_eq name w.text) rs (runs_of (Some name) ds) i (node_place name (suc i) ds) e (no_runs_found name (suc i) ds)
no_runs_found name i (s.macro_declaration m ∷ ds) e = no_runs_found name (suc i) ds e
no_runs_found name i (s.exception_declaration ws ∷ ds) e = no_runs_found name (suc i) ds e

-- The first node of a text.

-- groups declare no node
group_nodes : (part : Role) (outer : Environment) (g : Grouping) → (types.with_group part outer g).nodes ≡ outer.nodes
group_nodes part outer (s.grouping ws type ref range first) = refl

groups_nodes : (part : Role) (outer : Environment) (gs : Groupings) → (types.with_groups part outer gs).nodes ≡ outer.nodes
groups_nodes part outer s.no_groups = refl
groups_nodes part outer (s.one_group g gs) = groups_nodes part (types.with_group part outer g) gs ∙ group_nodes part outer g

pub inside_nodes : (outer : Environment) (ins outs : Groupings) → (types.with_inputs_and_outputs outer ins outs).nodes ≡ outer.nodes
inside_nodes outer ins outs = groups_nodes types.variables (types.with_groups types.inputs outer ins) outs ∙ groups_nodes types.inputs outer ins

-- nor does a macro
pub macro_nodes : (outer : Environment) (m : Macro) → (types.with_macro outer m).nodes ≡ outer.nodes
macro_nodes outer (s.macro w ps type y) = refl

-- where there is no node, none is run
none_run : (env : Environment) (taken : List (List ℕ)) (rs : List Run) → env.nodes ≡ [] → AreRuns env taken rs → rs ≡ []
none_run env taken [] e h = refl
none_run env taken (r ∷ rs) e h = let f : found_node [] r.node.text ≡ Some h.0.1 = subst (λ ns. found_node ns r.node.text ≡ Some h.0.1) e h.0.2 in absurd (cc)

pub first_runs : (env : Environment) (ds : List Declaration) → env.nodes ≡ [] → AreDeclarations env ds → runs_of None ds ≡ []
first_runs env [] e h = refl
first_runs env (s.node w ins outs rs x ∷ ds) e h =
    none_run (types.with_inputs_and_outputs env ins outs) (types.with_groups_names outs (types.with_groups_names ins [])) rs (inside_nodes env ins outs ∙ e) h.0.3
first_runs env (s.macro_declaration m ∷ ds) e h = first_runs (types.with_macro env m) ds (macro_nodes env m ∙ e) h.1
first_runs env (s.exception_declaration ws ∷ ds) e h = first_runs (types.with_exceptions env ws) ds e h.1

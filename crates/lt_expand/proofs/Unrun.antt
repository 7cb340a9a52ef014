-- The first node of a well typed text runs none, since there is none before it.
use Rattle.std.proofs.Common.{◌≡◌, ℕ, List, [], ◌∷◌, Option, None, Some, refl, sym, ap, ◌∙◌}
use Rattle.lt_ast.specs.Syntax as s
use Rattle.lt_ast.specs.Syntax.{Declaration, Grouping, Groupings, Run, Macro}
use Rattle.lt_types.specs.Environment.{Environment, Node, Role, found_node, inputs, variables, with_exceptions, with_group, with_groups, with_inputs_and_outputs, with_macro}
use Rattle.lt_types.specs.Typing.{AreDeclarations, AreRuns}
use Rattle.lt_expand.specs.Nested.{counted_runs, runs_among}

group_keeps : (role : Role) (env : Environment) (g : Grouping) → (with_group role env g).nodes ≡ env.nodes
group_keeps role env (s.grouping ws kind ref range first) = refl

groups_keep : (role : Role) (env : Environment) (gs : Groupings) → (with_groups role env gs).nodes ≡ env.nodes
groups_keep role env s.no_groups = refl
groups_keep role env (s.one_group g gs) = groups_keep role (with_group role env g) gs ∙ group_keeps role env g

pub macro_keeps : (env : Environment) (m : Macro) → (with_macro env m).nodes ≡ env.nodes
macro_keeps env (s.macro w ps kind m) = refl

found_none : (ns : List Node) (name : List ℕ) (n : Node) → ns ≡ [] → found_node ns name ≡ Some n → ⊥
found_none ns name n e h = let untrue : None ≡ Some n = sym (ap (λ ms. found_node ms name) e) ∙ h in absurd (cc)

no_runs : (env : Environment) (taken : List (List ℕ)) (rs : List Run) → env.nodes ≡ [] → AreRuns env taken rs → counted_runs [] rs ≡ 0
no_runs env taken [] e h = refl
no_runs env taken (r ∷ rs) e h = absurd (found_none env.nodes r.node.text h.0.1 e h.0.2)

pub first_runs_none : (env : Environment) (ds : List Declaration) → env.nodes ≡ [] → AreDeclarations env ds → runs_among [] None ds ≡ 0
first_runs_none env [] e h = refl
first_runs_none env (s.node w ins outs rs x ∷ ds) e h =
    no_runs (with_inputs_and_outputs env ins outs) _ rs (groups_keep variables (with_groups inputs env ins) outs ∙ groups_keep inputs env ins ∙ e) h.0.3
first_runs_none env (s.macro_declaration m ∷ ds) e h = first_runs_none (with_macro env m) ds (macro_keeps env m ∙ e) h.1
first_runs_none env (s.exception_declaration ws ∷ ds) e h = first_runs_none (with_exceptions env ws) ds e h.1

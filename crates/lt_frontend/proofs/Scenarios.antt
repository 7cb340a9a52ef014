-- A text has one answer as a scenario.
use Rattle.std.proofs.Common.{◌≡◌, ◌⊎◌, inl, inr, ℕ, Bool, true, false, nat_lt, List, [], ◌∷◌, Option, None, Some, Result, Ok, Err, refl, ap, sym, ◌∙◌}
use Rattle.lt_ast.specs.Syntax.{Declaration}
use Rattle.lt_expand.specs.Nested.{runs_in_nest}
use Rattle.lt_expand.specs.Refusals.{refusals_of}
use Rattle.lt_expand.specs.Scenes.{scene_of}
use Rattle.lt_expand.specs.declared.refusal.ExpandRefusal.{ExpandRefusal}
use Rattle.lt_macros.specs.Expanded.{Node}
use Rattle.lt_macros.specs.Expansion.{expanded_node}
use Rattle.lt_grammar.specs.Text.{IsProgramOf}
use Rattle.lt_parser.specs.Text.{IsRefusal}
use Rattle.lt_parser.specs.declared.refusal.ParseRefusal.{ParseRefusal}
use Rattle.lt_term.specs.Scene.{Scene}
use Rattle.lt_types.specs.Law.{WellTypedIsUnrefused}
use Rattle.lt_types.specs.Refusals.{type_refusals}
use Rattle.lt_types.specs.Typing.{IsWellTyped}
use Rattle.lt_types.specs.declared.refusal.TypeRefusal.{TypeRefusal}
use Rattle.lt_frontend.specs.Laws.{TextsHaveOneScenarioAnswer}
use Rattle.lt_frontend.specs.Prepared.{IsRunning, IsSceneOf, IsScenarioAnswer}
use Rattle.lt_frontend.specs.declared.refusal.Refusal.{Refusal}
use Rattle.lt_frontend.specs.declared.refusal.Refusal.TheVariants as refusal
use Rattle.lt_frontend.proofs.Computed.{expanded_answer, node_answer, scenario_answer, typed_answer}
use Rattle.lt_frontend.proofs.Once.{OneAnswer, Row, read, rows_agree, unread}

-- There is one.

node_has : (decimals : ℕ) (wanted : Option (List ℕ)) (text : List ℕ) (program : List Declaration) (asked : Option Node) (rs : List ExpandRefusal) (some : Bool) → expanded_node decimals wanted program ≡ asked
    → refusals_of decimals (runs_in_nest wanted program) asked ≡ rs → nat_lt 0 (runs_in_nest wanted program) ≡ some → IsProgramOf text program → IsWellTyped decimals program
    → IsScenarioAnswer decimals wanted text (node_answer decimals asked rs some)
node_has decimals wanted text program asked (reason ∷ others) some e f g spells typed = IsScenarioAnswer.not_expanded program reason spells typed (others, ap (refusals_of decimals (runs_in_nest wanted program)) e ∙ f)
node_has decimals wanted text program (Some tree) [] true e f g spells typed = IsScenarioAnswer.has_runs program spells typed (ap (refusals_of decimals (runs_in_nest wanted program)) e ∙ f, g)
node_has decimals wanted text program (Some tree) [] false e f g spells typed =
    IsScenarioAnswer.has_scenario program (scene_of decimals tree) spells typed (ap (refusals_of decimals (runs_in_nest wanted program)) e ∙ f, g, (tree, e, refl))
node_has decimals wanted text program None [] some e f g spells typed = absurd (cc)

typed_has : WellTypedIsUnrefused → (decimals : ℕ) (wanted : Option (List ℕ)) (text : List ℕ) (program : List Declaration) (rs : List TypeRefusal) → type_refusals decimals program ≡ rs → IsProgramOf text program → IsScenarioAnswer decimals wanted text (typed_answer decimals wanted program rs)
typed_has law decimals wanted text program [] e spells =
    let asked : Option Node = expanded_node decimals wanted program in
    let runs : ℕ = runs_in_nest wanted program in
    node_has decimals wanted text program asked (refusals_of decimals runs asked) (nat_lt 0 runs) refl refl refl spells ((law decimals program).1 e)
typed_has law decimals wanted text program (reason ∷ others) e spells = IsScenarioAnswer.ill_typed program reason spells (others, e)

-- some answer is there
abbrev HasAnswer : ℕ → Option (List ℕ) → List ℕ → Type 0
HasAnswer decimals wanted text = (answer : Result Scene Refusal) × IsScenarioAnswer decimals wanted text answer

text_has : WellTypedIsUnrefused → (decimals : ℕ) (wanted : Option (List ℕ)) (text : List ℕ) → ((x : List Declaration) × IsProgramOf text x) ⊎ ((reason : ParseRefusal) × IsRefusal text reason) → HasAnswer decimals wanted text
text_has law decimals wanted text (inl h) = (scenario_answer decimals wanted h.0, typed_has law decimals wanted text h.0 (type_refusals decimals h.0) refl h.1)
text_has law decimals wanted text (inr h) = (Err (refusal.Text h.0), IsScenarioAnswer.no_program h.0 h.1)

-- There is no other one.

-- the answer of a program that is well typed
expanded_read : WellTypedIsUnrefused → (decimals : ℕ) (wanted : Option (List ℕ)) (program : List Declaration) → IsWellTyped decimals program → expanded_answer decimals wanted program ≡ scenario_answer decimals wanted program
expanded_read law decimals wanted program typed = sym (ap (typed_answer decimals wanted program) ((law decimals program).0 typed))

-- that of one whose node has a scenario
scene_read : WellTypedIsUnrefused → (decimals : ℕ) (wanted : Option (List ℕ)) (program : List Declaration) (s : Scene) → IsWellTyped decimals program → IsSceneOf decimals wanted program s → Ok s ≡ scenario_answer decimals wanted program
scene_read law decimals wanted program s typed is =
    let asked : Option Node = expanded_node decimals wanted program in
    let some : Bool = nat_lt 0 (runs_in_nest wanted program) in
    ap Ok is.2.2
    ∙ sym (ap (λ o. node_answer decimals o [] false) is.2.1)
    ∙ sym (ap (node_answer decimals asked []) is.1)
    ∙ sym (ap (λ rs. node_answer decimals asked rs some) is.0)
    ∙ expanded_read law decimals wanted program typed

-- of which nothing is refused there is a node, and one that runs others has none
running : (decimals runs : ℕ) (asked : Option Node) → refusals_of decimals runs asked ≡ [] → Err refusal.HasRuns ≡ node_answer decimals asked [] true
running decimals runs None h = absurd (cc)
running decimals runs (Some tree) h = refl

runs_read : WellTypedIsUnrefused → (decimals : ℕ) (wanted : Option (List ℕ)) (program : List Declaration) → IsWellTyped decimals program → IsRunning decimals wanted program → Err refusal.HasRuns ≡ scenario_answer decimals wanted program
runs_read law decimals wanted program typed is =
    let asked : Option Node = expanded_node decimals wanted program in
    let runs : ℕ = runs_in_nest wanted program in
    running decimals runs asked is.0
    ∙ sym (ap (node_answer decimals asked []) is.1)
    ∙ sym (ap (λ rs. node_answer decimals asked rs (nat_lt 0 runs)) is.0)
    ∙ expanded_read law decimals wanted program typed

row : WellTypedIsUnrefused → (decimals : ℕ) (wanted : Option (List ℕ)) (text : List ℕ) (answer : Result Scene Refusal) → IsScenarioAnswer decimals wanted text answer → Row (scenario_answer decimals wanted) text answer
row law decimals wanted text answer (IsScenarioAnswer.no_program reason is) = unread reason is refl
row law decimals wanted text answer (IsScenarioAnswer.ill_typed program reason spells first) = read program spells (sym (ap (typed_answer decimals wanted program) first.1))
row law decimals wanted text answer (IsScenarioAnswer.not_expanded program reason spells typed first) =
    read program spells (sym (ap (λ rs. node_answer decimals (expanded_node decimals wanted program) rs (nat_lt 0 (runs_in_nest wanted program))) first.1) ∙ expanded_read law decimals wanted program typed)
row law decimals wanted text answer (IsScenarioAnswer.has_runs program spells typed is) = read program spells (runs_read law decimals wanted program typed is)
row law decimals wanted text answer (IsScenarioAnswer.has_scenario program s spells typed is) = read program spells (scene_read law decimals wanted program s typed is)

pub texts_have_one_scenario_answer : WellTypedIsUnrefused → OneAnswer → TextsHaveOneScenarioAnswer
texts_have_one_scenario_answer law texts decimals wanted text = (
  text_has law decimals wanted text (texts.some text),
  λ answer other h k. rows_agree (scenario_answer decimals wanted) texts text answer other (row law decimals wanted text answer h) (row law decimals wanted text other k),
)

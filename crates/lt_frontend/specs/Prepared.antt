-- What is made of a text: the scenario of one of its nodes, or its program in print.
use Rattle.std.specs.Prelude.{◌≡◌, ℕ, true, false, nat_lt, List, [], ◌∷◌, Option, Some, Result, Ok, Err}
use Rattle.lt_ast.specs.Printed.{printed}
use Rattle.lt_ast.specs.Syntax.{Declaration}
use Rattle.lt_expand.specs.Nested.{runs_in_nest}
use Rattle.lt_expand.specs.Refusals.{expand_refusals}
use Rattle.lt_expand.specs.Scenes.{scene_of}
use Rattle.lt_expand.specs.declared.refusal.ExpandRefusal.{ExpandRefusal}
use Rattle.lt_macros.specs.Expanded.{Node}
use Rattle.lt_macros.specs.Expansion.{expanded_node}
use Rattle.lt_grammar.specs.Text.{IsProgramOf}
use Rattle.lt_parser.specs.Text.{IsRefusal}
use Rattle.lt_parser.specs.declared.refusal.ParseRefusal.{ParseRefusal}
use Rattle.lt_term.specs.Scene.{Scene}
use Rattle.lt_types.specs.Refusals.{type_refusals}
use Rattle.lt_types.specs.Typing.{IsWellTyped}
use Rattle.lt_types.specs.declared.refusal.TypeRefusal.{TypeRefusal}
use Rattle.lt_frontend.specs.declared.refusal.Refusal.{Refusal}
use Rattle.lt_frontend.specs.declared.refusal.Refusal.TheVariants as refusal
use Rattle.lt_frontend.specs.declared.refusal.Unprepared.{Unprepared}
use Rattle.lt_frontend.specs.declared.refusal.Unprepared.TheVariants as unprepared

-- this is the first of the rules of types that the program breaks
abbrev pub IsTypeRefusal : ℕ → List Declaration → TypeRefusal → Type 0
IsTypeRefusal decimals program reason = (others : List TypeRefusal) × (type_refusals decimals program ≡ reason ∷ others)

-- this is what is refused first of the node that is asked for
abbrev pub IsExpandRefusal : ℕ → Option (List ℕ) → List Declaration → ExpandRefusal → Type 0
IsExpandRefusal decimals node program reason = (others : List ExpandRefusal) × (expand_refusals decimals node program ≡ reason ∷ others)

-- nothing is refused of the node that is asked for, but it runs others
abbrev pub IsRunning : ℕ → Option (List ℕ) → List Declaration → Type 0
IsRunning decimals node program =
    (expand_refusals decimals node program ≡ []) × (nat_lt 0 (runs_in_nest node program) ≡ true)

-- nothing is refused of the node that is asked for, it runs none, and this is its scenario
abbrev pub IsSceneOf : ℕ → Option (List ℕ) → List Declaration → Scene → Type 0
IsSceneOf decimals node program scene =
    (expand_refusals decimals node program ≡ [])
    × (nat_lt 0 (runs_in_nest node program) ≡ false)
    × ((tree : Node) × (expanded_node decimals node program ≡ Some tree) × (scene ≡ scene_of decimals tree))

-- What a text has as a scenario, where reals have so many decimals and this node is asked for, or else the first one: a
-- row a cause, in the order in which the causes are tried.
pub data IsScenarioAnswer (decimals : ℕ) (node : Option (List ℕ)) (text : List ℕ) : Result Scene Refusal → Type 0 where
  -- the text spells no program, for this reason
  no_program : (reason : ParseRefusal) → IsRefusal text reason → IsScenarioAnswer decimals node text (Err (refusal.Text reason))
  -- it spells one that isn't well typed, for this reason
  ill_typed : (program : List Declaration) (reason : TypeRefusal) → IsProgramOf text program → IsTypeRefusal decimals program reason → IsScenarioAnswer decimals node text (Err (refusal.Types reason))
  -- the program is well typed, and its node has no scenario, for this reason
  not_expanded : (program : List Declaration) (reason : ExpandRefusal) → IsProgramOf text program → IsWellTyped decimals program → IsExpandRefusal decimals node program reason → IsScenarioAnswer decimals node text (Err (refusal.Expand reason))
  -- its node has a scenario, but not alone, since it runs others
  has_runs : (program : List Declaration) → IsProgramOf text program → IsWellTyped decimals program
      → IsRunning decimals node program → IsScenarioAnswer decimals node text (Err refusal.HasRuns)
  -- its node has this scenario
  has_scenario : (program : List Declaration) (scene : Scene) → IsProgramOf text program → IsWellTyped decimals program → IsSceneOf decimals node program scene → IsScenarioAnswer decimals node text (Ok scene)

-- What a text has in print: a row a cause, as above.
pub data IsPrintedAnswer (text : List ℕ) : Result (List ℕ) Refusal → Type 0 where
  -- the text spells no program, for this reason
  no_program : (reason : ParseRefusal) → IsRefusal text reason → IsPrintedAnswer text (Err (refusal.Text reason))
  -- it spells this one, which is printed
  has_text : (program : List Declaration) → IsProgramOf text program → IsPrintedAnswer text (Ok (printed program))

-- this holds of the refusal that is told, if one is; where memory ran out, none is
abbrev pub IfRefused : Unprepared → (Refusal → Type 0) → Type 0
IfRefused (unprepared.Refused reason) Holds = Holds reason
IfRefused unprepared.Memory Holds = Unit {0}

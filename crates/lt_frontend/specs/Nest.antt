-- The nest of a node: its scenario, with those of the nodes that it runs; and what a text has as a nest.
use Rattle.std.specs.Prelude.{◌≡◌, ℕ, zero, suc, true, false, nat_le, List, [], ◌∷◌, length, Option, Some, None, Result, Ok, Err, MatchBool, if◌then◌else◌}
use Rattle.lt_ast.specs.Syntax as s
use Rattle.lt_ast.specs.Syntax.{Run, Declaration}
use Rattle.lt_expand.specs.Calls.{Call, calls_in}
use Rattle.lt_expand.specs.Nested.{most_runs, runs_in_nest}
use Rattle.lt_expand.specs.Refusals.{expand_refusals}
use Rattle.lt_expand.specs.Scenes.{scene_of}
use Rattle.lt_expand.specs.declared.refusal.ExpandRefusal.{ExpandRefusal}
use Rattle.lt_formula.specs.Expression.{Expression}
use Rattle.lt_grammar.specs.Text.{IsProgramOf}
use Rattle.lt_macros.specs.Expanded.{Node}
use Rattle.lt_macros.specs.Expansion.{expanded_node, is_wanted}
use Rattle.lt_parser.specs.Text.{IsRefusal}
use Rattle.lt_parser.specs.declared.refusal.ParseRefusal.{ParseRefusal}
use Rattle.lt_parts.specs.Scenario.{has_too_many_atoms}
use Rattle.lt_term.specs.Scene.{Scene}
use Rattle.lt_types.specs.Typing.{IsWellTyped}
use Rattle.lt_types.specs.declared.refusal.TypeRefusal.{TypeRefusal}
use Rattle.lt_frontend.specs.Prepared.{IsExpandRefusal, IsTypeRefusal}
use Rattle.lt_frontend.specs.declared.refusal.Refusal.{Refusal}
use Rattle.lt_frontend.specs.declared.refusal.Refusal.TheVariants as refusal

-- the runs of a node
pub data Runs : Type 0 where
  no_run : Runs
  -- what the node is given, its scenario, how many inputs are its own, what it runs itself; and the runs after this one
  run : List Expression → Scene → ℕ → Runs → Runs → Runs

-- a node with those that it runs
pub record Nest : Type 0 where
  pub scene : Scene
  pub own_inputs : ℕ
  pub runs : Runs

-- runs, with the nests of their nodes, as far as both go
abbrev pub runs_with : List Call → List Nest → Runs
runs_with [] ns = no_run
runs_with (c ∷ cs) [] = no_run
runs_with (c ∷ cs) (n ∷ ns) = run c.arguments n.scene n.own_inputs n.runs (runs_with cs ns)

-- the runs of the node that is asked for, as they are written
abbrev pub runs_of : Option (List ℕ) → List Declaration → List Run
runs_of wanted [] = []
runs_of wanted (s.node w ins outs rs x ∷ ds) = if is_wanted wanted w then rs else runs_of wanted ds
runs_of wanted (s.macro_declaration m ∷ ds) = runs_of wanted ds
runs_of wanted (s.exception_declaration ws ∷ ds) = runs_of wanted ds

-- those of the node at a place of the declarations
abbrev pub runs_at : List Declaration → ℕ → List Run
runs_at [] i = []
runs_at (s.node w ins outs rs x ∷ ds) zero = rs
runs_at (s.macro_declaration m ∷ ds) zero = []
runs_at (s.exception_declaration ws ∷ ds) zero = []
runs_at (d ∷ ds) (suc i) = runs_at ds i

-- The nodes that are run have these nests, and nothing is refused of the node itself, which has this scenario and these runs.
pub record IsMade (decimals : ℕ) (ds : List Declaration) (wanted : Option (List ℕ)) (inner : List Nest)
    (made : Nest) : Type 0 where
  pub unrefused : expand_refusals decimals wanted ds ≡ []
  pub tree : Node
  pub expanded : expanded_node decimals wanted ds ≡ Some tree
  pub scene : made.scene ≡ scene_of decimals tree
  pub own_inputs : made.own_inputs ≡ length tree.inputs
  pub runs : made.runs ≡ runs_with (calls_in tree) inner

mutual
  -- What a node has as a nest: a row for each cause, in the order in which they are tried.
  pub data IsNestAnswer (decimals : ℕ) (ds : List Declaration)
      : Option (List ℕ) → Result Nest Refusal → Type 0 where
    -- a node that is run is refused
    inside : (wanted : Option (List ℕ)) (reason : Refusal)
        → AreNestAnswers decimals ds (runs_of wanted ds) (Err reason)
        → IsNestAnswer decimals ds wanted (Err reason)
    -- the node itself is
    itself : (wanted : Option (List ℕ)) (inner : List Nest) (reason : ExpandRefusal)
        → AreNestAnswers decimals ds (runs_of wanted ds) (Ok inner)
        → IsExpandRefusal decimals wanted ds reason
        → IsNestAnswer decimals ds wanted (Err (refusal.Expand reason))
    -- some constraint of it has a conjunct of too many atoms
    crowded : (wanted : Option (List ℕ)) (inner : List Nest) (made : Nest)
        → AreNestAnswers decimals ds (runs_of wanted ds) (Ok inner)
        → IsMade decimals ds wanted inner made → has_too_many_atoms made.scene ≡ true
        → IsNestAnswer decimals ds wanted (Err refusal.TooManyAtoms)
    -- it has a nest
    has_nest : (wanted : Option (List ℕ)) (inner : List Nest) (made : Nest)
        → AreNestAnswers decimals ds (runs_of wanted ds) (Ok inner)
        → IsMade decimals ds wanted inner made → has_too_many_atoms made.scene ≡ false
        → IsNestAnswer decimals ds wanted (Ok made)

  -- what the nodes of runs have as nests: those of all of them, or the refusal of the first one that is refused
  pub data AreNestAnswers (decimals : ℕ) (ds : List Declaration)
      : List Run → Result (List Nest) Refusal → Type 0 where
    none_left : AreNestAnswers decimals ds [] (Ok [])
    first_refused : (r : Run) (rs : List Run) (reason : Refusal)
        → IsNestAnswer decimals ds (Some r.node.text) (Err reason)
        → AreNestAnswers decimals ds (r ∷ rs) (Err reason)
    later_refused : (r : Run) (rs : List Run) (first : Nest) (reason : Refusal)
        → IsNestAnswer decimals ds (Some r.node.text) (Ok first)
        → AreNestAnswers decimals ds rs (Err reason)
        → AreNestAnswers decimals ds (r ∷ rs) (Err reason)
    all_made : (r : Run) (rs : List Run) (first : Nest) (later : List Nest)
        → IsNestAnswer decimals ds (Some r.node.text) (Ok first)
        → AreNestAnswers decimals ds rs (Ok later)
        → AreNestAnswers decimals ds (r ∷ rs) (Ok (first ∷ later))

-- Of these runs this is the node of the first whose nest has too many runs, and those before it have nests; or there is no such
-- node, and all have nests.
abbrev pub LeadsOn : ℕ → List Declaration → List Run → Option (List ℕ) → Type 0
LeadsOn decimals ds rs None = (inner : List Nest) × AreNestAnswers decimals ds rs (Ok inner)
LeadsOn decimals ds [] (Some name) = ⊥
LeadsOn decimals ds (r ∷ rs) (Some name) =
    MatchBool (nat_le (runs_in_nest (Some r.node.text) ds) most_runs)
    ((first : Nest) × IsNestAnswer decimals ds (Some r.node.text) (Ok first)
    × LeadsOn decimals ds rs (Some name))
    (name ≡ r.node.text)

-- What a text has as a nest, where reals have so many decimals and this node is asked for, or else the first one: a row a cause,
-- in the order in which the causes are tried.
pub data IsTextsNestAnswer (decimals : ℕ) (wanted : Option (List ℕ)) (text : List ℕ)
    : Result Nest Refusal → Type 0 where
  -- the text spells no program, for this reason
  no_program : (reason : ParseRefusal) → IsRefusal text reason
      → IsTextsNestAnswer decimals wanted text (Err (refusal.Text reason))
  -- it spells one that isn't well typed, for this reason
  ill_typed : (program : List Declaration) (reason : TypeRefusal) → IsProgramOf text program
      → IsTypeRefusal decimals program reason
      → IsTextsNestAnswer decimals wanted text (Err (refusal.Types reason))
  -- the program is well typed, and its node has this answer
  by_node : (program : List Declaration) (answer : Result Nest Refusal) → IsProgramOf text program
      → IsWellTyped decimals program → IsNestAnswer decimals program wanted answer
      → IsTextsNestAnswer decimals wanted text answer

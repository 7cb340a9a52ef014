-- The answer of a text that spells a program, computed.
use Rattle.std.specs.Prelude.{ℕ, Bool, true, false, nat_lt, List, [], ◌∷◌, Option, None, Some, Result, Ok, Err}
use Rattle.lt_ast.specs.Syntax.{Declaration}
use Rattle.lt_expand.specs.Nested.{runs_in_nest}
use Rattle.lt_expand.specs.Refusals.{refusals_of}
use Rattle.lt_expand.specs.Scenes.{scene_of}
use Rattle.lt_expand.specs.declared.refusal.ExpandRefusal.{ExpandRefusal}
use Rattle.lt_expand.specs.declared.refusal.ExpandRefusal.TheVariants.{UnknownNode}
use Rattle.lt_macros.specs.Expanded.{Node}
use Rattle.lt_macros.specs.Expansion.{expanded_node}
use Rattle.lt_term.specs.Scene.{Scene}
use Rattle.lt_types.specs.Refusals.{type_refusals}
use Rattle.lt_types.specs.declared.refusal.TypeRefusal.{TypeRefusal}
use Rattle.lt_frontend.specs.declared.refusal.Refusal.{Refusal}
use Rattle.lt_frontend.specs.declared.refusal.Refusal.TheVariants as refusal

-- of the node that is asked for, if there is one, by what is refused of it, and by whether it runs others
abbrev pub node_answer : ℕ → Option Node → List ExpandRefusal → Bool → Result Scene Refusal
node_answer decimals asked (reason ∷ others) runs = Err (refusal.Expand reason)
node_answer decimals (Some tree) [] true = Err refusal.HasRuns
node_answer decimals (Some tree) [] false = Ok (scene_of decimals tree)
node_answer decimals None [] runs = Err (refusal.Expand UnknownNode)

-- of a program that is well typed
abbrev pub expanded_answer : ℕ → Option (List ℕ) → List Declaration → Result Scene Refusal
expanded_answer decimals wanted program =
    let asked : Option Node = expanded_node decimals wanted program in
    let runs : ℕ = runs_in_nest wanted program in
    node_answer decimals asked (refusals_of decimals runs asked) (nat_lt 0 runs)

-- of a program, by the rules of types that it breaks
abbrev pub typed_answer : ℕ → Option (List ℕ) → List Declaration → List TypeRefusal → Result Scene Refusal
typed_answer decimals wanted program [] = expanded_answer decimals wanted program
typed_answer decimals wanted program (reason ∷ others) = Err (refusal.Types reason)

-- of any program
abbrev pub scenario_answer : ℕ → Option (List ℕ) → List Declaration → Result Scene Refusal
scenario_answer decimals wanted program = typed_answer decimals wanted program (type_refusals decimals program)

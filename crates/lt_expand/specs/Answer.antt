-- What is answered where a program is expanded.
use Rattle.std.specs.Prelude.{◌≡◌, ℕ, [], length, map, slice_get, option_map}
use Rattle.std.specs.List.{All}
use Rattle.std.specs.declared.option.Option.{Option}
use Rattle.std.specs.declared.option.Option.TheVariants.{Some}
use Rattle.std.specs.declared.result.Result.{Result}
use Rattle.std.specs.declared.result.Result.TheVariants.{Ok, Err}
use Rattle.lt_macros.specs.Expanded.{Node}
use Rattle.lt_term.specs.SceneView.{scene}
use Rattle.lt_term.specs.declared.scenario.Scenario.{Scenario}
use Rattle.lt_expand.specs.Calls.{IsOver, call_view, calls_in}
use Rattle.lt_expand.specs.Classes.{kinds_of}
use Rattle.lt_expand.specs.Refusals.{refusals_of}
use Rattle.lt_expand.specs.Scenes.{scene_of}
use Rattle.lt_expand.specs.declared.calls.ExpandedNode.{ExpandedNode}
use Rattle.lt_expand.specs.declared.refusal.ExpandRefusal.{ExpandRefusal}
use Rattle.lt_expand.specs.declared.refusal.ExpandRefusal.TheVariants.{Memory}

-- A node of which nothing is refused is answered as its scenario, where reals have so many decimals and its nest has so many
-- runs; else the first refusal is told. Memory may run out at any time.
abbrev pub IsAnswer : ℕ → ℕ → Option Node → Result Scenario ExpandRefusal → Type 0
IsAnswer decimals runs asked (Ok made) =
    (refusals_of decimals runs asked ≡ [])
    × (option_map (scene_of decimals) asked ≡ Some (scene made))
IsAnswer decimals runs asked (Err Memory) = Unit {0}
IsAnswer decimals runs asked (Err refusal) =
    slice_get (refusals_of decimals runs asked) 0 ≡ Some refusal

-- So it is where its runs are answered too, with how many inputs are its own.
abbrev pub IsNodeAnswer : ℕ → ℕ → Option Node → Result ExpandedNode ExpandRefusal → Type 0
IsNodeAnswer decimals runs asked (Ok made) =
    IsAnswer decimals runs asked (Ok made.scenario)
    × ((node : Node) × (asked ≡ Some node) × (made.own_inputs ≡ length node.inputs)
    × (map call_view made.calls.items ≡ calls_in node)
    × All (IsOver (kinds_of node)) made.calls.items)
IsNodeAnswer decimals runs asked (Err refusal) = IsAnswer decimals runs asked (Err refusal)

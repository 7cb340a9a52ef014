-- Where an expression depends on what is drawn in the same instant and may not. Such an expression is controllable.
use Rattle.std.specs.Prelude.{Bool, not, List, map}
use Rattle.std.specs.List.{flat_map}
use Rattle.lt_ast.specs.declared.span.Span.{Span}
use Rattle.lt_formula.specs.Kinds.{Kinds}
use Rattle.lt_macros.specs.Placed.{Placed, bare, place_of}
use Rattle.lt_macros.specs.Expanded.{Node, all_inputs}
use Rattle.lt_macros.specs.Failing.{unless}
use Rattle.lt_macros.specs.Preorder.{arguments_in, expressions_in, locals_in, weights_in, with_parts}
use Rattle.lt_term.specs.Classes as without_places

-- the kinds of a node's variables
abbrev pub kinds_of : Node → Kinds
kinds_of node = record {
  inputs = map (λ d. d.kind) (all_inputs node);
  outputs = map (λ d. d.kind) node.outputs;
  locals = map (λ d. d.kind) (locals_in node);
}

-- an expression depends on an output or a local of the instant
abbrev pub is_controllable : Kinds → Placed → Bool
is_controllable kinds e = without_places.is_controllable kinds (bare e)

-- whether the outermost node of an expression is linear in what is drawn
abbrev pub is_linear_node : Kinds → Placed → Bool
is_linear_node kinds e = without_places.is_linear_node kinds (bare e)

-- whether it isn't a choice between numbers by what is drawn
abbrev pub has_known_condition : Kinds → Placed → Bool
has_known_condition kinds e = without_places.has_known_condition kinds (bare e)

-- the places of those that fail a test
abbrev pub failing : (Placed → Bool) → List Placed → List Span
failing test es = flat_map (λ e. unless (test e) (place_of e)) es

-- the expressions of a node and all their parts, in preorder
abbrev pub all_expressions : Node → List Placed
all_expressions node = flat_map with_parts (expressions_in node)

-- the places of products and quotients that aren't linear
abbrev pub not_linear : Node → List Span
not_linear node = failing (is_linear_node (kinds_of node)) (all_expressions node)

-- the places of choices between numbers by what is drawn
abbrev pub controllable_conditions : Node → List Span
controllable_conditions node = failing (has_known_condition (kinds_of node)) (all_expressions node)

-- the places of weights that depend on what is drawn
abbrev pub controllable_weights : Node → List Span
controllable_weights node = failing (λ w. not (is_controllable (kinds_of node) w)) (weights_in node)

-- the places of arguments of runs that depend on what is drawn
abbrev pub controllable_arguments : Node → List Span
controllable_arguments node =
    failing (λ e. not (is_controllable (kinds_of node) e)) (arguments_in node)

-- The first places of a node that are refused, of each kind.
use Rattle.std.specs.Prelude.{◌≡◌, ℕ, not, List, [], ◌++◌, map, option_map, None, Some, Ok, Err, Result, Option}
use Rattle.std.specs.Option.{option_or}
use Rattle.std.specs.List.{flat_map}
use Rattle.lt_ast.specs.declared.span.Span.{Span}
use Rattle.lt_formula.specs.Kinds.{Kinds}
use Rattle.lt_macros.specs.Placed.{Placed}
use Rattle.lt_macros.specs.Expanded.{Declared, Node}
use Rattle.lt_macros.specs.Preorder.{Item, expressions_at, expressions_in, in_first, weight_at, weights_in, with_parts}
use Rattle.lt_expand.specs.Static.{bad_at, bad_first, bad_statics}
use Rattle.lt_expand.specs.Classes.{controllable_arguments, controllable_conditions, controllable_weights, failing, has_known_condition, is_controllable, is_linear_node, kinds_of, not_linear}
use Rattle.lt_expand.specs.inner.Firsts.{first}
use Rattle.lt_expand.specs.declared.refusal.ExpandRefusal.{ExpandRefusal}
use Rattle.lt_expand.specs.declared.refusal.ExpandRefusal.TheVariants.{BadStatic, NonLinear, ControllableArgument, ControllableCondition, ControllableWeight, Memory}
use Rattle.lt_expand.specs.declared.places.FirstPlaces.{FirstPlaces}

-- the first of these bounds and first values, and those in these expressions and weights
unfoldable pub places_of : Kinds → List Span → List Placed → List Placed → FirstPlaces
places_of kinds bad es ws = record {
  bad_static = first bad;
  not_linear = first (failing (is_linear_node kinds) (flat_map with_parts es));
  condition = first (failing (has_known_condition kinds) (flat_map with_parts es));
  weight = first (failing (λ w. not (is_controllable kinds w)) ws);
}

-- where there are none
abbrev pub no_places : FirstPlaces
no_places = record { bad_static = None; not_linear = None; condition = None; weight = None }

-- those of one, or else those of another
unfoldable pub or_places : FirstPlaces → FirstPlaces → FirstPlaces
or_places p q = record {
  bad_static = option_or p.bad_static q.bad_static;
  not_linear = option_or p.not_linear q.not_linear;
  condition = option_or p.condition q.condition;
  weight = option_or p.weight q.weight;
}

-- those of variables
unfoldable pub declared_places : ℕ → Kinds → List Declared → FirstPlaces
declared_places decimals kinds ds = places_of kinds (flat_map (bad_first decimals) ds) (flat_map in_first ds) []

-- those of inputs that runs give, of which the first values alone are judged, and of arguments
unfoldable pub call_places : ℕ → Kinds → List Declared → List Placed → FirstPlaces
call_places decimals kinds ds es = places_of kinds (flat_map (bad_first decimals) ds) es []

-- those of parts of a trace
unfoldable pub item_places : ℕ → Kinds → List Item → FirstPlaces
item_places decimals kinds is = places_of kinds (flat_map (bad_at decimals) is) (flat_map expressions_at is) (flat_map weight_at is)

-- those of a node
unfoldable pub node_places : ℕ → Node → FirstPlaces
node_places decimals node = places_of (kinds_of node) (bad_statics decimals node) (expressions_in node) (weights_in node)

-- what is refused first
abbrev pub refusal_of : FirstPlaces → Option ExpandRefusal
refusal_of p =
    option_or (option_map BadStatic p.bad_static)
    (option_or (option_map NonLinear p.not_linear)
    (option_or (option_map ControllableCondition p.condition)
    (option_map ControllableWeight p.weight)))

-- what is refused of a node that is within the limits
abbrev pub judged_refusals : ℕ → Node → List ExpandRefusal
judged_refusals decimals node =
    map BadStatic (bad_statics decimals node)
    ++ (map NonLinear (not_linear node)
    ++ (map ControllableCondition (controllable_conditions node)
    ++ (map ControllableWeight (controllable_weights node)
    ++ map ControllableArgument (controllable_arguments node))))

-- The answer is Ok where nothing is refused, and else it is what is refused first, if memory did not run out.
abbrev pub IsFirst : Result (Unit {0}) ExpandRefusal → List ExpandRefusal → Type 0
IsFirst (Ok x) rs = rs ≡ []
IsFirst (Err Memory) rs = Unit {0}
IsFirst (Err r) rs = first rs ≡ Some r

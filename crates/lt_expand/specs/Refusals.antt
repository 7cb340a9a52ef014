-- Why a text has no scenario, in order: the first one is the answer.
use Rattle.std.specs.Prelude.{ℕ, nat_le, List, [], ◌∷◌, ◌++◌, map}
use Rattle.std.specs.declared.option.Option.{Option}
use Rattle.std.specs.declared.option.Option.TheVariants.{None, Some}
use Rattle.lt_ast.specs.Syntax.{Declaration}
use Rattle.lt_macros.specs.Expanded.{Node}
use Rattle.lt_macros.specs.Expansion.{expanded_node}
use Rattle.lt_macros.specs.Limits.{passed_limits}
use Rattle.lt_expand.specs.Static.{bad_statics}
use Rattle.lt_expand.specs.Classes.{not_linear, controllable_arguments, controllable_conditions, controllable_weights}
use Rattle.lt_expand.specs.Nested.{most_runs, runs_in_nest}
use Rattle.lt_macros.specs.Failing.{unless}
use Rattle.lt_expand.specs.declared.refusal.ExpandRefusal.{ExpandRefusal}
use Rattle.lt_expand.specs.declared.refusal.ExpandRefusal.TheVariants.{UnknownNode, TooLarge, BadStatic, NonLinear, ControllableArgument, ControllableCondition, ControllableWeight, TooManyRuns}

-- a node: the limits that it is past, its bounds and first values, and then its expressions, each kind in preorder, and the
-- arguments of its runs
abbrev pub node_refusals : ℕ → Node → List ExpandRefusal
node_refusals decimals node =
    map TooLarge (passed_limits node)
    ++ (map BadStatic (bad_statics decimals node)
    ++ (map NonLinear (not_linear node)
    ++ (map ControllableCondition (controllable_conditions node)
    ++ (map ControllableWeight (controllable_weights node)
    ++ map ControllableArgument (controllable_arguments node)))))

-- the node that is asked for, whose nest has so many runs
abbrev pub refusals_of : ℕ → ℕ → Option Node → List ExpandRefusal
refusals_of decimals runs None = UnknownNode ∷ []
refusals_of decimals runs (Some node) =
    node_refusals decimals node ++ unless (nat_le runs most_runs) TooManyRuns

-- a text, of which the named node is asked for, or the first one
abbrev pub expand_refusals : ℕ → Option (List ℕ) → List Declaration → List ExpandRefusal
expand_refusals decimals wanted ds =
    refusals_of decimals (runs_in_nest wanted ds) (expanded_node decimals wanted ds)

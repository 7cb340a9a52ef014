-- Lists of parts as the lists of a tree.
use Rattle.std.specs.Prelude.{List, [], ◌∷◌}
use Rattle.lt_ast.specs.Syntax as s
use Rattle.lt_ast.specs.Syntax.{Argument, Arguments, Alternative, Alternatives, Trace, Traces, Grouping, Groupings}

-- arguments
abbrev pub arguments_of : List Argument → Arguments
arguments_of [] = s.no_arguments
arguments_of (a ∷ rest) = s.argument a (arguments_of rest)

-- alternatives
abbrev pub alternatives_of : List Alternative → Alternatives
alternatives_of [] = s.no_alternatives
alternatives_of (p ∷ rest) = s.alternative p (alternatives_of rest)

-- traces
abbrev pub traces_of : List Trace → Traces
traces_of [] = s.no_traces
traces_of (x ∷ rest) = s.one_trace x (traces_of rest)

-- groups
abbrev pub groups_of : List Grouping → Groupings
groups_of [] = s.no_groups
groups_of (g ∷ rest) = s.one_group g (groups_of rest)

-- The runs of a node that is expanded: which nodes are run, and what they are given.
use Rattle.std.specs.Prelude.{◌≡◌, ◌<◌, ℕ, List, length, map, string_bytes}
use Rattle.std.specs.List.{All}
use Rattle.lt_formula.specs.Expression.{Expression}
use Rattle.lt_formula.specs.Kinds.{Kinds}
use Rattle.lt_formula.specs.Table.{spelled}
use Rattle.lt_formula.specs.View.{table_expressions, table_kinds, table_len}
use Rattle.lt_macros.specs.Expanded as x
use Rattle.lt_macros.specs.Expanded.{Node}
use Rattle.lt_macros.specs.Placed.{bare}
use Rattle.lt_expand.specs.declared.calls.Call as code

-- a run: which node, and what it is given
pub record Call : Type 0 where
  pub node : List ℕ
  pub arguments : List Expression

-- a run of the tree, without places
abbrev pub call_of : x.Call → Call
call_of c = record { node = c.node; arguments = map bare c.arguments }

-- the runs of a node
abbrev pub calls_in : Node → List Call
calls_in node = map call_of node.calls

-- a run that the code has: its arguments are numbers of its table
abbrev pub call_view : code.Call → Call
call_view c = record {
  node = string_bytes c.node;
  arguments = map (spelled (table_expressions c.table)) c.arguments.items;
}

-- The table of a run is over variables of these kinds, and the numbers of its arguments are there.
abbrev pub IsOver : Kinds → code.Call → Type 0
IsOver kinds c =
    (table_kinds c.table ≡ kinds) × All (λ n. n < table_len c.table) c.arguments.items

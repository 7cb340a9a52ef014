-- The node of a text that is asked for and those before it, as the code has them.
use Rattle.std.specs.Prelude.{◌≡◌, ◌≤◌, ℕ, List, length, map, reverse}
use Rattle.std.specs.List.{All}
use Rattle.std.specs.declared.option.Option.{Option}
use Rattle.std.specs.declared.option.Option.TheVariants.{None, Some}
use Rattle.lt_ast.specs.View.{groupings, run, trace, word}
use Rattle.lt_macros.specs.Expanded.{Node}
use Rattle.lt_macros.specs.Expansion.{Runnable, node_of, runnable_of}
use Rattle.lt_macros.specs.inner.Reading.{environment, meant}
use Rattle.lt_macros.specs.declared.declarations.Asked.{Asked}
use Rattle.lt_macros.specs.declared.declarations.DeclaredNode.{DeclaredNode}
use Rattle.lt_macros.specs.declared.scope.Entry.{Entry}

-- a node as those after it may run it
abbrev pub runnable_at : ℕ → List Entry → DeclaredNode → Runnable
runnable_at decimals rows d =
    runnable_of (environment (meant decimals) rows d.environment) (word d.node.now.name)
    (groupings d.node.now.inputs) (groupings d.node.now.outputs)

-- those before a place, the newest first
abbrev pub runnables : ℕ → List Entry → List DeclaredNode → List Runnable
runnables decimals rows ds = map (runnable_at decimals rows) (reverse ds)

-- Their environments are there.
abbrev pub AreThere : ℕ → List DeclaredNode → Type 0
AreThere count ds = All (λ d. d.environment ≤ count) ds

-- The node that is asked for is this one, in the environment in which it is declared.
abbrev pub IsAsked : ℕ → List Entry → Option Asked → Option Node → Type 0
IsAsked decimals rows None node = node ≡ None
IsAsked decimals rows (Some a) node =
    (a.environment ≤ length rows)
    × AreThere (length rows) a.before.items
    × (node ≡ Some (node_of (runnables decimals rows a.before.items)
    (environment (meant decimals) rows a.environment) (word a.node.now.name)
    (groupings a.node.now.inputs) (groupings a.node.now.outputs)
    (map run a.node.now.runs.items) (trace a.node.now.body)))

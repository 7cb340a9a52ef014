-- How many runs the nest of a node has: its own, and with each of them those of the node that is run.
use Rattle.std.specs.Prelude.{ℕ, suc, ◌+◌, List, [], ◌∷◌, bytes_eq, if◌then◌else◌}
use Rattle.std.specs.declared.option.Option.{Option}
use Rattle.lt_ast.specs.Syntax as s
use Rattle.lt_ast.specs.Syntax.{Run, Declaration}
use Rattle.lt_macros.specs.Expansion.{is_wanted}

-- the most runs that a nest may have
abbrev pub most_runs : ℕ
most_runs = 16

-- a node, and how many runs its nest has
pub record Counted : Type 0 where
  pub name : List ℕ
  pub runs : ℕ

-- how many the nest of the node of this name has; 0 where there is no such node, which by the rules of types no text runs
abbrev pub count_of : List Counted → List ℕ → ℕ
count_of [] name = 0
count_of (n ∷ ns) name = if bytes_eq name n.name then n.runs else count_of ns name

-- how many runs these are, with those of the nodes that they run
abbrev pub counted_runs : List Counted → List Run → ℕ
counted_runs known [] = 0
counted_runs known (r ∷ rs) = suc (count_of known r.node.text) + counted_runs known rs

-- how many the nest of the first node has that is asked for, where these nodes are declared before; 0 where none is
abbrev pub runs_among : List Counted → Option (List ℕ) → List Declaration → ℕ
runs_among known wanted [] = 0
runs_among known wanted (s.node w ins outs rs t ∷ ds) =
    if is_wanted wanted w then counted_runs known rs
    else runs_among (record { name = w.text; runs = counted_runs known rs } ∷ known) wanted ds
runs_among known wanted (s.macro_declaration m ∷ ds) = runs_among known wanted ds
runs_among known wanted (s.exception_declaration ws ∷ ds) = runs_among known wanted ds

-- how many the nest of the node has that is asked for
abbrev pub runs_in_nest : Option (List ℕ) → List Declaration → ℕ
runs_in_nest wanted ds = runs_among [] wanted ds

-- The terms that follow a term by a step.
use Rattle.std.specs.Prelude.{ℕ, List, [], ◌∷◌, Some, slice_get}
use Rattle.std.specs.List.{flat_map}
use Rattle.std.specs.declared.option.Option.{Option}
use Rattle.lt_num.specs.declared.value.Value.{Value}
use Rattle.lt_term.specs.Advanced.{advanced}
use Rattle.lt_term.specs.Process.{Process}
use Rattle.lt_term.specs.Tree.{Node, go, leaf_node}
use Rattle.lt_instant.specs.Solved.{values_of}

-- what comes after a node, if it is an instant, where the locals have these values
abbrev pub next_by : List Value → Option (Node ℕ (Process ℕ)) → List (Process ℕ)
next_by locals (Some (leaf_node (go cs ls n))) = advanced (values_of ls locals) n ∷ []
next_by locals other = []

-- what comes after the leaves of some numbers
abbrev pub nexts_by : List Value → List (Node ℕ (Process ℕ)) → List ℕ → List (Process ℕ)
nexts_by locals nodes numbers = flat_map (λ k. next_by locals (slice_get nodes k)) numbers

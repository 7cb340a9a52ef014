-- What a chooser is asked, and what comes of its answer.
use Rattle.std.specs.Prelude.{◌≡◌, ◌<◌, ℕ, List, [], length, slice_index_or, None, Some}
use Rattle.std.specs.declared.option.Option.{Option}
use Rattle.lt_term.specs.Offers.{TermTree}
use Rattle.lt_term.specs.Size.{capped}
use Rattle.lt_term.specs.Tree.{Lasts, Weight}
use Rattle.lt_walk.specs.Before.{nodes_before}
use Rattle.lt_marks.specs.Path.{at_ordered, at_weighted, at_path}
use Rattle.lt_marks.specs.declared.walk.Reached.{Reached}
use Rattle.lt_marks.specs.declared.walk.Reached.TheVariants as reached

-- at a path in a tree stands a choice between two trees, of which the first has so many nodes
pub record IsOrder (t : TermTree ℕ) (path : List ℕ) (n : ℕ) : Type 0 where
  pub stands : at_path t path ≡ at_ordered
  pub nodes : n ≡ capped (nodes_before t path 1)

-- there stands a choice by these weights, in which these locals are in scope, with so many nodes before each part
pub record IsChoice (t : TermTree ℕ) (path : List ℕ) (ls : Lasts) (ws : List (Weight ℕ)) (ns : List ℕ) : Type 0 where
  pub stands : at_path t path ≡ at_weighted ls ws
  pub each : length ns ≡ length ws
  pub nodes : (k : ℕ) → k < length ws → slice_index_or ns k 0 ≡ capped (nodes_before t path k)

-- this holds where a walk goes on, and that where it stops
abbrev pub Chosen : Type 0 → Type 0 → Option ℕ → Type 0
Chosen goes stops (Some k) = goes
Chosen goes stops None = stops

-- behind a leaf a path may go on; at a choice at which a walk stops it ends
abbrev pub IsOpen : Reached → List ℕ → Type 0
IsOpen reached.Ordered ks = ks ≡ []
IsOpen reached.Weighted ks = ks ≡ []
IsOpen r ks = Unit {0}

-- this holds where a walk has come to a leaf, and that where it has stopped at a choice
abbrev pub Arrives : Type 0 → Type 0 → Reached → Type 0
Arrives goes stops reached.Ordered = stops
Arrives goes stops reached.Weighted = stops
Arrives goes stops r = goes

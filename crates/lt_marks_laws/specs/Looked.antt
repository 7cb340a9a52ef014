-- What stands where a draw is.
use Rattle.std.specs.Prelude.{◌≡◌, ◌≤◌, ◌<◌, ℕ, Bool, List, All, length, slice_index_or, Some}
use Rattle.lt_term.specs.Process.{Process}
use Rattle.lt_term.specs.Tree.{Lasts, vanish, nothing, raised, go}
use Rattle.lt_draw_path.specs.Tree.{Tree, ordered, weighted, Branches, size, weights_of, leaf_of, before_each}
use Rattle.lt_marks.specs.declared.walk.Reached.{Reached}
use Rattle.lt_marks.specs.declared.walk.Reached.TheVariants as reached
use Rattle.lt_marks_laws.specs.Valued.{Spot, plain}

-- a draw stops at a leaf or not, whatever comes next
abbrev pub Looks : (Spot → Bool) → Reached → List ℕ → Lasts → Bool → Type 0
Looks stops reached.Vanish cs ls b = stops (plain vanish) ≡ b
Looks stops reached.Nothing cs ls b = stops (plain nothing) ≡ b
Looks stops (reached.Raised z) cs ls b = stops (plain (raised z)) ≡ b
Looks stops reached.Go cs ls b = (n : Process ℕ) → stops (plain (go cs ls n)) ≡ b
Looks stops r cs ls b = Unit {0}

-- there stands a leaf at which the draw stops, or not
pub record HasLeaf (stops : Spot → Bool) (b : Bool) (t : Tree Spot) : Type 0 where
  pub spot : Spot
  pub stands : leaf_of t ≡ Some spot
  pub looks : stops spot ≡ b

-- there stands an order, whose first side has so many nodes
pub record HasOrder (n : ℕ) (t : Tree Spot) : Type 0 where
  pub first : Tree Spot
  pub second : Tree Spot
  pub stands : t ≡ ordered first second
  pub nodes : n ≡ size first

-- there stands a choice by weights that are worth this, with so many nodes before each part
pub record HasChoice (vs ns : List ℕ) (t : Tree Spot) : Type 0 where
  pub parts : Branches Spot
  pub stands : t ≡ weighted parts
  pub weights : vs ≡ weights_of parts
  pub nodes : (k : ℕ) → k < length (weights_of parts) → slice_index_or ns k 0 ≡ before_each parts k
  pub each : length ns ≡ length vs
  pub few : All (λ n. n ≤ 65536) ns

-- Walks along paths.
use Rattle.std.specs.Prelude.{◌≡◌, ◌≤◌, ◌+◌, ℕ, List, [], ◌++◌, take, length, map, vec_capacity}
use Rattle.lt_term.specs.Offers.{TermTree}
use Rattle.lt_term.specs.Process.{Process}
use Rattle.lt_term.specs.Tree.{Lasts, Weight, vanish, nothing, raised, go}
use Rattle.lt_term.specs.TreeView.{weight}
use Rattle.lt_marks.specs.Path.{Arrival, at_leaf, at_ordered, at_weighted, at_path}
use Rattle.lt_marks.specs.declared.walk.Reached.{Reached}
use Rattle.lt_marks.specs.declared.walk.Reached.TheVariants as reached
use Rattle.lt_marks.specs.declared.walk.Walk.{Walk}

-- what a walk holds
pub record State : Type 0 where
  -- the choices of its path that are left
  pub rest : List ℕ
  -- the constraints of the instant
  pub constraints : List ℕ
  -- the locals in scope of the instant
  pub lasts : Lasts
  -- the locals in scope at a choice by weight, and its weights
  pub scope : Lasts
  pub weights : List (Weight ℕ)

-- what a walk holds that has these choices left
abbrev pub held : List ℕ → Walk → State
held left w = record {
  rest = left;
  constraints = w.constraints.items;
  lasts = w.lasts.items;
  scope = w.scope.items;
  weights = map weight w.weights.items;
}

-- for how much it has room
pub record Capacities : Type 0 where
  pub constraints : ℕ
  pub lasts : ℕ
  pub scope : ℕ
  pub weights : ℕ
  pub before : ℕ

abbrev pub capacities : Walk → Capacities
capacities w = record {
  constraints = vec_capacity w.constraints;
  lasts = vec_capacity w.lasts;
  scope = vec_capacity w.scope;
  weights = vec_capacity w.weights;
  before = vec_capacity w.before;
}

-- a walk has room for a term of so many nodes
pub record HasRoom (n : ℕ) (w : Walk) : Type 0 where
  pub constraints : length w.constraints.items + n ≤ (capacities w).constraints
  pub lasts : length w.lasts.items + n ≤ (capacities w).lasts
  pub scope : length w.scope.items + n ≤ (capacities w).scope
  pub weights : n ≤ (capacities w).weights
  pub before : n ≤ (capacities w).before

-- a walk that holds nothing has room for a term of so many nodes
pub record IsRoomy (n : ℕ) (w : Walk) : Type 0 where
  pub constraints : n ≤ (capacities w).constraints
  pub lasts : n ≤ (capacities w).lasts
  pub scope : n ≤ (capacities w).scope
  pub weights : n ≤ (capacities w).weights
  pub before : n ≤ (capacities w).before

-- a walk that sets out on a path
abbrev pub setting_out : List ℕ → State
setting_out path = record { rest = path; constraints = []; lasts = []; scope = []; weights = [] }

-- what is found at a node: constraints and locals of an instant, or locals and weights of a choice
pub record Found : Type 0 where
  pub constraints : List ℕ
  pub lasts : Lasts
  pub weights : List (Weight ℕ)

-- what stands where a walk has found this, with these choices left and this to come next
abbrev pub arrival : Reached → List ℕ → Found → Process ℕ → Arrival ℕ (Process ℕ)
arrival reached.Vanish ks f n = at_leaf vanish ks
arrival reached.Nothing ks f n = at_leaf nothing ks
arrival (reached.Raised z) ks f n = at_leaf (raised z) ks
arrival reached.Go ks f n = at_leaf (go f.constraints f.lasts n) ks
arrival reached.Ordered ks f n = at_ordered
arrival reached.Weighted ks f n = at_weighted f.lasts f.weights

-- what a walk holds once it has found this
abbrev pub loaded : Reached → State → List ℕ → Found → State
loaded reached.Go s ks f =
    record s { rest = ks; constraints = s.constraints ++ f.constraints; lasts = s.lasts ++ f.lasts }
loaded reached.Weighted s ks f =
    record s { rest = ks; scope = s.scope ++ f.lasts; weights = f.weights }
loaded r s ks f = record s { rest = ks }

-- a walk in a tree: what it held before and holds behind, what it has reached, and what comes next
pub record Follows (t : TermTree ℕ) (before : State) (r : Reached) (after : State)
    (n : Process ℕ) : Type 0 where
  pub found : Found
  pub stands : at_path t before.rest ≡ arrival r after.rest found n
  pub holds : after ≡ loaded r before after.rest found

-- what is left of what a walk holds: the constraints of an instant, and else the first ones alone
abbrev pub settled : Reached → ℕ → State → State
settled reached.Go constraints s = s
settled r constraints s = record s { constraints = take constraints s.constraints }

-- likewise the locals in scope of an instant or of weights
abbrev pub closed : Reached → ℕ → ℕ → State → State
closed reached.Go lasts scope s = record s { scope = take scope s.scope }
closed reached.Weighted lasts scope s = record s { lasts = take lasts s.lasts }
closed r lasts scope s = record s { lasts = take lasts s.lasts; scope = take scope s.scope }

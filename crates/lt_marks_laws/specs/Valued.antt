-- The tree in which a draw goes: what a term offers, with values in place of weights.
use Rattle.std.specs.Prelude.{◌≡◌, ℕ, List, [], ◌∷◌, Ok, Err, Some}
use Rattle.std.specs.declared.result.Result.{Result}
use Rattle.lt_num.specs.declared.fault.Arith.{Arith}
use Rattle.lt_term.specs.Offers.{TermLeaf, TermTree}
use Rattle.lt_term.specs.Process.{Process}
use Rattle.lt_term.specs.Tree as t
use Rattle.lt_term.specs.Tree.{Lasts, Weight, Branches}
use Rattle.lt_draw_path.specs.Tree as l
use Rattle.lt_draw_path.specs.Tree.{Tree, leaf, ordered, weighted, spoilt, no_branch, branch, size, weights_of, leaf_of, below, before, HasPart, Leads}
use Rattle.lt_walk.specs.Before.{nodes_before}
use Rattle.lt_marks.specs.Path.{Arrival, at_leaf, at_ordered, at_weighted}
use Rattle.lt_marks.specs.Walk.{State, setting_out, arrival, Follows}
use Rattle.lt_marks.specs.declared.walk.Reached.{Reached}

-- a leaf to a draw
pub data Spot : Type 0 where
  -- a leaf of what the term offers
  plain : TermLeaf ℕ → Spot
  -- a choice with this fault in a weight
  broken : Arith → Spot

-- what a weight is worth where these locals are in scope
abbrev pub Weigher : Type 0 → Type 0
Weigher C = Lasts → Weight C → Result ℕ Arith

-- one more worth before others, or the first fault
abbrev pub with_worth : Result ℕ Arith → Result (List ℕ) Arith → Result (List ℕ) Arith
with_worth (Ok w) (Ok ws) = Ok (w ∷ ws)
with_worth (Ok w) (Err fault) = Err fault
with_worth (Err fault) ws = Err fault

-- what weights are worth, or the first fault
abbrev pub worths : {C : Type 0} → Weigher C → Lasts → List (Weight C) → Result (List ℕ) Arith
worths weigh ls [] = Ok []
worths weigh ls (w ∷ ws) = with_worth (weigh ls w) (worths weigh ls ws)

-- what a weight is worth, where it has no fault
abbrev pub worth_or_none : Result ℕ Arith → ℕ
worth_or_none (Ok w) = w
worth_or_none (Err fault) = 0

-- a choice whose weights are worth this
abbrev pub choice_of : Result (List ℕ) Arith → l.Branches Spot → Tree Spot
choice_of (Ok ws) bs = weighted bs
choice_of (Err fault) bs = spoilt (broken fault) bs

-- the tree in which a draw goes
abbrev mutual
  pub valued : Weigher ℕ → TermTree ℕ → Tree Spot
  valued weigh (t.leaf m) = leaf (plain m)
  valued weigh (t.ordered a b) = ordered (valued weigh a) (valued weigh b)
  valued weigh (t.weighted ls bs) =
      choice_of (worths weigh ls (t.weights_of bs)) (valued_each weigh ls bs)

  pub valued_each : Weigher ℕ → Lasts → Branches ℕ (Process ℕ) → l.Branches Spot
  valued_each weigh ls t.no_branch = no_branch
  valued_each weigh ls (t.branch w a bs) =
      branch (worth_or_none (weigh ls w)) (valued weigh a) (valued_each weigh ls bs)

-- this is a choice whose weights are worth that
abbrev pub IsChoiceOf : Result (List ℕ) Arith → Tree Spot → Type 0
IsChoiceOf (Ok ws) (weighted bs) = weights_of bs ≡ ws
IsChoiceOf (Err fault) (spoilt s bs) = s ≡ broken fault
IsChoiceOf r u = ⊥

-- this is a choice between two trees
abbrev pub IsOrdered : Tree Spot → Type 0
IsOrdered (ordered a b) = Unit {0}
IsOrdered u = ⊥

-- what stands at a path in what a term offers stands at the root of a tree, in which no path leads
-- behind a leaf
abbrev pub Agrees : Weigher ℕ → Arrival ℕ (Process ℕ) → Tree Spot → Type 0
Agrees weigh (at_leaf m []) u = u ≡ leaf (plain m)
Agrees weigh (at_leaf m (k ∷ ks)) u = ⊥
Agrees weigh at_ordered u = IsOrdered u
Agrees weigh (at_weighted ls ws) u = IsChoiceOf (worths weigh ls ws) u

-- this leaf of the draw stands there
abbrev pub IsSpotOf : Weigher ℕ → Spot → Arrival ℕ (Process ℕ) → Type 0
IsSpotOf weigh s (at_leaf m []) = plain m ≡ s
IsSpotOf weigh s (at_leaf m (k ∷ ks)) = ⊥
IsSpotOf weigh s at_ordered = ⊥
IsSpotOf weigh s (at_weighted ls ws) =
    (fault : Arith) × (worths weigh ls ws ≡ Err fault) × (broken fault ≡ s)

-- Both trees have as many nodes.
abbrev pub SizesAgree : Type 0
SizesAgree = (weigh : Weigher ℕ) (u : TermTree ℕ) → size (valued weigh u) ≡ t.size u

-- Before a part of a choice stand as many nodes in both.
abbrev pub PlacesAgree : Type 0
PlacesAgree = (weigh : Weigher ℕ) (u : TermTree ℕ) (path : List ℕ) (k : ℕ) →
    Leads (valued weigh u) path → HasPart (below (valued weigh u) path) k →
    before (below (valued weigh u) path) k ≡ nodes_before u path k

-- What a walk finds at a path stands there in the tree in which a draw goes.
abbrev pub WalksAgree : Type 0
WalksAgree =
    (weigh : Weigher ℕ) (u : TermTree ℕ) (path : List ℕ) (r : Reached) (after : State)
    (n : Process ℕ) → (f : Follows u (setting_out path) r after n) → Leads (valued weigh u) path →
    Agrees weigh (arrival r after.rest f.found n) (below (valued weigh u) path)

-- Where a draw stops at a leaf, a walk along its path finds that leaf.
abbrev pub LeavesAgree : Type 0
LeavesAgree =
    (weigh : Weigher ℕ) (u : TermTree ℕ) (path : List ℕ) (r : Reached) (after : State)
    (n : Process ℕ) (s : Spot) → (f : Follows u (setting_out path) r after n) →
    leaf_of (below (valued weigh u) path) ≡ Some s →
    IsSpotOf weigh s (arrival r after.rest f.found n)

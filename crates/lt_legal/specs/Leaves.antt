-- The leaves of an evaluated tree that an instant may take, as a list.
use Rattle.std.specs.Prelude.{◌≡◌, ◌↔◌, ◌≢◌, ◌+◌, ◌⊎◌, ℕ, nat_lt, Bool, List, [], ◌∷◌, ◌++◌, None, Some, slice_index_or, if◌then◌else◌}
use Rattle.std.specs.declared.option.Option.{Option}
use Rattle.std.specs.Bool.{Decides}
use Rattle.lt_term.specs.Evaluated.{Outlook, faulty, Evaluated, leaf, ordered, weighted, spoilt, Parts, no_part, part, node_count}
use Rattle.lt_term.specs.Live.{IsLive}
use Rattle.lt_term.specs.Scene.{Scene}
use Rattle.lt_term.specs.Tree.{Lasts}
use Rattle.lt_instant.specs.Drawn.{Met}
use Rattle.lt_instant.specs.Instant.{Judged, Leaf}
use Rattle.lt_instant.specs.Legal.{HasLiveLeaf, IsLegalAt, outlooks_of}
use Rattle.lt_instant.specs.Solved.{CanHold}

-- the first list, or the second where the first is empty
abbrev pub first_nonempty : {X : Type 0} → List X → List X → List X
first_nonempty [] ys = ys
first_nonempty (x ∷ xs) ys = x ∷ xs

-- The leaves that may be taken, by a test whether one is live, where the tree's root has this
-- position: at an order those of the left tree, or else those of the right one; at a choice those
-- of all parts of positive weight.
abbrev mutual
  pub legal_leaves : {F N : Type 0} → (Outlook F N → Bool) → ℕ → Evaluated F N → List (Met F N)
  legal_leaves live at (leaf o) = if live o then record { position = at; outlook = o } ∷ [] else []
  legal_leaves live at (ordered a b) =
      first_nonempty (legal_leaves live (at + 1) a) (legal_leaves live (at + 1 + node_count a) b)
  legal_leaves live at (weighted ps) = legal_in_parts live (at + 1) ps
  legal_leaves live at (spoilt fault below) = record { position = at; outlook = faulty fault } ∷ []

  pub legal_in_parts : {F N : Type 0} → (Outlook F N → Bool) → ℕ → Parts F N → List (Met F N)
  legal_in_parts live at no_part = []
  legal_in_parts live at (part w t ps) =
      (if nat_lt 0 w then legal_leaves live at t else [])
      ++ legal_in_parts live (at + node_count t) ps

-- a test tells which leaves are live
abbrev pub Tells : {F N : Type 0} → (F → Lasts → Type 0) → (Outlook F N → Bool) → Type 0
Tells {F} {N} CanHold live = (o : Outlook F N) → Decides (live o) (IsLive CanHold o)

-- some leaf of a list has this position
abbrev pub HasPosition : {F N : Type 0} → List (Met F N) → ℕ → Type 0
HasPosition [] position = ⊥
HasPosition (m ∷ ms) position = (m.position ≡ position) ⊎ HasPosition ms position

-- There is a legal leaf exactly where a live one can be reached, and a leaf may be taken exactly
-- where one of the list has its position.
abbrev pub LegalLeavesTell : Type 0
LegalLeavesTell =
    (s : Scene) (live : Leaf → Bool) (t : Judged) → Tells (CanHold s) live →
    (HasLiveLeaf s t ↔ (legal_leaves live 0 t ≢ []))
    × ((position : ℕ) → IsLegalAt s t position ↔ HasPosition (legal_leaves live 0 t) position)

-- each leaf of a list stands at its position among these outlooks
abbrev pub Stand : {F N : Type 0} → List (Option (Outlook F N)) → List (Met F N) → Type 0
Stand all [] = Unit {0}
Stand all (m ∷ ms) = (slice_index_or all m.position None ≡ Some m.outlook) × Stand all ms

-- each leaf of the list stands at its position in the tree
abbrev pub LegalLeavesStand : Type 0
LegalLeavesStand = (live : Leaf → Bool) (t : Judged) → Stand (outlooks_of t) (legal_leaves live 0 t)

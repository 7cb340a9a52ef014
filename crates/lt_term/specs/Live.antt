-- Which leaves of an evaluated tree are live, and which of them an instant may take.
use Rattle.std.specs.Prelude.{◌≡◌, ◌+◌, ◌<◌, ◌⊎◌, ℕ}
use Rattle.lt_term.specs.Evaluated.{Outlook, vanish, nothing, raised, faulty, go, Evaluated, leaf, ordered, weighted, spoilt, Parts, no_part, part, node_count}
use Rattle.lt_term.specs.Tree.{Lasts}

-- A leaf is live unless nothing can be done at it. An instant is where its formula can be satisfied by outputs and the locals
-- in scope.
abbrev pub IsLive : {F N : Type 0} → (F → Lasts → Type 0) → Outlook F N → Type 0
IsLive CanHold vanish = Unit {0}
IsLive CanHold nothing = ⊥
IsLive CanHold (raised z) = Unit {0}
IsLive CanHold (faulty fault) = Unit {0}
IsLive CanHold (go f ls n) = CanHold f ls

-- a live leaf can be reached through parts of positive weight
abbrev mutual
  pub HasLive : {F N : Type 0} → (F → Lasts → Type 0) → Evaluated F N → Type 0
  HasLive CanHold (leaf l) = IsLive CanHold l
  HasLive CanHold (ordered a b) = HasLive CanHold a ⊎ HasLive CanHold b
  HasLive CanHold (weighted ps) = OneHasLive CanHold ps
  HasLive CanHold (spoilt fault below) = Unit {0}

  pub OneHasLive : {F N : Type 0} → (F → Lasts → Type 0) → Parts F N → Type 0
  OneHasLive CanHold no_part = ⊥
  OneHasLive CanHold (part w t ps) = ((0 < w) × HasLive CanHold t) ⊎ OneHasLive CanHold ps

-- the position is so many further on than one of which P holds
abbrev pub FurtherOn : ℕ → (ℕ → Type 0) → ℕ → Type 0
FurtherOn steps P position = (n : ℕ) × (position ≡ steps + n) × P n

-- There is a leaf at this position, and it may be taken: it is live, at each order on the way to it, it is on the left, or no
-- leaf on the left is live, and at each choice it is in a part of positive weight.
abbrev mutual
  pub IsLegal : {F N : Type 0} → (F → Lasts → Type 0) → Evaluated F N → ℕ → Type 0
  IsLegal CanHold (leaf l) position = (position ≡ 0) × IsLive CanHold l
  IsLegal CanHold (ordered a b) position = FurtherOn 1 (IsLegal CanHold a) position ⊎ ((HasLive CanHold a → ⊥) × FurtherOn (1 + node_count a) (IsLegal CanHold b) position)
  IsLegal CanHold (weighted ps) position = FurtherOn 1 (IsLegalInOne CanHold ps) position
  IsLegal CanHold (spoilt fault below) position = position ≡ 0

  pub IsLegalInOne : {F N : Type 0} → (F → Lasts → Type 0) → Parts F N → ℕ → Type 0
  IsLegalInOne CanHold no_part position = ⊥
  IsLegalInOne CanHold (part w t ps) position = ((0 < w) × IsLegal CanHold t position) ⊎ FurtherOn (node_count t) (IsLegalInOne CanHold ps) position

-- The walk of the code is that of the rules.
use Rattle.std.specs.Prelude.{◌≡◌, ℕ, ◌+◌, Bool, nat_lt, map, reverse}
use Rattle.lt_instant.specs.Instant.{Judged, Leaf}
use Rattle.lt_legal.specs.Walk.{has_some, walked}
use Rattle.lt_term.specs.Evaluated as rules
use Rattle.lt_term.specs.Evaluated.{Evaluated, Outlook, node_count}
use Rattle.lt_legal.specs.Back.{back}
use Rattle.lt_legal.specs.Nodes.{Parts, Shape, count_in, faulty, leaf, no_part, ordered, part, weighted}

-- a tree is what a test says of an evaluated one
abbrev mutual
  pub IsShapeOf : {F N : Type 0} → (Outlook F N → Bool) → Evaluated F N → Shape → Type 0
  IsShapeOf test (rules.leaf o) (leaf b) = b ≡ test o
  IsShapeOf test (rules.ordered a b) (ordered x y) = IsShapeOf test a x × IsShapeOf test b y
  IsShapeOf test (rules.weighted ps) (weighted qs) = AreShapesOf test ps qs
  IsShapeOf test (rules.spoilt fault below) (faulty b qs) =
      (b ≡ test (rules.faulty fault)) × (count_in qs ≡ below)
  IsShapeOf test _ _ = ⊥

  pub AreShapesOf : {F N : Type 0} → (Outlook F N → Bool) → rules.Parts F N → Parts → Type 0
  AreShapesOf test rules.no_part no_part = Unit {0}
  AreShapesOf test (rules.part w t ps) (part v s qs) =
      (v ≡ nat_lt 0 w) × (IsShapeOf test t s × AreShapesOf test ps qs)
  AreShapesOf test _ _ = ⊥

-- by the number of a tree's node it is told whether a live leaf can be reached in it, where that is
-- the left one of an order
abbrev mutual
  pub IsAnswered : {F N : Type 0} → (Outlook F N → Bool) → (ℕ → Bool) → ℕ → Evaluated F N → Type 0
  IsAnswered live alive at (rules.leaf o) = Unit {0}
  IsAnswered live alive at (rules.ordered a b) =
      (alive (at + 1) ≡ has_some live a)
      × (IsAnswered live alive (at + 1) a × IsAnswered live alive (at + 1 + node_count a) b)
  IsAnswered live alive at (rules.weighted ps) = AreAnswered live alive (at + 1) ps
  IsAnswered live alive at (rules.spoilt fault below) = Unit {0}

  pub AreAnswered : {F N : Type 0} → (Outlook F N → Bool) → (ℕ → Bool) → ℕ → rules.Parts F N →
      Type 0
  AreAnswered live alive at rules.no_part = Unit {0}
  AreAnswered live alive at (rules.part w t ps) =
      IsAnswered live alive at t × AreAnswered live alive (at + node_count t) ps

abbrev pub WalksAreWalked : Type 0
WalksAreWalked =
    (test live : Leaf → Bool) (t : Judged) (s : Shape) (alive : ℕ → Bool) → IsShapeOf test t s →
    IsAnswered live alive 0 t →
    back alive 0 s ≡ reverse (map (λ m. m.position) (walked test live 0 t))

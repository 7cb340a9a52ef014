-- How few leaves must be searched to tell which legal leaves pass a test.
use Rattle.std.specs.Prelude.{◌≡◌, ◌+◌, ℕ, nat_lt, Bool, true, false, ◌&&◌, ◌||◌, List, [], ◌∷◌, ◌++◌, filter, if◌then◌else◌}
use Rattle.lt_num.specs.declared.fault.Arith.{Arith}
use Rattle.lt_term.specs.Evaluated.{Outlook, faulty, Evaluated, leaf, ordered, weighted, spoilt, Parts, no_part, part, node_count}
use Rattle.lt_instant.specs.Drawn.{Met}
use Rattle.lt_instant.specs.Instant.{Judged, Leaf}
use Rattle.lt_legal.specs.Leaves.{legal_leaves}

-- some leaf that passes a test can be reached through parts of positive weight
abbrev mutual
  pub has_some : {F N : Type 0} → (Outlook F N → Bool) → Evaluated F N → Bool
  has_some test (leaf o) = test o
  has_some test (ordered a b) = has_some test a || has_some test b
  has_some test (weighted ps) = one_has_some test ps
  has_some test (spoilt fault below) = test (faulty fault)

  pub one_has_some : {F N : Type 0} → (Outlook F N → Bool) → Parts F N → Bool
  one_has_some test no_part = false
  one_has_some test (part w t ps) = (nat_lt 0 w && has_some test t) || one_has_some test ps

-- The legal leaves that pass a test, which only live ones do. Whether a leaf is live is asked only
-- in the left tree of an order where none passes there and one passes on the right.
abbrev mutual
  pub walked : {F N : Type 0} → (Outlook F N → Bool) → (Outlook F N → Bool) → ℕ → Evaluated F N →
      List (Met F N)
  walked test live at (leaf o) = if test o then record { position = at; outlook = o } ∷ [] else []
  walked test live at (ordered a b) =
      if has_some test a then walked test live (at + 1) a
      else (if has_some test b
      then (if has_some live a then [] else walked test live (at + 1 + node_count a) b) else [])
  walked test live at (weighted ps) = walked_in test live (at + 1) ps
  walked test live at (spoilt fault below) =
      if test (faulty fault) then record { position = at; outlook = faulty fault } ∷ [] else []

  pub walked_in : {F N : Type 0} → (Outlook F N → Bool) → (Outlook F N → Bool) → ℕ → Parts F N →
      List (Met F N)
  walked_in test live at no_part = []
  walked_in test live at (part w t ps) =
      (if nat_lt 0 w then walked test live at t else [])
      ++ walked_in test live (at + node_count t) ps

-- a test that only live leaves pass; a choice with a fault in a weight is a live leaf
pub record IsTest {F N : Type 0} (test live : Outlook F N → Bool) : Type 0 where
  pub alive : (o : Outlook F N) → test o ≡ true → live o ≡ true
  pub faults : (f : Arith) → live (faulty f) ≡ true

abbrev pub passes : {F N : Type 0} → (Outlook F N → Bool) → Met F N → Bool
passes test m = test m.outlook

abbrev pub WalkIsLegal : Type 0
WalkIsLegal =
    (test live : Leaf → Bool) (t : Judged) → IsTest test live →
    walked test live 0 t ≡ filter (passes test) (legal_leaves live 0 t)
